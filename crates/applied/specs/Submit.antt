-- What the functions that apply an entry keep while they change the book: the directory is right, and free rows are
-- zeros. A security's row is changed in its place; a trade is submitted.
use Rattle.std.specs.Prelude.{◌≡◌, refl, Bool, true, false, List, [], ◌∷◌, map, ℕ, suc, ◌+◌, ◌/◌, ◌≤◌, ◌<◌, max, eqb, ltb, pos, length, take, get_or, set}
use Rattle.std.proofs.Common.{sym, ◌∙◌, add-one, get_or-set_other, get_or-set_same, to_z, eq-eqb, eqb-true, ltb-false, ltb-true}
use Rattle.std.proofs.Math.Path.{ap}
use Rattle.std.proofs.lemmas.Bool.{false≢true, eqb-false}
use native.Mathlib.Omega.{arith}
use Rattle.std.proofs.Math.Seq.{set_out, slice, slice-cons, slice_empty}
use Rattle.std.proofs.Math.Facts.{to_z_pos}
use mir.Syntax.{w64}
use Rattle.laws.specs.Change.{fill, put}
use Rattle.laws.specs.Keep.{every_alike}
use Rattle.laws.specs.Place.{every_at}
use Rattle.laws.specs.Search.{every, place, run}
use Rattle.laws.specs.Tests.{and_left, and_right}
use Rattle.record.specs.Codes.{kind_free, kind_request, kind_security, kind_trade, submitted}
use Rattle.record.specs.Signed.{up}
use Rattle.record.specs.Symbol.{same_symbol}
use Rattle.record.specs.declared.row.Row.{Row}
use Rattle.rules.specs.Meaning.{means_security, means_trade}
use Rattle.rules.specs.Ranges.{m1, n1, volume, when}
use Rattle.rules.specs.Rules.{as_kind, fits}
use Rattle.rules.specs.Typed.{security_written, trade_written}
use Rattle.keys.specs.declared.Key.{Key}
use Rattle.kinds.specs.Inputs.{feed_input_of}
use Rattle.kinds.specs.Kinds.{request_of, security_of, trade_of}
use Rattle.kinds.specs.Typed.{back64}
use Rattle.units.specs.Units.{shares}
use Rattle.kinds.specs.Written.{security_row, trade_history_row, trade_row}
use Rattle.kinds.specs.declared.inputs.FeedInput.{FeedInput}
use Rattle.kinds.specs.declared.rows.Security.{Security}
use Rattle.kinds.specs.declared.rows.Trade.{Trade}
use Rattle.units.specs.declared.Shares.{Shares}
use Rattle.units.specs.declared.Time.{Time}
use Rattle.units.specs.declared.TradeNo.{TradeNo}
use Rattle.model.specs.Edit.{◌≔◌, changed}
use Rattle.model.specs.Feed.{sent, traded}
use Rattle.model.specs.History.{history_row}
use Rattle.model.specs.Names.{a_security, a_trade}
use Rattle.model.specs.Order.{trade_id}
use Rattle.model.specs.Rows.{found, has_key, is, nothing, rows, same_row, there}
use Rattle.facts.specs.Feed.{between, found_between, there_between, trade_key}
use Rattle.facts.specs.Found.{found_has}
use Rattle.facts.specs.Names.{by_symbol_holds}
use Rattle.model.specs.Sound.{s1}
use Rattle.facts.specs.Rows.{Clean, length_rows, put_found, there_alike}
use Rattle.places.specs.Put.{free_put}
use Rattle.places.specs.Rows.{free_from, put_at, row_at, rows_past}
use Rattle.chains.specs.Group.{group_of, security_stays, trade_stays}
use Rattle.upkeep.specs.Added.{Added, added_keeps, added_one}
use Rattle.directory.specs.Directory.{Directory}
use Rattle.directory.specs.Found.{key_row}
use Rattle.directory.specs.declared.totals.Totals.{Totals}

-- a security's row and a trade's are those of their typed values
pub record Written (r : Row) : Type 0 where
  pub security : r.kind ≡ kind_security → security_row (security_of r) ≡ r
  pub trade : r.kind ≡ kind_trade → trade_row (trade_of r) ≡ r

pub record Ready (b d : List ℕ) (t : Totals) : Type 0 where
  pub directory : Directory b d t
  pub clean : Clean (rows b)
  pub written : (p : ℕ) → Written (row_at b p)

-- a row of another kind
written_other : (r : Row) {k : ℕ} → r.kind ≡ k → eqb k kind_security ≡ false → eqb k kind_trade ≡ false → Written r
written_other r e f g = record {
  security = λ h. absurd (false≢true (sym f ∙ eq-eqb _ kind_security (sym e ∙ h)));
  trade = λ h. absurd (false≢true (sym g ∙ eq-eqb _ kind_trade (sym e ∙ h)));
}

-- every row of a book that keeps S1 is written so
pub written_start : (b : List ℕ) → s1 (rows b) ≡ true → (p : ℕ) → Written (row_at b p)
unfolding s1
written_start b e p = go (ltb p (length b / 64)) refl
  where
    go : (t : Bool) → ltb p (length b / 64) ≡ t → Written (row_at b p)
    go true h =
        let r = row_at b p in
        let fit = every_at fits nothing (rows b) p e (rw length_rows (ltb-true p (length b / 64) h)) in
        record {
          security = λ k. security_written r ((means_security r).shows (as_kind kind_security r k ∙ fit));
          trade = λ k. trade_written r ((means_trade r).shows (as_kind kind_trade r k ∙ fit));
        }
    go false h = rw (rows_past b p (ltb-false p (length b / 64) h)) (written_other nothing refl refl refl)

written_set : (b b' : List ℕ) (at : ℕ) (n : Row) → Written n → ((p : ℕ) → Written (row_at b p))
    → rows b' ≡ set (rows b) at n → (p : ℕ) → Written (row_at b' p)
written_set b b' at n w all q p = rw q (go (eqb p at) (ltb at (length (rows b))) refl refl)
  where
    go : (t u : Bool) → eqb p at ≡ t → ltb at (length (rows b)) ≡ u → Written (get_or (set (rows b) at n) p nothing)
    go false u e h = rw (get_or-set_other (rows b) at p n nothing (eqb-false p at e)) (all p)
    go true true e h =
        rw (eqb-true p at e, get_or-set_same (rows b) at n nothing (ltb-true at (length (rows b)) h)) w
    go true false e h = rw (set_out (rows b) at n (ltb-false at (length (rows b)) h)) (all p)

-- what `change` promises
abbrev Changes : Row → ℕ → List ℕ → List ℕ → Type 0
Changes n at b b' = (b' ≡ put_at b at n) × (rows b' ≡ set (rows b) at n)

-- a row that is not free gives way to another
ready_change : (b : List ℕ) {d : List ℕ} {t : Totals} (n : Row) (at : ℕ) {b' : List ℕ} → Clean (rows b)
    → ((p : ℕ) → Written (row_at b p)) → Written n → is kind_free n ≡ false → is kind_free (row_at b at) ≡ false
    → Changes n at b b' → Directory b' d t → Ready b' d t
ready_change b n at {b'} c all w e o q s = record {
  directory = s;
  written = written_set b b' at n w all q.1;
  clean = (free_put b b' 0 at n (record { clean = c; lowest = refl }) e o q.1).clean;
}

-- ---- an entry's security
abbrev quote : FeedInput → Row → ℕ → Row
quote e s v = changed s (n1 ≔ e.price.0 ∷ m1 ≔ (s.m1 + v) ∷ when ≔ e.time.0 ∷ [])

abbrev pub quoted_by : FeedInput → List Row → List Row
quoted_by e rs =
    let s = found (a_security e.symbol) rs in
    put same_row s (quote e s (up e.shares.0)) rs

-- as the rules say
pub quoted_is : (e : Row) (rs : List Row)
    → quoted_by (feed_input_of e) rs
    ≡ put same_row (found (a_security e.symbol) rs) (traded e (found (a_security e.symbol) rs)) rs
unfolding feed_input_of
quoted_is e rs = refl

volume_up : (x : ℕ) → x ≤ volume.high → up (to_z w64 x) ≡ x
volume_up x h = rw (to_z_pos w64 {n = x} (omega arith))

module _ (b : List ℕ) (e : FeedInput) {at : ℕ} (t : there (a_security e.symbol) (rows b) ≡ true)
    (a : at ≡ place (has_key (a_security e.symbol)) (rows b))
    (f : (found (a_security e.symbol) (rows b)).m1 + up e.shares.0 ≤ volume.high)
  where
    abbrev k : Key
    k = a_security e.symbol

    abbrev s : Row
    s = row_at b at

    is_security : s ≡ found k (rows b)
    is_security = key_row k b a refl

    kind : s.kind ≡ kind_security
    kind =
        eqb-true s.kind kind_security
        (and_left (is kind_security s) (same_symbol s.symbol e.symbol)
        (sym (by_symbol_holds e.symbol s) ∙ rw is_security (found_has k (rows b) t)))

    few : s.m1 + up e.shares.0 ≤ volume.high
    few = rw is_security f

    pub quote_volume : {x : Security} {m v : ℕ} → x ≡ security_of s → m ≡ up x.volume.0 → v ≡ up e.shares.0
        → (m ≡ s.m1) × (m + v ≤ volume.high)
    unfolding security_of
    quote_volume {x} q g h =
        let l = few in
        let y = volume_up s.m1 (omega arith) in
        let z : up x.volume.0 ≡ up (to_z w64 s.m1) = ap (λ (u : Security). up u.volume.0) q in
        (omega arith, omega arith)

    abbrev renewed : Row
    renewed = quote e s (up e.shares.0)

    -- the row of the typed value
    pub quote_is : (w : Written s) {x : Security} {m v : ℕ} {y : Shares} {n : Row} → x ≡ security_of s
        → m ≡ up x.volume.0 → v ≡ up e.shares.0 → y ≡ shares (pos (m + v))
        → n
        ≡ security_row (record {
          symbol = x.symbol;
          exchange = x.exchange;
          last_price = e.price;
          volume = y;
          time = e.time;
        })
        → n ≡ renewed
    unfolding security_row security_of
    quote_is w {x} {m} {v} q g h i j =
        let l = few in
        let sum : m + v ≡ s.m1 + up e.shares.0 = let z = quote_volume q g h in omega arith in
        j ∙ rw (i, q, sum)
        (ap (λ (r : Row). quote e (changed r (m1 ≔ s.m1 ∷ [])) (up e.shares.0)) (w.security kind))

    pub quote_stays : {n : Row} → n ≡ renewed → group_of n ≡ group_of s
    quote_stays g = rw g (security_stays renewed s kind kind refl)

    written_next : Written s → Written renewed
    unfolding security_row security_of
    written_next w = record {
      security = λ _.
          let l = few in
          let back = back64 (s.m1 + up e.shares.0) (omega arith) in
          rw back (ap (λ (r : Row). quote e (changed r (m1 ≔ s.m1 ∷ [])) (up e.shares.0)) (w.security kind));
      trade = λ h. absurd (no_trade (sym kind ∙ h));
    }
      where
        no_trade : kind_security ≡ kind_trade → ⊥
        no_trade h = omega arith

    pub quoted : {n : Row} {b' d : List ℕ} {m : Totals} → n ≡ renewed → Ready b d m → Changes n at b b'
        → Directory b' d m → (rows b' ≡ quoted_by e (rows b)) × Ready b' d m
    quoted {n} {b'} g r c l =
        let q : Changes renewed at b b' = rw g at c in (
          q.1 ∙ ap (λ (r : Row). set (rows b) at (quote e r (up e.shares.0))) is_security
              ∙ rw a (sym (put_found k (quote e (found k (rows b)) (up e.shares.0)) (rows b) t)),
          ready_change b renewed at r.clean r.written (written_next (r.written at)) (rw kind) (rw kind) q l,
        )

-- ---- a trade is submitted
abbrev pub sent_in : ℕ → List Row → ℕ → List Row
sent_in time rs i =
    let t = found (a_trade i) rs in
    put same_row t (sent time t) (put same_row nothing (history_row submitted i time) rs)

-- which leaves every trade there
pub there_sent : (time : ℕ) (rs : List Row) (i j : ℕ) → there (a_trade j) (sent_in time rs i) ≡ there (a_trade j) rs
there_sent time rs i j =
    let t = found (a_trade i) rs in
    there_alike t (sent time t) (between rs time i) (a_trade j) (trade_key j (sent time t) ∙ sym (trade_key j t))
    ∙ there_between rs time i j

-- its history row, as it is written
pub history_is : (i : TradeNo) (time : Time) {h : Row}
    → h ≡ trade_history_row (record { no = i; status = submitted; time = time })
    → h ≡ history_row submitted i.0 time.0
unfolding trade_history_row
history_is i time e = e

pub history_live : (i time : ℕ) {h : Row} → h ≡ history_row submitted i time → is kind_free h ≡ false
history_live i time e = rw e

-- the book after it; requests stay where they are
pub record Sent (time i : ℕ) (b : List ℕ) (t : Totals) (b' d' : List ℕ) (t' : Totals) : Type 0 where
  pub rows : rows b' ≡ sent_in time (rows b) i
  pub ready : Ready b' d' t'
  pub room : t'.free + 1 ≡ t.free
  pub stays : (p : ℕ) → is kind_request (row_at b p) ≡ true → row_at b' p ≡ row_at b p

-- what `add` promises
abbrev Adds : Row → List ℕ → Totals → List ℕ → List ℕ → Totals → Type 0
Adds r b t b' d' t' =
    let p = free_from (rows b) 0 in
    ((b' ≡ put_at b p r) × (rows b' ≡ set (rows b) p r))
    × (Directory b' d' t'
    × ((t'.free + 1 ≡ t.free) × (t'.largest.0 ≡ max t.largest.0 (trade_id r))))

pub not_free : (r : Row) {k : ℕ} → r.kind ≡ k → eqb k kind_free ≡ false → is kind_free r ≡ false
not_free r e n = rw e n

module _ {b d : List ℕ} {t : Totals} (s : Ready b d t) (z : 1 ≤ t.free) (time i : ℕ)
    (w : there (a_trade i) (rows b) ≡ true) {h : Row} {b₁ d₁ : List ℕ} {t₁ : Totals}
    (e : h ≡ history_row submitted i time) (a : Adds h b t b₁ d₁ t₁)
  where
    added : Added (history_row submitted i time ∷ []) b t b₁ d₁ t₁
    added = added_one (record { directory = s.directory; clean = s.clean; room = z }) refl e a

    filled : rows b₁ ≡ put same_row nothing (history_row submitted i time) (rows b)
    unfolding fill
    filled = added.filled

    still : there (a_trade i) (rows b₁) ≡ true
    still = ap (there (a_trade i)) filled ∙ there_between (rows b) time i i ∙ w

    all_written : (p : ℕ) → Written (row_at b₁ p)
    all_written =
        written_set b b₁ (free_from (rows b) 0) h (rw e (written_other (history_row submitted i time) refl refl refl))
        s.written a.0.1

    module _ {at : ℕ} (p : at ≡ place (has_key (a_trade i)) (rows b₁)) where
      abbrev r : Row
      r = row_at b₁ at

      is_trade : r ≡ found (a_trade i) (rows b₁)
      is_trade = key_row (a_trade i) b₁ p refl

      trade_kind : r.kind ≡ kind_trade
      trade_kind =
          eqb-true r.kind kind_trade
          (and_left (is kind_trade r) (eqb r.id i)
          (sym (trade_key i r) ∙ rw is_trade (found_has (a_trade i) (rows b₁) still)))

      -- the row of the typed value
      pub sent_is : {x : Trade} {y : Time} {n : Row} → x ≡ trade_of r → y.0 ≡ time
          → n
          ≡ trade_row (record {
            no = x.no;
            trade_type = x.trade_type;
            status = submitted;
            flags = x.flags;
            account = x.account;
            symbol = x.symbol;
            shares = x.shares;
            bid = x.bid;
            price = x.price;
            charge = x.charge;
            commission = x.commission;
            tax = x.tax;
            time = y;
          })
          → n ≡ sent time r
      unfolding trade_row trade_of
      sent_is q f g = g ∙ rw (q, f) (ap (sent time) ((all_written at).trade trade_kind))

      written_sent : Written (sent time r)
      unfolding trade_row trade_of
      written_sent = record {
        security = λ h. absurd (no_security (sym trade_kind ∙ h));
        trade = λ _. ap (sent time) ((all_written at).trade trade_kind);
      }
        where
          no_security : kind_trade ≡ kind_security → ⊥
          no_security h = omega arith

      pub sent_stays : {n : Row} → n ≡ sent time r → group_of n ≡ group_of r
      sent_stays g = rw g (trade_stays (sent time r) r trade_kind trade_kind refl)

      pub sent_one : {n : Row} {b₂ : List ℕ} → n ≡ sent time r → Changes n at b₁ b₂ → Directory b₂ d₁ t₁
          → Sent time i b t b₂ d₁ t₁
      sent_one {n} {b₂} o v l =
          let k = a_trade i in
          let c : Changes (sent time r) at b₁ b₂ = rw o at v in
          let g : found k (rows b₁) ≡ found k (rows b) = ap (found k) filled ∙ found_between (rows b) time i i in
          let y : rows b₂ ≡ put same_row (found k (rows b₁)) (sent time (found k (rows b₁))) (rows b₁) =
          c.1 ∙ ap (λ (x : Row). set (rows b₁) at (sent time x)) is_trade
          ∙ rw p (sym (put_found k (sent time (found k (rows b₁))) (rows b₁) still))
          in
          record {
            rows = y ∙ rw (g, filled);
            ready =
                ready_change b₁ (sent time r) at added.clean all_written written_sent
                (not_free (sent time r) trade_kind refl) (not_free r trade_kind refl) c l;
            room = a.1.1.0;
            stays = keeps c.1;
          }
        where
          differ : kind_trade ≡ kind_request → ⊥
          differ v = omega arith

          keeps : rows b₂ ≡ set (rows b₁) at (sent time r) → (x : ℕ) → is kind_request (row_at b x) ≡ true
              → row_at b₂ x ≡ row_at b x
          keeps c x f =
              let asks = eqb-true (row_at b x).kind kind_request f in
              let one = added_keeps added x (not_free (row_at b x) asks refl) in
              let apart : x ≡ at → ⊥ = λ v.
              differ
              (sym trade_kind ∙ ap (λ (u : ℕ). (row_at b₁ u).kind) (sym v) ∙ ap (λ (u : Row). u.kind) one ∙ asks)
              in
              rw c (get_or-set_other (rows b₁) at x (sent time r) nothing apart) ∙ one

-- ---- the trades of the requests at places, one after the other
abbrev pub numbers : List ℕ → List ℕ → List ℕ
numbers b ps = map (λ (r : Row). r.id) (map (row_at b) ps)

-- at the first n places stand requests, whose trades are there
pub record Asking (b at : List ℕ) (n : ℕ) : Type 0 where
  pub each : (k : ℕ) → k < n → is kind_request (row_at b (get_or at k 0)) ≡ true
  pub there : every (λ (i : ℕ). there (a_trade i) (rows b)) (numbers b (take n at)) ≡ true

-- those before k are submitted, and what is left leads to w
pub record Submitting (time : ℕ) (b₀ at : List ℕ) (n : ℕ) (w : List Row) (m : ℕ) (b d : List ℕ) (t : Totals) (k : ℕ)
    : Type 0 where
  pub within : k ≤ n
  pub ready : Ready b d t
  pub left : t.free + k ≡ m
  pub same : run (sent_in time) (rows b) (numbers b₀ (slice k n at)) ≡ w
  pub there : every (λ (i : ℕ). there (a_trade i) (rows b)) (numbers b₀ (slice k n at)) ≡ true
  pub stays : (p : ℕ) → is kind_request (row_at b₀ p) ≡ true → row_at b p ≡ row_at b₀ p

pub submit_start : (time : ℕ) (b at : List ℕ) (n : ℕ) {d : List ℕ} {t : Totals} → Ready b d t → Asking b at n
    → Submitting time b at n (run (sent_in time) (rows b) (numbers b (take n at))) t.free b d t 0
submit_start time b at n {d} {t} r a = record {
  within = omega arith;
  ready = r;
  left = omega arith;
  same = refl;
  there = a.there;
  stays = λ p e. refl;
}

module _ {time : ℕ} {b₀ at : List ℕ} {n : ℕ} {w : List Row} {m : ℕ} {b d : List ℕ} {t : Totals} {k : ℕ}
    (s : Submitting time b₀ at n w m b d t k) (h : k < n) (l : n ≤ length at) (a : Asking b₀ at n)
  where
    abbrev number : ℕ
    number = (row_at b₀ (get_or at k 0)).id

    next : numbers b₀ (slice k n at) ≡ number ∷ numbers b₀ (slice (suc k) n at)
    next = ap (numbers b₀) (slice-cons k n at 0 h l)

    pub submit_number : {x : TradeNo} → x ≡ (request_of (row_at b (get_or at k 0))).no → x.0 ≡ number
    unfolding request_of
    submit_number e =
        ap (λ (y : TradeNo). y.0) e ∙ ap (λ (r : Row). r.id) (s.stays (get_or at k 0) (a.each k h))

    pub submit_there : there (a_trade number) (rows b) ≡ true
    unfolding every
    submit_there =
        and_left (there (a_trade number) (rows b))
        (every (λ (i : ℕ). there (a_trade i) (rows b)) (numbers b₀ (slice (suc k) n at)))
        (rw next at s.there)

    pub submit_room : n ≤ m → 1 ≤ t.free
    submit_room f = let e = s.left in omega arith

    pub submit_more : {i : ℕ} {b' d' : List ℕ} {t' : Totals} → i ≡ number → Sent time i b t b' d' t'
        → Submitting time b₀ at n w m b' d' t' (k + 1)
    unfolding every run
    submit_more {i} {b'} {d'} {t'} q v =
        let e : Sent time number b t b' d' t' = rw q at v in
        let rest = numbers b₀ (slice (suc k) n at) in
        let was = s.left in
        let one = e.room in
        record {
          within = omega arith;
          ready = e.ready;
          left = omega arith;
          same = rw (add-one k, e.rows) (rw next at s.same);
          there = rw (add-one k)
              (every_alike (λ (i : ℕ). there (a_trade i) (rows b')) (λ (i : ℕ). there (a_trade i) (rows b))
              (λ i. ap (there (a_trade i)) e.rows ∙ there_sent time (rows b) number i) rest
              ∙ and_right (there (a_trade number) (rows b)) (every (λ (i : ℕ). there (a_trade i) (rows b)) rest)
              (rw next at s.there));
          stays = λ p f.
              let was = s.stays p f in
              e.stays p (ap (is kind_request) was ∙ f) ∙ was;
        }

pub submit_end : {time : ℕ} {b₀ at : List ℕ} {n : ℕ} {w : List Row} {m : ℕ} {b d : List ℕ} {t : Totals} {k : ℕ}
    → Submitting time b₀ at n w m b d t k → n ≤ k → (rows b ≡ w) × (t.free + n ≡ m)
unfolding run
submit_end {at = at} {n} {k = k} s h =
    let a = s.within in
    let e : k ≡ n = omega arith in
    let none : slice k n at ≡ [] = rw (e, slice_empty n at) in
    let l = s.left in
    (rw none at s.same, omega arith)
