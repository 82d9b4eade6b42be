-- The steps of a feed: each entry changes a security that is there, and then trades that are pending are submitted,
-- each with a history row in a free place. What holds at entry and is kept by each step holds when all entries are
-- applied. Assumes nothing.
use Rattle.std.specs.Prelude.{◌≡◌, true, false, cond, ◌&&◌, ℕ, ◌+◌, ◌≤◌, length}
use Rattle.std.proofs.Math.Path.{refl}
use Rattle.std.proofs.Common.{sym, ap, subst, ◌∙◌, eq-eqb, eqb-true, leb-true}
use Rattle.std.proofs.Math.Bool.{Bool}
use mathlib.Core.List.{List, [], ◌∷◌, Memᴰ}
use native.Mathlib.Omega.{arith}
use Rattle.std.proofs.Math.Dec.{eqb, leb}
use Rattle.laws.specs.All.{All}
use Rattle.laws.specs.Change.{count_alike, put}
use Rattle.laws.specs.Keep.{count_has, count_keep, count_kept, every_alike, keep_from, the_has}
use Rattle.laws.specs.Search.{bit, count, every, keep, run, total}
use Rattle.laws.specs.Sort.{count_sort, of_sort}
use Rattle.laws.specs.Tests.{and_left, and_right}
use Rattle.laws.specs.Puts.{count_less, put_total}
use Rattle.record.specs.Codes.{kind_request, kind_security, kind_trade, pending, submitted}
use Rattle.record.specs.Symbol.{same_symbol, symbol_same}
use Rattle.record.specs.declared.row.Row.{Row}
use Rattle.rules.specs.Rules.{feed_input}
use Rattle.rules.specs.Ranges.{volume}
use Rattle.model.specs.Feed.{Fed, applied, lower, reached, sent, submit, submits, traded, triggered, volumes_fit}
use Rattle.model.specs.Feed.{waits}
use Rattle.model.specs.Names.{a_request, a_security, a_trade}
use Rattle.model.specs.Rows.{found, has_key, is, nothing, same_row, there}
use Rattle.model.specs.History.{history_row}
use Rattle.facts.specs.Found.{found_has, found_kind, found_none, own_number}
use Rattle.facts.specs.Rows.{row_itself, same_rows}
use Rattle.facts.specs.Keys.{key_of_holds}
use Rattle.facts.specs.Feed.{pends, pends_submits, submits_keep, there_next, traded_keeps, volume_after, volume_next}
use Rattle.preserved.specs.Cases.{by_cases, not_so}
use Rattle.preserved.specs.ResultTrades.{number_is}

-- an entry changes this security
pub record Trades (m : List Row) (e s : Row) : Type 0 where
  pub good : feed_input e ≡ true
  pub here : Memᴰ s m
  pub kind : s.kind ≡ kind_security
  pub volume : s.m1 + e.n2 ≤ volume.high

-- an entry submits this trade
pub record Sends (m : List Row) (e t : Row) : Type 0 where
  pub good : feed_input e ≡ true
  pub here : Memᴰ t m
  pub kind : t.kind ≡ kind_trade
  pub waits : t.status ≡ pending
  pub space : 1 ≤ count (same_row nothing) m

abbrev pub after_trade : List Row → Row → Row → List Row
after_trade m e s = put same_row s (traded e s) m

abbrev pub after_send : List Row → Row → Row → List Row
after_send m e t = put same_row t (sent e.time t) (put same_row nothing (history_row submitted t.id e.time) m)

-- what each step keeps
pub record Keeps (I : List Row → Type 0) : Type 0 where
  pub trades : (m : List Row) (e s : Row) → Trades m e s → I m → I (after_trade m e s)
  pub sends : (m : List Row) (e t : Row) → Sends m e t → I m → I (after_send m e t)

-- the steps lead from one book to the other
abbrev pub Leads : List Row → List Row → Type 1
Leads l m = (I : List Row → Type 0) → Keeps I → I l → I m

abbrev pub free : List Row → ℕ
free rs = count (same_row nothing) rs

-- ---- a trade that is pending is there
module _ (rs : List Row) (i : ℕ) (p : pends rs i ≡ true) where
  is_pending : (found (a_trade i) rs).status ≡ pending
  is_pending = eqb-true (found (a_trade i) rs).status pending p

  is_there : there (a_trade i) rs ≡ true
  is_there =
      by_cases (there (a_trade i) rs)
      (λ e. e)
      (λ e.
      let z : ◌≡◌ {A = ℕ} 0 1 = ap (λ (r : Row). r.status) (sym (found_none (a_trade i) rs e)) ∙ is_pending in
      absurd (omega arith))

-- ---- one trade is submitted
module _ (e : Row) (rs : List Row) (r : Row) (p : pends rs r.id ≡ true) where
  abbrev its : Row
  its = found (a_trade r.id) rs

  its_kind : its.kind ≡ kind_trade
  its_kind = found_kind rs (a_trade r.id) (is_there rs r.id p)

  its_number : its.id ≡ r.id
  its_number =
      number_is kind_trade refl r.id its (found_has (a_trade r.id) rs (is_there rs r.id p))

  submit_sends : feed_input e ≡ true → 1 ≤ free rs → Sends rs e its
  unfolding found there
  submit_sends g s = record {
    good = g;
    here = the_has (has_key (a_trade r.id)) nothing rs (is_there rs r.id p);
    kind = its_kind;
    waits = is_pending rs r.id p;
    space = s;
  }

  free_next : 1 ≤ free rs → free (submit e rs r) + 1 ≡ free rs
  unfolding same_row same_symbol count
  free_next s =
      let h = history_row submitted r.id e.time in
      let first = put_total same_row same_rows row_itself (λ (x : Row). bit (same_row nothing x)) nothing h rs s in
      let alike : same_row nothing (sent e.time its) ≡ same_row nothing its = rw its_kind in
      let second = count_alike same_row same_rows (same_row nothing) its (sent e.time its) alike (put same_row nothing h rs) in
      omega arith

pends_next : (e : Row) (rs : List Row) (r : Row) (i : ℕ) → pends rs i ≡ true → eqb r.id i ≡ false
    → pends (submit e rs r) i ≡ true
unfolding run every
pends_next e rs r i p n = pends_submits e rs (r ∷ []) i ∙ rw (p, n)

-- no two requests of a list have one number
abbrev Apart : List Row → Type 0
Apart ts = (i : ℕ) → count (λ (t : Row). eqb t.id i) ts ≤ 1

apart_head : (r : Row) (ts : List Row) → Apart (r ∷ ts) → (t : Row) → Memᴰ t ts → eqb r.id t.id ≡ false
unfolding count total
apart_head r ts a t m =
    not_so (eqb r.id t.id)
    (λ q.
    let one = ap bit q in
    let two = count_has (λ (x : Row). eqb x.id t.id) t ts m (eq-eqb t.id t.id refl) in
    let most = a t.id in
    omega arith)

apart_tail : (r : Row) (ts : List Row) → Apart (r ∷ ts) → Apart ts
unfolding count total
apart_tail r ts a i = let h = a i in omega arith

module _ (I : List Row → Type 0) (k : Keeps I) where
  -- ---- all trades that an entry submits
  submits_lead : (e : Row) → feed_input e ≡ true → (rs ts : List Row)
      → All (λ (t : Row). pends rs t.id ≡ true) ts → Apart ts → length ts ≤ free rs → I rs
      → I (run (submit e) rs ts) × (free (run (submit e) rs ts) + length ts ≡ free rs)
  unfolding run
  submits_lead e g rs [] ps a s i = (i, omega arith)
  submits_lead e g rs (r ∷ ts) ps a s i =
      let p = ps r (Memᴰ.head refl) in
      let its = found (a_trade r.id) rs in
      let some : 1 ≤ free rs = omega arith in
      let step = k.sends rs e its (submit_sends e rs r p g some) i in
      let left = free_next e rs r p some in
      let rest =
      submits_lead e g (submit e rs r) ts
      (λ t m. pends_next e rs r t.id (ps t (Memᴰ.tail m)) (apart_head r ts a t m)) (apart_tail r ts a)
      (omega arith)
      (subst (λ (j : ℕ). I (put same_row its (sent e.time its) (put same_row nothing (history_row submitted j e.time) rs)))
      (its_number e rs r p) step)
      in
      (rest.0, omega arith)

-- ---- what an entry submits
module _ (rs : List Row) (e : Row) where
  chosen_wait : All (λ (t : Row). pends rs t.id ≡ true) (submits rs e)
  unfolding submits
  chosen_wait t m =
      let q = (keep_from (triggered rs e) t rs (of_sort lower (keep (triggered rs e) rs) t m)).1 in
      let on = same_symbol t.symbol e.symbol in
      and_right (is kind_request t) (pends rs t.id)
      (and_left (waits rs t) on (and_left (waits rs t && on) (reached e t) q))

  chosen_apart : ((i : ℕ) → count (has_key (a_request i)) rs ≤ 1) → Apart (submits rs e)
  unfolding submits
  chosen_apart one i =
      let q : Row → Bool = λ t. eqb t.id i in
      let sorted = count_sort q lower (keep (triggered rs e) rs) in
      let kept = count_keep (triggered rs e) q rs in
      let less =
      count_less (λ t. triggered rs e t && q t) (has_key (a_request i)) rs
      (λ t m h.
      let on = same_symbol t.symbol e.symbol in
      let w = and_left (triggered rs e t) (q t) h in
      own_number kind_request refl i t
      (and_left (is kind_request t) (pends rs t.id)
      (and_left (waits rs t) on (and_left (waits rs t && on) (reached e t) w)))
      (eqb-true t.id i (and_right (triggered rs e t) (q t) h)))
      in
      let most = one i in
      omega arith

more_trades : (f : Fed) (es : List Row) → f.trades ≤ (run applied f es).trades
unfolding run applied
more_trades f [] = omega arith
more_trades f (e ∷ es) = let h = more_trades (applied f e) es in omega arith

-- the requests of a number are as many after an entry
requests_trade : (rs : List Row) (e : Row) (i : ℕ)
    → count (has_key (a_request i)) (after_trade rs e (found (a_security e.symbol) rs)) ≡ count (has_key (a_request i)) rs
requests_trade rs e i =
    let p = has_key (a_request i) in
    let of = key_of_holds (a_request i) in
    let same = traded_keeps kind_request p of (λ q. omega arith) e e.symbol rs (λ q. omega arith) in
    count_kept p (after_trade rs e (found (a_security e.symbol) rs)) ∙ ap (count p) same ∙ sym (count_kept p rs)

requests_next : (f : Fed) (e : Row) (i : ℕ)
    → count (has_key (a_request i)) (applied f e).rows ≡ count (has_key (a_request i)) f.rows
unfolding applied
requests_next f e i =
    let p = has_key (a_request i) in
    let rs = after_trade f.rows e (found (a_security e.symbol) f.rows) in
    let same =
    submits_keep kind_request p (key_of_holds (a_request i)) (λ q. omega arith) e (λ q. omega arith) (λ q. omega arith) rs
    (submits rs e)
    in
    count_kept p (applied f e).rows ∙ ap (count p) same ∙ sym (count_kept p rs) ∙ requests_trade f.rows e i

free_trade : (rs : List Row) (e s : Row) → s.kind ≡ kind_security → free (after_trade rs e s) ≡ free rs
unfolding same_row
free_trade rs e s k = count_alike same_row same_rows (same_row nothing) s (traded e s) (rw k) rs

-- ---- one entry
module _ (f : Fed) (e : Row) (es : List Row) (known : there (a_security e.symbol) f.rows ≡ true) where
  abbrev priced : Row
  priced = found (a_security e.symbol) f.rows

  fits_now : leb (found (a_security e.symbol) (run applied (applied f e) es).rows).m1 volume.high ≡ true
      → priced.m1 + e.n2 ≤ volume.high
  fits_now h =
      let next = volume_next f e e.symbol known in
      let same = ap (λ (b : Bool). cond b e.n2 0) (symbol_same e.symbol e.symbol refl) in
      let last = volume_after e.symbol (applied f e) es (there_next f e e.symbol ∙ known) in
      let most =
      leb-true (found (a_security e.symbol) (run applied (applied f e) es).rows).m1 volume.high h
      in
      omega arith

  entry_trades : feed_input e ≡ true
      → leb (found (a_security e.symbol) (run applied (applied f e) es).rows).m1 volume.high ≡ true
      → Trades f.rows e priced
  unfolding found there
  entry_trades g h = record {
    good = g;
    here = the_has (has_key (a_security e.symbol)) nothing f.rows known;
    kind = found_kind f.rows (a_security e.symbol) known;
    volume = fits_now h;
  }

-- ---- all entries
module _ (I : List Row → Type 0) (k : Keeps I) where
  entry_leads : (f : Fed) (e : Row) → feed_input e ≡ true → Trades f.rows e (found (a_security e.symbol) f.rows)
      → ((i : ℕ) → count (has_key (a_request i)) f.rows ≤ 1) → (applied f e).trades ≤ f.trades + free f.rows
      → I f.rows
      → I (applied f e).rows × ((applied f e).trades + free (applied f e).rows ≡ f.trades + free f.rows)
  unfolding applied
  entry_leads f e g t one s i =
      let o = found (a_security e.symbol) f.rows in
      let rs = after_trade f.rows e o in
      let same = free_trade f.rows e o t.kind in
      let rest =
      submits_lead I k e g rs (submits rs e) (chosen_wait rs e)
      (chosen_apart rs e (λ j. let h = one j in let q = requests_trade f.rows e j in omega arith)) (omega arith)
      (k.trades f.rows e o t i)
      in
      let left = rest.1 in
      (rest.0, omega arith)

  pub entries_lead : (f : Fed) (es : List Row) → every feed_input es ≡ true
      → every (λ (e : Row). there (a_security e.symbol) f.rows) es ≡ true
      → volumes_fit (run applied f es).rows es ≡ true → (run applied f es).trades ≤ f.trades + free f.rows
      → ((i : ℕ) → count (has_key (a_request i)) f.rows ≤ 1) → I f.rows → I (run applied f es).rows
  unfolding run every
  entries_lead f [] g t v s one i = i
  entries_lead f (e ∷ es) g t v s one i =
      let known : Fed → Row → Bool = λ u x. there (a_security x.symbol) u.rows in
      let last = (run applied (applied f e) es).rows in
      let fit : Row → Bool = λ x. leb (found (a_security x.symbol) last).m1 volume.high in
      let good = and_left (feed_input e) (every feed_input es) g in
      let more = more_trades (applied f e) es in
      let first =
      entry_leads f e good
      (entry_trades f e es (and_left (known f e) (every (known f) es) t) good (and_left (fit e) (every fit es) v))
      one (omega arith) i
      in
      let room = first.1 in
      entries_lead (applied f e) es (and_right (feed_input e) (every feed_input es) g)
      (every_alike (known (applied f e)) (known f) (λ x. there_next f e x.symbol) es
      ∙ and_right (known f e) (every (known f) es) t)
      (and_right (fit e) (every fit es) v) (omega arith)
      (λ j. let h = one j in let q = requests_next f e j in omega arith) first.0
