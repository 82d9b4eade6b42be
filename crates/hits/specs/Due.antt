-- How many trades a feed submits and which requests leave, told from the book at entry: a request is due where one of
-- the entries is on its symbol and reaches its bid. Along the entries the requests stay as they are, and a request's
-- trade is pending until an entry hits it.
use Rattle.std.specs.Prelude.{◌≡◌, ◌&&◌, ◌||◌, ℕ, ◌+◌, ◌<◌, eqb, take, get_or}
use Rattle.std.proofs.Math.Path.{refl, ap}
use Rattle.std.proofs.Common.{sym, subst, ◌∙◌, add-zero, zero-add, arith}
use Rattle.std.proofs.Math.Bool.{Bool, true, false, cond, not}
use Rattle.std.proofs.lemmas.Bool.{false≢true}
use mathlib.Core.List.{List, [], ◌∷◌, map, Memᴰ}
use Rattle.std.proofs.Math.ListN.{length}
use borrow.Author.Tests.{eq-eqb, eqb-true, eqb-false, le-leb}
use Rattle.laws.specs.Change.{put}
use Rattle.laws.specs.Keep.{count_has, count_keep, count_none, count_on, count_split, every_keep, keep_from, keep_has}
use Rattle.laws.specs.Keep.{keep_keep, map_on, the_has}
use Rattle.laws.specs.Search.{bit, length_keep, count, every, keep, means_every, run}
use Rattle.laws.specs.Sort.{every_sort, length_sort, sort}
use Rattle.laws.specs.Tests.{and_false, and_left, and_right, one_truth, or_assoc, or_false, or_true}
use Rattle.record.specs.Codes.{kind_request, kind_trade, pending}
use Rattle.record.specs.Symbol.{same_symbol}
use Rattle.record.specs.declared.row.Row.{Row}
use Rattle.model.specs.Feed.{Fed, applied, lower, reached, submits, swept, traded, triggered, waits}
use Rattle.model.specs.Names.{a_request, a_security, a_trade, named}
use Rattle.model.specs.Rows.{found, has_key, is, nothing, same_row, there}
use Rattle.model.specs.Sound.{sound}
use Rattle.model.specs.SoundMeans.{SoundBook, means_s2, means_sound}
use Rattle.facts.specs.Found.{found_again, own_number, found_has}
use Rattle.facts.specs.Names.{by_id_holds}
use Rattle.facts.specs.Keys.{kind_of_holds}
use Rattle.facts.specs.Feed.{pends, pends_submits, pends_traded, submits_keep, traded_keeps}
use Rattle.hits.specs.Hits.{any_reaches, due, first_hit, fresh, hit_one_more, hit_by, hits, hits_is}

-- ---- the requests of a book, none with the number of another, and d tells those that wait no longer
abbrev pub Alone : List Row → Type 0
Alone ks = (r t : Row) → Memᴰ r ks → Memᴰ t ks → r.id ≡ t.id → r ≡ t

pub record Waiting (ks : List Row) (d : Row → Bool) (rs : List Row) : Type 0 where
  requests : keep (is kind_request) rs ≡ ks
  waiting : (r : Row) → Memᴰ r ks → pends rs r.id ≡ not (d r)

-- ---- one entry
abbrev chosen : List Row → Row → Row → Bool
chosen rs e r = pends rs r.id && hits e r

four : (a b c d : Bool) → (a && b && c && d) ≡ (a && (b && (c && d)))
four true true c d = refl
four true false c d = refl
four false b c d = refl

module _ (ks : List Row) (d : Row → Bool) where
  -- the requests that an entry submits, among all requests
  submits_are : (rs : List Row) (e : Row) → Waiting ks d rs → submits rs e ≡ sort lower (keep (chosen rs e) ks)
  unfolding submits
  submits_are rs e w =
      let q : (r : Row) → triggered rs e r ≡ (is kind_request r && chosen rs e r) =
      λ r. four (is kind_request r) (pends rs r.id) (same_symbol r.symbol e.symbol) (reached e r)
      ∙ ap (λ (x : Bool). is kind_request r && (pends rs r.id && x)) (sym (hits_is e r))
      in
      let k : keep (triggered rs e) rs ≡ keep (λ r. is kind_request r && chosen rs e r) rs =
      λ j. keep (λ r. q r j) rs
      in
      ap (sort lower) (k ∙ keep_keep (is kind_request) (chosen rs e) rs ∙ ap (keep (chosen rs e)) w.requests)

  after_trade_holds : (rs : List Row) (e : Row) → Waiting ks d rs
      → Waiting ks d (put same_row (found (a_security e.symbol) rs) (traded e (found (a_security e.symbol) rs)) rs)
  after_trade_holds rs e w = record {
    requests =
        traded_keeps kind_request (is kind_request) (kind_of_holds kind_request) (λ q. omega arith) e e.symbol rs
        (λ q. omega arith)
        ∙ w.requests;
    waiting = λ r m. pends_traded e e.symbol rs r.id ∙ w.waiting r m;
  }

  -- no chosen request has the number of r, where r is not chosen
  none_named : Alone ks → (p : Row → Bool) (r : Row) → Memᴰ r ks
      → every (λ (t : Row). not (eqb t.id r.id)) (keep p ks) ≡ not (p r)
  none_named one p r m =
      every_keep p (λ (t : Row). not (eqb t.id r.id)) ks
      ∙ one_truth (every (λ t. not (p t) || not (eqb t.id r.id)) ks) (not (p r)) to from
    where
      all : every (λ t. not (p t) || not (eqb t.id r.id)) ks ≡ true
          → (t : Row) → Memᴰ t ks → (not (p t) || not (eqb t.id r.id)) ≡ true
      all =
          (means_every {P = λ t. (not (p t) || not (eqb t.id r.id)) ≡ true} ks
          (λ t. record { shows = λ e. e; holds = λ e. e })).shows

      to : every (λ t. not (p t) || not (eqb t.id r.id)) ks ≡ true → not (p r) ≡ true
      to h = at (p r) (eqb r.id r.id) (eq-eqb r.id r.id refl) (all h r m)
        where
          at : (a b : Bool) → b ≡ true → (not a || not b) ≡ true → not a ≡ true
          at true b e h = absurd (false≢true (sym (ap not e) ∙ h))
          at false b e h = refl

      from : not (p r) ≡ true → every (λ t. not (p t) || not (eqb t.id r.id)) ks ≡ true
      from h =
          (means_every {P = λ t. (not (p t) || not (eqb t.id r.id)) ≡ true} ks
          (λ t. record { shows = λ e. e; holds = λ e. e })).holds
          (λ t n. at t n (eqb t.id r.id) refl)
        where
          at : (t : Row) → Memᴰ t ks → (b : Bool) → eqb t.id r.id ≡ b
              → (not (p t) || not (eqb t.id r.id)) ≡ true
          at t n true e = let q = one t r n m (eqb-true t.id r.id e) in rw (ap p q, h)
          at t n false e = rw e (or_true (not (p t)))

  after_entry : Alone ks → (f : Fed) (e : Row) → Waiting ks d f.rows
      → Waiting ks (λ r. d r || hits e r) (applied f e).rows
  unfolding applied
  after_entry one f e w =
      let s = found (a_security e.symbol) f.rows in
      let rs = put same_row s (traded e s) f.rows in
      let u = after_trade_holds f.rows e w in
      record {
        requests =
            submits_keep kind_request (is kind_request) (kind_of_holds kind_request) (λ q. omega arith) e (λ q. omega arith)
            (λ q. omega arith) rs (submits rs e)
            ∙ u.requests;
        waiting = λ r m.
            let p : Row → Bool = λ t. not (eqb t.id r.id) in
            pends_submits e rs (submits rs e) r.id
            ∙ ap (λ (b : Bool). pends rs r.id && b)
            (ap (every p) (submits_are rs e u) ∙ every_sort lower p (keep (chosen rs e) ks)
            ∙ none_named one (chosen rs e) r m)
            ∙ still (pends rs r.id) (d r) (hits e r) (u.waiting r m);
      }
    where
      both : (b c : Bool) → (not b && not (not b && c)) ≡ not (b || c)
      both true c = refl
      both false c = refl

      still : (a b c : Bool) → a ≡ not b → (a && not (a && c)) ≡ not (b || c)
      still a b c e = rw e (both b c)

  entry_trades : (f : Fed) (e : Row) → Waiting ks d f.rows
      → (applied f e).trades ≡ f.trades + count (λ r. not (d r) && hits e r) ks
  unfolding applied
  entry_trades f e w =
      let s = found (a_security e.symbol) f.rows in
      let rs = put same_row s (traded e s) f.rows in
      let u = after_trade_holds f.rows e w in
      ap (λ (n : ℕ). f.trades + n)
      (ap length (submits_are rs e u) ∙ length_sort lower (keep (chosen rs e) ks) ∙ length_keep (chosen rs e) ks
      ∙ count_on (chosen rs e) (λ r. not (d r) && hits e r) ks
      (λ r m. ap (λ (b : Bool). b && hits e r) (u.waiting r m)))

-- ---- the entries in turn
-- those before the entry numbered i are applied, and the requests that they hit wait no longer
pub record Going (es : List Row) (i : ℕ) (rs : List Row) : Type 0 where
  ks : List Row
  alone : Alone ks
  waiting : Waiting ks (hit_by (take i es)) rs

keep_on : (p q : Row → Bool) (l : List Row) → ((x : Row) → Memᴰ x l → p x ≡ q x) → keep p l ≡ keep q l
unfolding keep
keep_on p q [] h = refl
keep_on p q (x ∷ l) h = rw (h x (mathlib.Core.List.Memᴰ.head refl), keep_on p q l (λ y m. h y (mathlib.Core.List.Memᴰ.tail m)))

module _ {es : List Row} {i : ℕ} {rs : List Row} (g : Going es i rs) where
  abbrev pub entry : Row
  entry = get_or es i nothing

  abbrev pub after_quote : List Row
  after_quote =
      put same_row (found (a_security entry.symbol) rs) (traded entry (found (a_security entry.symbol) rs)) rs

  -- what the entry submits, told by the entries
  pub fresh_submits : sort lower (keep (fresh es i) after_quote) ≡ submits after_quote entry
  fresh_submits =
      let d = hit_by (take i es) in
      let w = after_trade_holds g.ks d rs entry g.waiting in
      let kept : keep (fresh es i) after_quote ≡ keep (first_hit es i) g.ks =
      keep_keep (is kind_request) (first_hit es i) after_quote ∙ ap (keep (first_hit es i)) w.requests
      in
      let same : keep (first_hit es i) g.ks ≡ keep (chosen after_quote entry) g.ks =
      keep_on (first_hit es i) (chosen after_quote entry) g.ks
      (λ r m. turn (hits entry r) (d r) ∙ ap (λ (x : Bool). x && hits entry r) (sym (w.waiting r m)))
      in
      ap (sort lower) (kept ∙ same) ∙ sym (submits_are g.ks d after_quote entry w)
    where
      turn : (a b : Bool) → (a && not b) ≡ (not b && a)
      turn true true = refl
      turn true false = refl
      turn false true = refl
      turn false false = refl

  pub going_on : i < length es → (n : ℕ) → Going es (i + 1) (applied (record { rows = rs; trades = n }) entry).rows
  going_on h n =
      let w = after_entry g.ks (hit_by (take i es)) g.alone (record { rows = rs; trades = n }) entry g.waiting
      in
      record {
        ks = g.ks;
        alone = g.alone;
        waiting = record {
          requests = w.requests;
          waiting = λ r m. w.waiting r m ∙ ap not (sym (hit_one_more es i h r));
        };
      }

-- ---- all entries
after_all : (ks : List Row) → Alone ks → (d : Row → Bool) (f : Fed) (es : List Row) → Waiting ks d f.rows
    → Waiting ks (λ r. d r || hit_by es r) (run applied f es).rows
unfolding run any_reaches
after_all ks one d f [] w = record {
  requests = w.requests;
  waiting = λ r m. w.waiting r m ∙ ap not (sym (or_false (d r)));
}
after_all ks one d f (e ∷ es) w =
    let v = after_all ks one (λ r. d r || hits e r) (applied f e) es (after_entry ks d one f e w) in
    record {
      requests = v.requests;
      waiting = λ r m. v.waiting r m ∙ ap not (or_assoc (d r) (hits e r) (hit_by es r));
    }

all_trades : (ks : List Row) → Alone ks → (d : Row → Bool) (f : Fed) (es : List Row) → Waiting ks d f.rows
    → (run applied f es).trades ≡ f.trades + count (λ r. not (d r) && hit_by es r) ks
unfolding run any_reaches
all_trades ks one d f [] w =
    let z = count_none (λ r. not (d r) && false) ks (λ r. and_false (not (d r))) in
    sym (ap (λ (n : ℕ). f.trades + n) z ∙ add-zero f.trades)
all_trades ks one d f (e ∷ es) w =
    let more = all_trades ks one (λ r. d r || hits e r) (applied f e) es (after_entry ks d one f e w) in
    let here = entry_trades ks d f e w in
    let sum =
    count_split (λ r. not (d r) && hits e r) (λ r. not (d r || hits e r) && hit_by es r)
    (λ r. not (d r) && (hits e r || hit_by es r)) ks (λ r. parts (d r) (hits e r) (hit_by es r))
    in
    omega arith
  where
    parts : (a b c : Bool) → bit (not a && b) + bit (not (a || b) && c) ≡ bit (not a && (b || c))
    parts true b c = refl
    parts false true c = refl
    parts false false true = refl
    parts false false false = refl

-- ---- a sound book: every request waits
module _ (rs : List Row) (b : SoundBook rs) where
  all_alone : Alone (keep (is kind_request) rs)
  all_alone r t m n e =
      let x = keep_from (is kind_request) r rs m in
      let y = keep_from (is kind_request) t rs n in
      let unique = (means_s2 rs).holds b.s2 in
      sym (found_again kind_request refl rs unique r x.0 x.1) ∙ ap (λ (i : ℕ). found (a_request i) rs) e
      ∙ found_again kind_request refl rs unique t y.0 y.1

  has_trade : (r : Row) → Memᴰ r rs → is kind_request r ≡ true → there (a_trade r.id) rs ≡ true
  unfolding named there
  has_trade r m k =
      let e = eqb-true r.kind kind_request k in
      let n : Memᴰ (a_trade r.id) (named r) = rw e (mathlib.Core.List.Memᴰ.head refl) in
      le-leb 1 (count (has_key (a_trade r.id)) rs) (b.s3 r m (a_trade r.id) n)

  still_pending : (r : Row) → Memᴰ r rs → is kind_request r ≡ true → pends rs r.id ≡ true
  unfolding there found
  still_pending r m k = go (pends rs r.id) refl
    where
      t : Row
      t = found (a_trade r.id) rs

      key : (is kind_trade t && eqb t.id r.id) ≡ true
      key = sym (by_id_holds kind_trade refl r.id t) ∙ found_has (a_trade r.id) rs (has_trade r m k)

      go : (x : Bool) → pends rs r.id ≡ x → pends rs r.id ≡ true
      go true e = e
      go false e =
          let i = eqb-true t.id r.id (and_right (is kind_trade t) (eqb t.id r.id) key) in
          let j = eqb-true t.kind kind_trade (and_left (is kind_trade t) (eqb t.id r.id) key) in
          let n = the_has (has_key (a_trade r.id)) nothing rs (has_trade r m k) in
          let none = (b.s6 t n j).1 (eqb-false t.status pending e) in
          let one = count_has (has_key (a_request t.id)) r rs m (own_number kind_request refl t.id r k (sym i)) in
          absurd (omega arith)

  all_wait : Waiting (keep (is kind_request) rs) (λ r. false) rs
  all_wait = record {
    requests = refl;
    waiting = λ r m.
        let x = keep_from (is kind_request) r rs m in
        still_pending r x.0 x.1;
  }

abbrev fed : List Row → List Row → Fed
fed rs es = run applied (record { rows = rs; trades = 0 }) es

-- ---- what a feed does, by the requests that are due at entry
module _ (rs es : List Row) (e : sound rs ≡ true) where
  book : SoundBook rs
  book = (means_sound rs).shows e

  pub going_start : Going es 0 rs
  unfolding any_reaches
  going_start = record { ks = keep (is kind_request) rs; alone = all_alone rs book; waiting = all_wait rs book }

  pub trades_due : (run applied (record { rows = rs; trades = 0 }) es).trades ≡ count (due es) rs
  trades_due =
      all_trades (keep (is kind_request) rs) (all_alone rs book) (λ r. false) (record { rows = rs; trades = 0 }) es
      (all_wait rs book)
      ∙ zero-add (count (hit_by es) (keep (is kind_request) rs))
      ∙ count_keep (is kind_request) (hit_by es) rs

  after_fed : Waiting (keep (is kind_request) rs) (hit_by es) (fed rs es).rows
  after_fed =
      after_all (keep (is kind_request) rs) (all_alone rs book) (λ r. false) (record { rows = rs; trades = 0 }) es
      (all_wait rs book)

  -- no entry changes a request: as many are due in the end
  pub due_still : count (due es) (fed rs es).rows ≡ count (due es) rs
  due_still =
      sym (count_keep (is kind_request) (hit_by es) (fed rs es).rows) ∙ ap (count (hit_by es)) after_fed.requests
      ∙ count_keep (is kind_request) (hit_by es) rs

  pub swept_due : swept (run applied (record { rows = rs; trades = 0 }) es).rows
      ≡ map (λ (r : Row). cond (due es r) nothing r) (run applied (record { rows = rs; trades = 0 }) es).rows
  unfolding swept
  swept_due =
      map_on (λ (r : Row). cond (is kind_request r && not (waits (fed rs es).rows r)) nothing r)
      (λ (r : Row). cond (due es r) nothing r) (fed rs es).rows
      (λ r m. ap (λ (x : Bool). cond x nothing r) (go r m (is kind_request r) refl))
    where
      twice : (x : Bool) → not (not x) ≡ x
      twice true = refl
      twice false = refl

      go : (r : Row) → Memᴰ r (fed rs es).rows → (t : Bool) → is kind_request r ≡ t
          → (is kind_request r && not (waits (fed rs es).rows r)) ≡ due es r
      go r m true k =
          let n = subst (λ (l : List Row). Memᴰ r l) after_fed.requests
          (keep_has (is kind_request) r (fed rs es).rows m k)
          in
          rw (k, after_fed.waiting r n) (twice (hit_by es r))
      go r m false k = rw k
