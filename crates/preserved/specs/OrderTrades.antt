-- An order that is taken leaves S6 and S7: its trade has the history of its status, and a request exactly where it
-- waits. Assumes nothing.
use Rattle.std.specs.Prelude.{◌≡◌, Bool, true, false, cond, ◌&&◌, ℕ, ◌+◌, ◌≤◌, eqb, leb, ltb}
use Rattle.std.proofs.Math.Path.{refl}
use Rattle.std.proofs.Common.{sym, ap, ◌∙◌}
use mathlib.Core.List.{List, Memᴰ}
use native.Mathlib.Omega.{arith}
use borrow.Author.Tests.{eq-eqb, eqb-false, eqb-true, le-ltb, leb-false, ne_eqb}
use Rattle.laws.specs.All.{All}
use Rattle.laws.specs.Keep.{count_has}
use Rattle.laws.specs.Search.{count}
use Rattle.laws.specs.Puts.{count_no}
use Rattle.record.specs.Codes.{kind_request, kind_trade, kind_trade_history, pending, submitted, tlb, tms}
use Rattle.keys.specs.Key.{among, by_id, key_of}
use Rattle.record.specs.Symbol.{symbol_same}
use Rattle.keys.specs.declared.Key.{Key}
use Rattle.record.specs.declared.row.Row.{Row}
use Rattle.model.specs.Names.{a_history, a_request, an_account}
use Rattle.model.specs.Order.{first_status}
use Rattle.model.specs.Rows.{found, has_key, is, nothing}
use Rattle.model.specs.Sound.{higher}
use Rattle.model.specs.SoundMeans.{S6, S7, There}
use Rattle.facts.specs.Found.{own_number}
use Rattle.facts.specs.Keys.{own_key}
use Rattle.preserved.specs.Cases.{by_cases}
use Rattle.preserved.specs.Looks.{agrees_not, agrees_of, agrees_by}
use Rattle.preserved.specs.OrderAdds.{grown_comes, grown_count, grown_each, still_count}
use Rattle.preserved.specs.OrderFresh.{Taken, added, book, count_added, each_added, history, none_numbered}
use Rattle.preserved.specs.OrderFresh.{not_numbered, number_below, other_numbered, request, trade, trade_below}
use Rattle.preserved.specs.OrderNames.{left, off_found, off_key, stays}

-- ---- requests
all_six : {a b c d e f : Bool} → a ≡ true → b ≡ true → c ≡ true → d ≡ true → e ≡ true → f ≡ true
    → (a && b && c && d && e && f) ≡ true
all_six p q r s t u = rw (p, q, r, s, t, u)

-- the first status tells whether an order waits
waits : (t : Bool) → cond t submitted pending ≡ pending → t ≡ false
waits true e = absurd (omega arith)
waits false e = refl

waits_not : (t : Bool) → (cond t submitted pending ≡ pending → ⊥) → t ≡ true
waits_not true n = refl
waits_not false n = absurd (n refl)

module _ {rs : List Row} {input : Row} {broker number price charge commission : ℕ}
    (o : Taken rs input broker number price charge commission) where
  -- no row that comes has a key of another number
  pub others : (k : Key) → (k.id ≡ number → ⊥) → All (λ (h : Row). has_key k h ≡ false) (added o)
  others k ne =
      each_added o (λ h. has_key k h ≡ false) (other_numbered o k ne (trade o) refl refl)
      (other_numbered o k ne (history o) refl refl)
      (λ e. other_numbered o k ne (request o) refl refl)

  pub other : (x : Row) → Memᴰ x rs → among x.kind by_id ≡ true → x.id ≡ number → ⊥
  other x m known e = let h = number_below o x m known in omega arith

  -- ---- S6
  abbrev Asked : Row → Type 0
  Asked t =
      t.kind ≡ kind_trade
      → (t.status ≡ pending
      → (tlb ≤ t.form) × (count (agrees_by (found (an_account t.party) (left o)).n1 t) (left o) ≡ 1))
      × ((t.status ≡ pending → ⊥) → count (has_key (a_request t.id)) (left o) ≡ 0)

  broker_same : (t : Row) → (found (an_account t.party) (left o)).n1 ≡ (found (an_account t.party) rs).n1
  broker_same t = ap (λ (a : Row). a.n1) (off_found o (an_account t.party) refl)

  old_asked : All Asked rs
  old_asked t m k =
      let was = (book o).s6 t m k in
      let below = trade_below o t m k in
      let new = others (a_request t.id) (λ e. omega arith) in
      let none = off_key (a_request t.id) nothing refl in
      let by = (found (an_account t.party) rs).n1 in (
        λ e. (
          (was.0 e).0,
          ap (λ (n : ℕ). count (agrees_by n t) (left o)) (broker_same t)
              ∙ still_count rs (added o) o.space (agrees_by by t) (agrees_not by t nothing none)
              (λ h i. agrees_not by t h (new h i))
              ∙ (was.0 e).1,
        ),
        λ e. still_count rs (added o) o.space (has_key (a_request t.id)) none new ∙ was.1 e,
      )

  no_request : count (has_key (a_request number)) rs ≡ 0
  no_request = none_numbered o (a_request number) refl refl

  new_request : has_key (a_request number) (request o) ≡ true
  new_request = own_number kind_request refl number (request o) refl refl

  new_asked : Asked (trade o)
  new_asked k = (
    λ e.
        let w = waits (leb input.form tms) e in
        let by = (found (an_account input.party) (left o)).n1 in
        let p = agrees_by by (trade o) in
        let off : (x : Row) → eqb x.kind kind_request ≡ false → p x ≡ false =
        λ x z. agrees_of by (trade o) x (eqb-false x.kind kind_request z)
        in
        let right : p (request o) ≡ true =
        all_six new_request (eq-eqb input.form input.form refl) (symbol_same input.symbol input.symbol refl)
        (eq-eqb input.n1 input.n1 refl) (eq-eqb price price refl)
        (eq-eqb broker by (sym (broker_same (trade o) ∙ o.broker_is)))
        in
        let all = grown_count rs (added o) o.space p (off nothing refl) in
        let was = count_no p rs (λ x m. agrees_not by (trade o) x (not_numbered o (a_request number) refl refl x m)) in
        let now : count p (added o) ≡ 1 =
        count_added o p (off (trade o) refl) (off (history o) refl) (λ z. right)
        ∙ ap (λ (t : Bool). 0 + (0 + cond t 0 1)) w
        in
        (omega (arith, leb-false input.form tms w), omega arith),
    λ n.
        let w = waits_not (leb input.form tms) n in
        let p = has_key (a_request number) in
        let all = grown_count rs (added o) o.space p (off_key (a_request number) nothing refl) in
        let was = no_request in
        let now : count p (added o) ≡ 0 =
        count_added o p (off_key (a_request number) (trade o) refl) (off_key (a_request number) (history o) refl)
        (λ z. new_request)
        ∙ ap (λ (t : Bool). 0 + (0 + cond t 0 1)) w
        in
        omega arith,
  )

  pub requests_left : S6 (left o)
  requests_left =
      grown_each rs (added o) o.space Asked old_asked
      (each_added o Asked new_asked (λ k. absurd (omega arith)) (λ e k. absurd (omega arith)))

  -- ---- S7
  abbrev Told : Row → Type 0
  Told t =
      t.kind ≡ kind_trade → There (a_history t.id t.status) (left o) × (count (higher t) (left o) ≡ 0)

  old_told : All Told rs
  old_told t m k =
      let was = (book o).s7 t m k in
      let below = trade_below o t m k in
      let apart : eqb number t.id ≡ false = ne_eqb number t.id (λ e. omega arith) in (
        stays o (a_history t.id t.status) refl was.0,
        still_count rs (added o) o.space (higher t) refl
            (each_added o (λ h. higher t h ≡ false) refl
            (ap (λ (b : Bool). b && ltb t.status (first_status input)) apart)
            (λ e. refl))
            ∙ was.1,
      )

  new_told : Told (trade o)
  unfolding key_of
  new_told k = (
    count_has (has_key (a_history number (first_status input))) (history o) (left o)
        (grown_comes rs (added o) o.space (history o) (Memᴰ.tail (Memᴰ.head refl)))
        (own_key (history o)),
    (
        let p = higher (trade o) in
        let all = grown_count rs (added o) o.space p refl in
        let was = count_no p rs low in
        let now = count_no p (added o) (each_added o (λ h. p h ≡ false) refl level (λ e. refl)) in
        omega arith
        ),
  )
    where
      low : All (λ (x : Row). higher (trade o) x ≡ false) rs
      low x m =
          by_cases (is kind_trade_history x)
          (λ e.
          let kind = eqb-true x.kind kind_trade_history e in
          let ne = ne_eqb x.id number (other x m (rw kind)) in
          rw (e, ne))
          (λ e. rw e)

      level : higher (trade o) (history o) ≡ false
      level = rw (eq-eqb number number refl) (le-ltb (first_status input) (first_status input) (omega arith))

  pub histories_left : S7 (left o)
  histories_left =
      grown_each rs (added o) o.space Told old_told
      (each_added o Told new_told (λ k. absurd (omega arith)) (λ e k. absurd (omega arith)))
