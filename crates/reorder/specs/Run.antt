-- Runs over the places of a list: the rows are as many as they were and sound still, what was noted of each place, and
-- which rows are told by their kind alone. Assumes nothing.
use Rattle.std.specs.Prelude.{◌≡◌, Bool, true, false, not, eqb, leb, length}
use Rattle.std.proofs.Math.Path.{refl, ap}
use Rattle.std.proofs.Common.{sym, subst, ◌∙◌, eq-eqb, leb-false, leb-true}
use mathlib.Core.List.Memᴰ
use mathlib.Core.List.{List, [], ◌∷◌, Memᴰ}
use Prim.Native.Nat.{ℕ, ◌+◌, ◌≤◌}
use native.Mathlib.Omega.{arith}
use Rattle.laws.specs.Keep.{count_split}
use Rattle.laws.specs.Search.{bit, count, the, total}
use Rattle.laws.specs.Tests.{and_both}
use Rattle.laws.specs.Puts.{count_less, is_counted, member, the_one}
use Rattle.record.specs.Codes.{kind_broker, kind_free}
use Rattle.record.specs.declared.row.Row.{Row}
use Rattle.model.specs.Names.{a_broker}
use Rattle.model.specs.Rows.{found, has_key, is, nothing, same_row}
use Rattle.model.specs.Sound.{sound}
use Rattle.facts.specs.Rows.{row_itself, same_rows}
use Rattle.facts.specs.Names.{by_party_holds}
use Rattle.facts.specs.Found.{found_live, found_member}
use Rattle.preserved.specs.Cases.{by_cases, no}
use Rattle.preserved.specs.ResultBase.{free_nothing}
use Rattle.preserved.specs.Once.{key_once}
use Rattle.reorder.specs.Inv.{Inv, inv_step, nameless, nameless_note}
use Rattle.reorder.specs.Sim.{final, trace}
use Rattle.reorder.specs.Step.{Note, step, step_length}

all_counted : (l : List Row) → count (λ (x : Row). true) l ≡ length l
unfolding count total
all_counted [] = refl
all_counted (x ∷ l) = let ih = all_counted l in omega arith

both_bits : (b : Bool) → bit b + bit (not b) ≡ 1
both_bits true = refl
both_bits false = refl

-- ---- runs over places of a list
module _ (input : ℕ → Row) where
  abbrev pub on : List Row → ℕ → Note × List Row
  on rs i = step rs (input i)

  pub run_length : (rs : List Row) (o : List ℕ) → length (final on rs o) ≡ length rs
  unfolding final
  run_length rs [] = refl
  run_length rs (i ∷ o) = run_length (on rs i).1 o ∙ step_length rs (input i)

  pub trace_total : (μ : ℕ → ℕ) (rs : List Row) (o : List ℕ)
      → total (λ (e : ℕ × Note). μ e.0) (trace on rs o) ≡ total μ o
  unfolding trace total
  trace_total μ rs [] = refl
  trace_total μ rs (i ∷ o) = let ih = trace_total μ (on rs i).1 o in omega arith

  pub trace_count : (i : ℕ) (rs : List Row) (o : List ℕ)
      → count (λ (e : ℕ × Note). eqb i e.0) (trace on rs o) ≡ count (eqb i) o
  unfolding count
  trace_count i rs o = trace_total (λ (j : ℕ). bit (eqb i j)) rs o

  -- what is noted of the place i
  abbrev pub note_to : List Row → List ℕ → ℕ → Note
  note_to rs o i = (the (λ (e : ℕ × Note). eqb i e.0) (i, nameless_note nothing) (trace on rs o)).1

  module _ (own : ℕ → ℕ) where
    pub run_inv : (rs : List Row) (o : List ℕ) → Inv own rs → Inv own (final on rs o)
    unfolding final
    run_inv rs [] v = v
    run_inv rs (i ∷ o) v = run_inv (on rs i).1 o (inv_step own rs (input i) v)

    -- a place whose result names no trade
    pub trace_nameless : (rs : List Row) (o : List ℕ) (e : ℕ × Note) → Inv own rs → Memᴰ e (trace on rs o)
        → own (input e.0).id ≡ 0 → e.1 ≡ nameless_note (input e.0)
    unfolding trace
    trace_nameless rs [] e v m z = absurd (Memᴰ.not-nil m)
    trace_nameless rs (i ∷ o) e v (Memᴰ.head d) z =
        ap (λ (w : ℕ × Note). w.1) d
        ∙ nameless own rs (input i) v (sym (ap (λ (w : ℕ × Note). own (input w.0).id) d) ∙ z)
        ∙ ap (λ (w : ℕ × Note). nameless_note (input w.0)) (sym d)
    trace_nameless rs (i ∷ o) e v (Memᴰ.tail m) z =
        trace_nameless (on rs i).1 o e (inv_step own rs (input i) v) m z

-- ---- rows that are told by what is found, or by their kind
pub broker_less : (s t : List Row) (x : Row) → sound s ≡ true → sound t ≡ true → x.kind ≡ kind_broker
    → found (a_broker x.party) s ≡ found (a_broker x.party) t → count (same_row x) s ≤ count (same_row x) t
unfolding found
broker_less s t x gs gt e same =
    let k = a_broker x.party in
    let has : has_key k x ≡ true =
    by_party_holds kind_broker refl x.party x
    ∙ and_both (is kind_broker x) (eqb x.party x.party) (eq-eqb x.kind kind_broker e)
    (eq-eqb x.party x.party refl)
    in
    let most =
    count_less (same_row x) (has_key k) s (λ y m q. ap (has_key k) (sym (same_rows x y q)) ∙ has)
    in
    let once = key_once s gs k refl in
    by_cases (leb 1 (count (same_row x) s))
    (λ h.
    let m = member same_row same_rows row_itself x s (leb-true 1 (count (same_row x) s) h) in
    let here = the_one (has_key k) nothing x s once m has in
    let live : is kind_free (found k t) ≡ false =
    ap (is kind_free) (sym same ∙ here) ∙ ap (λ (n : ℕ). eqb n kind_free) e
    in
    let n = subst (λ (r : Row). Memᴰ r t) (sym same ∙ here) (found_member t k (found_live t k live)) in
    let c = is_counted same_row same_rows row_itself x t n in
    omega arith)
    (λ h. let z = leb-false 1 (count (same_row x) s) h in omega arith)

-- a free place holds nothing
pub free_none : (s : List Row) (x : Row) → sound s ≡ true → x.kind ≡ kind_free → same_row nothing x ≡ false
    → count (same_row x) s ≡ 0
free_none s x good e h =
    by_cases (leb 1 (count (same_row x) s))
    (λ u.
    let m = member same_row same_rows row_itself x s (leb-true 1 (count (same_row x) s) u) in
    no h (ap (same_row nothing) (free_nothing s good x m e) ∙ row_itself nothing))
    (λ u. let z = leb-false 1 (count (same_row x) s) u in omega arith)

pub free_rest : (s : List Row)
    → count (same_row nothing) s + count (λ (y : Row). not (same_row nothing y)) s ≡ length s
free_rest s =
    count_split (same_row nothing) (λ (y : Row). not (same_row nothing y)) (λ (y : Row). true) s
    (λ y. both_bits (same_row nothing y))
    ∙ all_counted s
