-- The summary of a trade's account and symbol after its result: it is the sum of the lots, and it goes where no lot is
-- left. Those of others stay. Assumes nothing.
use Rattle.std.specs.Prelude.{◌≡◌, refl, Bool, true, false, not, ◌&&◌, ℕ, ◌≤◌, eqb, ℤ, pos, ◌+ℤ◌, length}
use Rattle.std.proofs.Common.{sym, ap, ◌∙◌, arith, eq-eqb, eqb-true, to_z}
use mathlib.Core.List.{List, [], ◌∷◌, Memᴰ}
use Rattle.std.specs.Int.{w64}
use Rattle.laws.specs.Search.{bit, count, sum_z, total}
use Rattle.laws.specs.Tests.{and_left, and_right}
use Rattle.laws.specs.Total.{total_zero}
use Rattle.record.specs.Codes.{kind_free, kind_summary}
use Rattle.record.specs.Signed.{eq_parts, parts_add}
use Rattle.record.specs.Symbol.{same_symbol_holds, same_symbol, symbol_same}
use Rattle.record.specs.declared.row.Row.{Row}
use Rattle.record.specs.declared.symbol.Symbol.{Symbol}
use Rattle.model.specs.Lots.{Closing, size}
use Rattle.model.specs.Names.{a_summary}
use Rattle.model.specs.Rows.{found, has_key, is, nothing, same_row}
use Rattle.model.specs.Sound.{lot_of, shares_of, short}
use Rattle.model.specs.Result.{Sums, added}
use Rattle.facts.specs.Found.{found_has, found_live}
use Rattle.facts.specs.Names.{by_holder, of_party}
use Rattle.facts.specs.Result.{Read}
use Rattle.preserved.specs.Cases.{none_passes}
use Rattle.preserved.specs.ResultFresh.{no_summary, none_found}
use Rattle.preserved.specs.ResultLotsSides.{eq_sides, other_side, part, sum_sides, zero_sides}
use Rattle.preserved.specs.ResultLotsSum.{Walked, no_shares}

pub not_not : (b : Bool) → not (not b) ≡ b
not_not true = refl
not_not false = refl

count_below : (p : Row → Bool) (f : Row → ℕ) (k : List Row) → ((x : Row) → Memᴰ x k → bit (p x) ≤ f x)
    → count p k ≤ total f k
unfolding count total
count_below p f [] h = omega arith
count_below p f (x ∷ k) h =
    let a = h x (Memᴰ.head refl) in
    let ih = count_below p f k (λ z m. h z (Memᴰ.tail m)) in
    omega arith

-- ---- lots and their sum
module _ (a : ℕ) (y : Symbol) (l : List Row) where
  -- no lots, no shares
  pub no_lots : count (lot_of a y) l ≡ 0 → sum_z (shares_of a y) l ≡ pos 0
  no_lots e =
      let none = none_passes (lot_of a y) l e in
      let u = total_zero (λ x. part true (shares_of a y x)) l (λ x m. no_shares true a y x (none x m)) in
      let w = total_zero (λ x. part false (shares_of a y x)) l (λ x m. no_shares false a y x (none x m)) in
      let s = sum_sides true (shares_of a y) l in
      eq_sides true (sum_z (shares_of a y) l) (pos 0) (omega arith)

  -- where all have one sign, no shares are no lots
  pub no_sum : (d : Bool) → ((x : Row) → Memᴰ x l → lot_of a y x ≡ true → (short x ≡ not d) × (1 ≤ size x))
      → sum_z (shares_of a y) l ≡ pos 0 → count (lot_of a y) l ≡ 0
  no_sum d h e =
      let u = total_zero (λ x. part (not d) (shares_of a y x)) l (λ x m. away x m (lot_of a y x) refl) in
      let w = count_below (lot_of a y) (λ x. part d (shares_of a y x)) l (λ x m. near x m (lot_of a y x) refl) in
      let s = sum_sides d (shares_of a y) l in
      let z1 = ap (part d) e ∙ zero_sides d in
      let z2 = ap (part (not d)) e ∙ zero_sides (not d) in
      omega arith
    where
      away : (x : Row) → Memᴰ x l → (b : Bool) → lot_of a y x ≡ b → part (not d) (shares_of a y x) ≡ 0
      away x m true k = rw k (other_side (not d) (to_z w64 x.m1) (h x m k).0).0
      away x m false k = no_shares (not d) a y x k

      near : (x : Row) → Memᴰ x l → (b : Bool) → lot_of a y x ≡ b → bit (lot_of a y x) ≤ part d (shares_of a y x)
      near x m true k =
          let s = (h x m k).1 in
          let q : part d (to_z w64 x.m1) ≡ size x =
          ap (λ (c : Bool). part c (to_z w64 x.m1)) (sym (not_not d))
          ∙ (other_side (not d) (to_z w64 x.m1) (h x m k).0).1
          in
          rw k (omega arith)
      near x m false k = rw k (omega arith)

pub zero_add : (z : ℤ) → pos 0 +ℤ z ≡ z
zero_add z = eq_parts (pos 0 +ℤ z) z (omega (arith, parts_add (pos 0) z))

-- ---- what a row of a summary's key is
module _ (a : ℕ) (y : Symbol) (x : Row) (e : has_key (a_summary a y) x ≡ true) where
  abbrev holder : (of_party kind_summary a x && same_symbol x.symbol y) ≡ true
  holder = sym (by_holder a y x) ∙ e

  pub key_party : x.party ≡ a
  key_party =
      eqb-true x.party a (and_right (is kind_summary x) (eqb x.party a)
      (and_left (of_party kind_summary a x) (same_symbol x.symbol y) holder))

  pub key_symbol : x.symbol ≡ y
  key_symbol = same_symbol_holds x.symbol y (and_right (of_party kind_summary a x) (same_symbol x.symbol y) holder)

pub has_holder : (a : ℕ) (y : Symbol) (x : Row) → x.kind ≡ kind_summary → x.party ≡ a → x.symbol ≡ y
    → has_key (a_summary a y) x ≡ true
has_holder a y x k p s =
    by_holder a y x ∙ rw (eq-eqb x.kind kind_summary k, eq-eqb x.party a p, symbol_same x.symbol y s)

module _ {rs : List Row} {t summary account broker : Row} {cs : List Closing}
    (r : Read rs t summary account broker cs) (n : Sums)
    (space : length (added t summary cs n) ≤ count (same_row nothing) rs) (v : Walked rs t summary cs n) where
  abbrev own : Row → Bool
  own x = has_key (a_summary t.party t.symbol) x

  -- ---- the summary that the result found
  pub summary_own : is kind_free summary ≡ false → own summary ≡ true
  summary_own live =
      let h : is kind_free (found (a_summary t.party t.symbol) rs) ≡ false = ap (is kind_free) v.own ∙ live in
      ap own (sym v.own) ∙ found_has (a_summary t.party t.symbol) rs (found_live rs _ h)

  pub nothing_there : is kind_free summary ≡ true → to_z w64 summary.m1 ≡ pos 0
  nothing_there free =
      ap (λ (x : Row). to_z w64 x.m1)
      (sym v.own ∙ none_found (a_summary t.party t.symbol) rs (no_summary r n (sym v.own) free))
