-- Rounding with a half added before the division, the most that shares are worth, and the gain that is taxed. Assumes
-- nothing.
use Rattle.std.specs.Prelude.{◌≡◌, Bool, true, ℕ, suc, ◌+◌, ◌*◌, ◌/◌, ◌≤◌, ◌<◌, leb, ltb}
use Rattle.std.proofs.Common.{sym, ◌∙◌, div-lt_iff_lt-mul, mul-le-mul, suc-mul, arith, ltb-true}
use Rattle.std.proofs.Math.Nat.{mul-div-mul_left}
use Rattle.laws.specs.Tests.{and_right}
use Rattle.rules.specs.Ranges.{price_most, shares_most}
use Rattle.model.specs.Money.{rounded, taxable}
use Rattle.money.specs.Amounts.{value_most}

-- ---- to the nearest, of a whole that is even
pub half_up : (a w : ℕ) → w ≡ 2 * (w / 2) → (a + w / 2) / w ≡ rounded a w
half_up a w e =
    let h : 2 * a + w ≡ 2 * (a + w / 2) = omega arith in
    rw h (sym (mul-div-mul_left (a + w / 2) w (omega arith)))

pub nearest_most : (a w m : ℕ) → 0 < w → a ≤ m * w → (a + w / 2) / w ≤ m
nearest_most a w m h k =
    let less : a + w / 2 < suc m * w = omega (arith, suc-mul m w) in
    omega (arith, (div-lt_iff_lt-mul h).1 less)

-- ---- a product
pub value_most_holds : (shares price : ℕ) → shares ≤ shares_most → price ≤ price_most → shares * price ≤ value_most
value_most_holds shares price s p = mul-le-mul s p

-- ---- a gain that is to be taxed
pub tax_gain : (status bought sold : ℕ) {x : Bool} → x ≡ taxable status bought sold → x ≡ true → bought < sold
unfolding taxable
tax_gain status bought sold e t = ltb-true bought sold (and_right (leb 1 status) (ltb bought sold) (sym e ∙ t))
