-- Tax and commission with a half added before the division, of products that stay in their ranges; and the settlement
-- as a difference of two amounts. Assumes nothing.
use Rattle.std.specs.Prelude.{◌≡◌, Bool, true, false, cond, ℕ, ◌+◌, ◌-◌, ◌*◌, ◌/◌, ◌≤◌, ◌<◌, leb, ltb, eqb, ℤ, ◌-ℤ◌}
use Rattle.std.proofs.Common.{sym, ◌∙◌, mul-le-mul, ltb-true, eq-eqb, ne_eqb}
use native.Mathlib.Omega.{arith}
use Rattle.std.proofs.Math.IntN.{pos, neg_ℤ}
use Rattle.laws.specs.Tests.{and_right}
use Rattle.record.specs.Signed.{eq_parts}
use Rattle.rules.specs.Ranges.{commission_part, fee, price_most, shares_most, tax_part}
use Rattle.model.specs.Money.{buys, commission_of, rounded, settlement_of, tax_of, taxable}
use Rattle.facts.specs.Lots.{value_most}
use Rattle.facts.specs.Signed.{neg_dn, neg_up, parts_less}

half_tax : (a : ℕ) → (a + 50_000) / 100_000 ≡ rounded a tax_part.high
half_tax a = omega arith

half_commission : (a : ℕ) → (a + 5_000) / 10_000 ≡ rounded a commission_part.high
half_commission a = omega arith

module _ (status rates bought sold : ℕ) (r : rates ≤ tax_part.high) (s : sold ≤ value_most) where
  pub tax_product : (sold - bought) * rates ≤ value_most * 100_000
  tax_product = let g : sold - bought ≤ value_most = omega arith in mul-le-mul {n₂ = value_most} g r

  pub tax_taken : {x : Bool} → x ≡ taxable status bought sold → x ≡ true
      → (((sold - bought) * rates + 50_000) / 100_000 ≡ tax_of status rates bought sold)
      × (((sold - bought) * rates + 50_000) / 100_000 ≤ fee.high)
  unfolding tax_of
  tax_taken e t =
      let k = tax_product in
      (half_tax ((sold - bought) * rates) ∙ rw (sym e ∙ t), omega arith)

pub tax_gain : (status bought sold : ℕ) {x : Bool} → x ≡ taxable status bought sold → x ≡ true → bought < sold
unfolding taxable
tax_gain status bought sold e t = ltb-true bought sold (and_right (leb 1 status) (ltb bought sold) (sym e ∙ t))

pub tax_none : (status rates bought sold : ℕ) {x : Bool} → x ≡ taxable status bought sold → x ≡ false
    → 0 ≡ tax_of status rates bought sold
unfolding tax_of
tax_none status rates bought sold e f = rw (sym e ∙ f)

module _ (rate shares price : ℕ) (r : rate ≤ commission_part.high) (s : shares ≤ shares_most) (p : price ≤ price_most)
  where
    pub commission_product : rate * shares ≤ commission_part.high * shares_most
    commission_product = mul-le-mul r s

    pub commission_whole_holds : rate * shares * price ≤ commission_part.high * shares_most * price_most
    commission_whole_holds = mul-le-mul commission_product p

    pub commission_taken : ((rate * shares * price + 5_000) / 10_000 ≡ commission_of rate shares price)
        × ((rate * shares * price + 5_000) / 10_000 ≤ fee.high)
    unfolding commission_of
    commission_taken = let k = commission_whole_holds in (half_commission (rate * shares * price), omega arith)

-- ---- the tax that is taken
pub withheld_all : (status tax : ℕ) → status ≡ 1 → tax ≡ cond (eqb status 1) tax 0
withheld_all status tax h = rw (eq-eqb status 1 h)

pub withheld_none : (status tax : ℕ) → (status ≡ 1 → ⊥) → 0 ≡ cond (eqb status 1) tax 0
withheld_none status tax h = rw (ne_eqb status 1 h)

pub withheld_most : (status tax : ℕ) {w : ℕ} → w ≡ cond (eqb status 1) tax 0 → w ≤ tax
withheld_most status tax e = rw e (go (eqb status 1))
  where
    go : (t : Bool) → cond t tax 0 ≤ tax
    go true = omega arith
    go false = omega arith

-- ---- the settlement
module _ (form status value charge commission tax : ℕ) {w : ℕ} (d : w ≡ cond (eqb status 1) tax 0) where
  pub bought_is : {x : Bool} {z : ℤ} → x ≡ buys form → x ≡ true → z ≡ pos 0 -ℤ pos (value + (charge + commission + w))
      → z ≡ settlement_of form status value charge commission tax
  unfolding settlement_of
  bought_is {x} {z} e t q =
      let out = neg_ℤ (pos (value + charge + commission)) in
      q ∙ eq_parts (pos 0 -ℤ pos (value + (charge + commission + w))) (out -ℤ pos w)
      (omega (
        arith,
        parts_less (pos 0) (value + (charge + commission + w)),
        parts_less out w,
        neg_up (value + charge + commission),
        neg_dn (value + charge + commission),
      ))
      ∙ rw (sym e ∙ t, ← d)

  pub sold_is : {x : Bool} {z : ℤ} → x ≡ buys form → x ≡ false → z ≡ pos value -ℤ pos (charge + commission + w)
      → z ≡ settlement_of form status value charge commission tax
  unfolding settlement_of
  sold_is {x} {z} e t q =
      q ∙ eq_parts (pos value -ℤ pos (charge + commission + w)) (pos value -ℤ pos charge -ℤ pos commission -ℤ pos w)
      (omega (
        arith,
        parts_less (pos value) (charge + commission + w),
        parts_less (pos value) charge,
        parts_less (pos value -ℤ pos charge) commission,
        parts_less (pos value -ℤ pos charge -ℤ pos commission) w,
      ))
      ∙ rw (sym e ∙ t, ← d)
