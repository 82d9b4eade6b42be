-- Each number on the way to a tax, a commission, a settlement and a balance is below 2^62 where what it is made of fits,
-- and whole part and remainder round to what the whole product rounds to.
use Rattle.std.specs.Prelude.{◌≡◌, Bool, true, false, cond, ℕ, ◌+◌, ◌-◌, ◌*◌, ◌/◌, ◌%◌, ◌^◌, ◌≤◌, ◌<◌, eqb, ℤ, pos, neg_ℤ, nat_abs, ◌+ℤ◌, ◌-ℤ◌}
use Rattle.std.proofs.Common.{sym, ap, ◌∙◌, add-mul, div-le_self, div-mul-le_self, le_trans, mod-lt, mul_assoc, mul_comm, mul-le-mul, mul-le-mul_left, mul-le-mul_right, arith}
use Rattle.std.proofs.Math.Nat.{div-add-mod, mul-add-div}
use Rattle.units.specs.Sizes.{abs_add, abs_neg}
use Rattle.rules.specs.Ranges.{charged, commission_whole, fee, money_most, price_most, shares_most, tax_whole}
use Rattle.model.specs.Money.{rounded}
use Rattle.money.specs.Amounts.{value_most}
use Rattle.money.specs.Fees.{half_up, nearest_most, value_most_holds}
use Rattle.money.specs.Settle.{kept}
use Rattle.money.specs.Steps as steps
use Rattle.money.specs.Steps.{PartBelow, SettlementBelow, paid, received, without_charge}

-- ---- `part`
module _ (amount rate whole : ℕ) where
  abbrev quotient : ℕ
  quotient = steps.quotient amount rate whole

  abbrev remainder : ℕ
  remainder = steps.remainder amount rate whole

  abbrev from_quotient : ℕ
  from_quotient = steps.from_quotient amount rate whole

  abbrev product : ℕ
  product = steps.product amount rate whole

  abbrev part : ℕ
  part = steps.part amount rate whole

  -- the law, for all numbers: whole part and remainder round to what the whole product rounds to
  pub by_parts : 0 < whole → rounded (amount * rate) whole ≡ from_quotient + rounded product whole
  by_parts h =
      let split : amount * rate ≡ whole * from_quotient + product =
      ap (λ (n : ℕ). n * rate) (sym (div-add-mod amount whole))
      ∙ add-mul (whole * quotient) remainder rate
      ∙ ap (λ (n : ℕ). n + product) (mul_assoc whole quotient rate)
      in
      let twice : 2 * (amount * rate) + whole ≡ 2 * whole * from_quotient + (2 * product + whole) =
      omega (arith, split, mul_assoc 2 whole from_quotient)
      in
      ap (λ (n : ℕ). n / (2 * whole)) twice ∙ mul-add-div (omega arith) from_quotient (2 * product + whole)

  pub part_is : 0 < whole → whole ≡ 2 * (whole / 2) → part ≡ rounded (amount * rate) whole
  part_is h e = sym (by_parts h ∙ ap (λ (n : ℕ). from_quotient + n) (sym (half_up product whole e)))

pub part_steps : (amount rate whole : ℕ) → amount ≤ value_most → rate ≤ whole → 0 < whole → whole ≤ tax_whole
    → PartBelow amount rate whole
part_steps amount rate whole a r h w =
    let q = div-le_self amount whole in
    let m = mod-lt amount h in
    let f : amount / whole * rate ≤ amount =
    le_trans (mul-le-mul_left (amount / whole) r) (div-mul-le_self amount whole)
    in
    let p : amount % whole * rate ≤ rate * whole = omega (arith, mul_comm rate whole, mul-le-mul_right rate m) in
    let t : rate * whole ≤ tax_whole * tax_whole = mul-le-mul {n₂ = tax_whole} (omega arith) w in
    let n = nearest_most (amount % whole * rate) whole rate h p in
    record {
      quotient_below = omega arith;
      remainder_below = omega arith;
      from_quotient_below = omega arith;
      product_below = omega arith;
      raised_below = omega arith;
      from_remainder_below = omega arith;
      part_below = omega arith;
      part_fits = omega arith;
    }

-- ---- the tax: the gain, and its part by the rates
pub tax_steps : (rates bought sold : ℕ) → rates ≤ tax_whole → sold ≤ value_most
    → (sold - bought < 2 ^ 62) × PartBelow (sold - bought) rates tax_whole
tax_steps rates bought sold r s =
    (omega arith, part_steps (sold - bought) rates tax_whole (omega arith) r (omega arith) (omega arith))

-- the product that the rule is written with passes the largest signed number
pub whole_product_passes : 2 ^ 63 ≤ (shares_most * price_most - shares_most * 1) * tax_whole
whole_product_passes = omega arith

-- ---- the commission: the value, and its part by the rate
pub commission_steps : (rate shares price : ℕ) → rate ≤ commission_whole → shares ≤ shares_most → price ≤ price_most
    → (shares * price < 2 ^ 62) × PartBelow (shares * price) rate commission_whole
commission_steps rate shares price r s p =
    let v = value_most_holds shares price s p in
    (omega arith, part_steps (shares * price) rate commission_whole v r (omega arith) (omega arith))

kept_most : (status tax : ℕ) → kept status tax ≤ tax
kept_most status tax = go (eqb status 1)
  where
    go : (t : Bool) → cond t tax 0 ≤ tax
    go true = omega arith
    go false = omega arith

abs_less : (a : ℤ) (n : ℕ) → nat_abs (a -ℤ pos n) ≤ nat_abs a + n
abs_less a n = omega (arith, abs_add a (neg_ℤ (pos n)), abs_neg (pos n))

pub settlement_steps : (status value charge commission tax : ℕ) → value ≤ value_most → charge ≤ charged.high
    → commission ≤ fee.high
    → tax ≤ fee.high
    → SettlementBelow value charge commission (kept status tax)
settlement_steps status value charge commission tax v c m t =
    let k = kept_most status tax in
    let n = abs_neg (paid value charge commission) in
    let b = abs_less (neg_ℤ (paid value charge commission)) (kept status tax) in
    let w = abs_less (pos value) charge in
    let r = abs_less (without_charge value charge commission) commission in
    let s = abs_less (received value charge commission) (kept status tax) in
    record {
      with_charge_below = omega arith;
      paid_below = omega arith;
      negated_below = omega arith;
      bought_below = omega arith;
      without_charge_below = omega arith;
      received_below = omega arith;
      sold_below = omega arith;
    }

-- ---- the balance after it
pub balance_step : (old settlement : ℤ) → nat_abs old ≤ money_most → nat_abs settlement ≤ money_most
    → nat_abs (old +ℤ settlement) < 2 ^ 62
balance_step old settlement o s = omega (arith, abs_add old settlement)
