-- Values, tax, commission and settlement: "Both are rounded to the nearest cent, halves up, so each lies within half
-- a cent of the exact fraction." Assumes nothing.
use Rattle.std.specs.Prelude.{◌≡◌, refl, Bool, cond, ◌&&◌, ◌||◌, ℕ, ◌+◌, ◌-◌, ◌*◌, ◌/◌, ◌≤◌, eqb, leb, ltb, ℤ, pos, neg_ℤ, ◌-ℤ◌}
use Rattle.std.proofs.Common.{sym, ap, arith}
use Rattle.std.proofs.Math.IntN.{+ℤ_idr}
use Rattle.record.specs.Codes.{tlb, tmb}
use Rattle.rules.specs.Ranges.{commission_whole, tax_whole}

-- a / b to the nearest whole number, halves up
abbrev pub rounded : ℕ → ℕ → ℕ
rounded a b = (2 * a + b) / (2 * b)

-- "each lies within half a cent of the exact fraction": twice the error is at most the divisor, either way
pub tax_near : (a : ℕ) → (2 * (rounded a (tax_whole) * tax_whole) ≤ 2 * a + tax_whole)
    × (2 * a ≤ 2 * (rounded a (tax_whole) * tax_whole) + tax_whole)
tax_near a = omega arith

pub commission_near : (a : ℕ)
    → (2 * (rounded a (commission_whole) * commission_whole) ≤ 2 * a + commission_whole)
    × (2 * a ≤ 2 * (rounded a (commission_whole) * commission_whole) + commission_whole)
commission_near a = omega arith

-- "1 and 3 buy"
abbrev pub buys : ℕ → Bool
buys form = eqb form tmb || eqb form tlb

-- "only for tax status 1 or 2 with sold > bought"
unfoldable pub taxable : ℕ → ℕ → ℕ → Bool
taxable status bought sold = leb 1 status && ltb bought sold

-- "(sold - bought) × sum of rates / 100,000"
unfoldable pub tax_of : ℕ → ℕ → ℕ → ℕ → ℕ
tax_of status rates bought sold =
    cond (taxable status bought sold) (rounded ((sold - bought) * rates) (tax_whole)) 0

-- "exactly when there is a gain, the tax status is 1 or 2 and the customer's rates sum to zero" (2026-02): the tax may
-- round to zero
unfoldable pub untaxed : ℕ → ℕ → ℕ → ℕ → Bool
untaxed status rates bought sold = taxable status bought sold && eqb rates 0

-- "rate × shares × price / 10,000"
unfoldable pub commission_of : ℕ → ℕ → ℕ → ℕ
commission_of rate shares price = rounded (rate * shares * price) (commission_whole)

-- "a sell, value - charge - commission; a buy, -(value + charge + commission); less tax for tax status 1 only"
unfoldable pub settlement_of : ℕ → ℕ → ℕ → ℕ → ℕ → ℕ → ℤ
settlement_of form status value charge commission tax =
    cond (buys form) (neg_ℤ (pos (value + charge + commission))) (pos value -ℤ pos charge -ℤ pos commission)
    -ℤ pos (cond (eqb status 1) tax 0)

-- tax status 2 "only records it"; for tax status 1 the settlement is less by the tax
pub recorded_only : (form value charge commission tax : ℕ)
    → settlement_of form 2 value charge commission tax ≡ settlement_of form 2 value charge commission 0
unfolding settlement_of
recorded_only form value charge commission tax = refl

pub subtracted : (form value charge commission tax : ℕ)
    → settlement_of form 1 value charge commission tax ≡ settlement_of form 0 value charge commission 0 -ℤ pos tax
unfolding settlement_of
subtracted form value charge commission tax =
    let sell = pos value -ℤ pos charge -ℤ pos commission in
    let whole = cond (buys form) (neg_ℤ (pos (value + charge + commission))) sell in
    ap (λ (z : ℤ). z -ℤ pos tax) (sym (+ℤ_idr whole))
