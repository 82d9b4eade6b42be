-- The figures of a result are in their ranges: tax, commission and settlement by the ranges of what they are worked out
-- from, balance and broker by the test of the limits. Assumes nothing.
use Rattle.std.specs.Prelude.{◌≡◌, refl, Bool, true, false, cond, List, [], ◌∷◌, ℕ, ◌+◌, ◌*◌, ◌≤◌, eqb, ℤ, pos, nat_abs, ◌-ℤ◌}
use Rattle.std.proofs.Common.{sym, subst, mul-le-mul_right, arith}
use mathlib.Core.List.Memᴰ
use Rattle.laws.specs.All.{All}
use Rattle.laws.specs.Search.{run}
use Rattle.record.specs.declared.row.Row.{Row}
use Rattle.rules.specs.Ranges.{charged, commission_part, fee, money_most, price_most, shares_most, tax_part}
use Rattle.model.specs.Lots.{start, step, walk}
use Rattle.model.specs.Lots
use Rattle.model.specs.Money.{buys, commission_of, settlement_of, tax_of, taxable}
use Rattle.facts.specs.Money.{commission_taken, tax_none, tax_taken, bought_is, sold_is, withheld_most}
use Rattle.facts.specs.Lots.{Within, step_within, value_most}
use Rattle.facts.specs.Signed.{difference_near}
use Rattle.preserved.specs.Cases.{by_cases}

-- ---- the walk's values
run_within : (v form price : ℕ) (w : Lots.Walk) (ls : List Row) → price ≤ price_most
    → All (λ (l : Row). l.n1 ≤ price_most) ls → Within v w → Within v (run (step form price) w ls)
unfolding run
run_within v form price w [] p h k = k
run_within v form price w (l ∷ ls) p h k =
    run_within v form price (step form price w l) ls p (λ x m. h x (Memᴰ.tail m))
    (step_within v form price w l p (h l (Memᴰ.head refl)) k)

pub sold_in_range : (form price n : ℕ) (ls : List Row) → price ≤ price_most → All (λ (l : Row). l.n1 ≤ price_most) ls
    → n ≤ shares_most → (walk form price n ls).sold ≤ value_most
unfolding walk
sold_in_range form price n ls p h m =
    let k = (run_within (n * price_most) form price (start n) ls p h (omega arith, omega arith)).1 in
    let w = mul-le-mul_right price_most m in
    omega arith

-- ---- tax and commission
pub tax_in_range : (status rates bought sold : ℕ) → rates ≤ tax_part.high → sold ≤ value_most
    → tax_of status rates bought sold ≤ fee.high
tax_in_range status rates bought sold r s =
    by_cases (taxable status bought sold)
    (λ e. let h = tax_taken status rates bought sold r s {x = true} (sym e) refl in rw (← h.0) h.1)
    (λ e. rw (← tax_none status rates bought sold {x = false} (sym e) refl) (omega arith))

pub commission_in_range : (rate shares price : ℕ) → rate ≤ commission_part.high → shares ≤ shares_most
    → price ≤ price_most → commission_of rate shares price ≤ fee.high
commission_in_range rate shares price r s p = let h = commission_taken rate shares price r s p in rw (← h.0) h.1

-- ---- the settlement
pub settlement_in_range : (form status value charge commission tax : ℕ) → value ≤ value_most → charge ≤ charged.high
    → commission ≤ fee.high → tax ≤ fee.high
    → nat_abs (settlement_of form status value charge commission tax) ≤ money_most
settlement_in_range form status value charge commission tax a b c d = go (buys form) refl
  where
    w : ℕ
    w = cond (eqb status 1) tax 0

    go : (x : Bool) → buys form ≡ x → nat_abs (settlement_of form status value charge commission tax) ≤ money_most
    go true e =
        let m : w ≤ tax = withheld_most status tax {w = w} refl in
        let out = value + (charge + commission + w) in
        subst (λ (z : ℤ). nat_abs z ≤ money_most)
        (bought_is form status value charge commission tax {w = w} refl {x = true} {z = pos 0 -ℤ pos out} (sym e) refl
        refl)
        (difference_near 0 out (omega arith) (omega arith))
    go false e =
        let m : w ≤ tax = withheld_most status tax {w = w} refl in
        let out = charge + commission + w in
        subst (λ (z : ℤ). nat_abs z ≤ money_most)
        (sold_is form status value charge commission tax {w = w} refl {x = false} {z = pos value -ℤ pos out} (sym e)
        refl refl)
        (difference_near value out (omega arith) (omega arith))
