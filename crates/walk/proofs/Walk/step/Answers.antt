-- Each field of the next state is that of the definition. Nothing is below zero, and shares that are taken at a price
-- are worth at most what they are at the highest, so each value stays within what it was with all that was needed.
use Rattle.std.proofs.Common.{◌+◌, ◌≤◌, arith, subst, sym}
use Rattle.money.specs.Amounts.{value_most}
use Rattle.walk.specs.declared.Walk.{Walk}
use Rattle.walk.specs.Walk.{Within, need_less, step_count, step_within, stepped, taken_of}
use Rattle.walk.proofs.Walk.step.Goals as goal

pub returns-clause-value : goal.returns-clause-value
unfolding stepped
returns-clause-value c =
    let a = c.args in
    rw (
      c.less.ensures.value,
      c.with.ensures,
      c.with-2.ensures,
      c.either.ensures,
      c.either-2.ensures,
      c.counted.ensures,
      c.taken-part.ensures.value,
      need_less a.self.need.0 (taken_of a.self a.lot) c.requires.within.need (omega arith),
    )

pub returns-clause-within_2 : goal.returns-clause-within_2
returns-clause-within_2 c =
    let a = c.args in
    let p = c.requires in
    let within = step_within value_most a.self a.lot p.price_le_price_most.0 p.within in
    subst (λ (w : Walk). Within value_most w × (w.closed ≤ a.self.closed + 1)) (sym (returns-clause-value c))
    (within, step_count a.self a.lot)
