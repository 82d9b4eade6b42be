-- Every number on the way has a name in `Steps`, and the last is what the rules have.
use Rattle.std.proofs.Common.{ℕ, ap, pos}
use Rattle.units.specs.Units.{cents}
use Rattle.money.proofs.Steps.{part_is}
use Rattle.money.proofs.parts.part.Goals as goal

pub returns-clause-value : goal.returns-clause-value
returns-clause-value c =
    let is = part_is _ _ _ c.requires.whole_nonzero.0 c.requires.whole_nonzero.1 in
    rw (
      c.of.ensures.value,
      c.plus.ensures,
      c.times-from_quotient.ensures,
      c.plus-raised.ensures,
      c.times-product.ensures,
    )
    (ap (λ (n : ℕ). cents (pos n)) is)
