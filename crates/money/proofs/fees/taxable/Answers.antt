-- Both tests of the plain numbers.
use Rattle.model.specs.Money.{taxable}
use Rattle.money.proofs.fees.taxable.Goals as goal

pub returns : goal.returns
unfolding taxable
returns c = rw (c.plain-2.ensures.value, c.plain.ensures.value)
