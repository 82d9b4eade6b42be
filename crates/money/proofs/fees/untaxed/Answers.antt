-- Both tests, the second of the rates alone.
use Rattle.model.specs.Money.{untaxed}
use Rattle.money.proofs.fees.untaxed.Goals as goal

pub returns : goal.returns
unfolding untaxed
returns c = rw c.taxable.ensures
