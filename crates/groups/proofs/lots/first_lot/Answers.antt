-- The lots of an account and symbol are a group.
use Rattle.groups.specs.Sums.{lots_grouped}
use Rattle.groups.proofs.lots.first_lot.Goals as goal

pub first_of-requires : goal.first_of-requires
first_of-requires c = (c.requires, rw c.lots_of.ensures (lots_grouped c.args.account.0 c.args.symbol))
