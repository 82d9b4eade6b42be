-- The lots of an account and symbol are a group.
use Rattle.groups.specs.Sums.{lots_grouped}
use Rattle.groups.proofs.lots.next_lot.Goals as goal

pub next_of-requires-clause-listed : goal.next_of-requires-clause-listed
next_of-requires-clause-listed c =
    (c.requires.listed, rw c.lots_of.ensures (lots_grouped c.args.account.0 c.args.symbol))
