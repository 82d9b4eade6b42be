-- A walk that begins at the head of the group's bucket passes over no row of it.
use Rattle.std.proofs.Common.{refl}
use Rattle.directory.specs.Listed.{at_first, from_first}
use Rattle.groups.proofs.turn.first_of.Goals as goal

pub walk-requires-clause-grouped : goal.walk-requires-clause-grouped
walk-requires-clause-grouped c = (c.requires.1, at_first c.requires.0 _ refl c.first.ensures)

pub returns : goal.returns
returns c = from_first c.requires.0 c.requires.1 refl c.first.ensures c.walk.ensures
