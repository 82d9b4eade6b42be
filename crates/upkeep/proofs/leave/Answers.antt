-- The cell before the place leads to it, and then past it.
use Rattle.std.proofs.Common.{rules}
use Rattle.upkeep.specs.Moves.{bucket_of_holds, leaves, listed_rises}
use Rattle.upkeep.proofs.leave.Goals as goal

pub before-x-requires : goal.before-x-requires
before-x-requires c = search (rules, listed_rises)

pub returns : goal.returns
returns c = search (rules, leaves, bucket_of_holds)
