-- The free rows are those of the last bucket, whose head is their first place.
use Rattle.std.proofs.Common.{rules}
use Rattle.upkeep.specs.Moves.{free_first}
use Rattle.upkeep.proofs.lowest.Goals as goal

pub returns : goal.returns
returns c = search (rules, free_first)
