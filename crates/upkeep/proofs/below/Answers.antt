-- The free row that is found is the nearest below; where there is none the head leads past the place.
use Rattle.std.proofs.Common.{rules}
use Rattle.upkeep.specs.Moves.{downs}
use Rattle.upkeep.proofs.below.Goals as goal

pub returns-then-row_at-eq-FREE : goal.returns-then-row_at-eq-FREE
returns-then-row_at-eq-FREE c = search (rules, downs)

pub returns : goal.returns
returns c = search (rules, downs)
