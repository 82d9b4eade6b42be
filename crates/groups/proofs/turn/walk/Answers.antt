-- A link skips only rows of other buckets, none of which is of the group.
use Rattle.std.proofs.Common.{rules}
use Rattle.directory.specs.Listed.{walks}
use Rattle.groups.proofs.turn.walk.Goals as goal

pub returns-then-member : goal.returns-then-member
returns-then-member c = search (rules, walks)

pub loop-c-smaller : goal.loop-c-smaller
loop-c-smaller c = search (rules, walks)

pub loop-c-preserved : goal.loop-c-preserved
loop-c-preserved c = search (rules, walks)

pub returns : goal.returns
returns c = search (rules, walks)
