-- A link skips only rows of other buckets, none of which has the key.
use Rattle.std.proofs.Common.{rules}
use Rattle.directory.specs.Listed.{key_grouped, walks}
use Rattle.directory.proofs.find.walk.Goals as goal

pub loop-c-init : goal.loop-c-init
loop-c-init c = search (rules, walks, key_grouped)

pub returns-then-has : goal.returns-then-has
returns-then-has c = search (rules, walks)

pub loop-c-smaller : goal.loop-c-smaller
loop-c-smaller c = search (rules, walks)

pub loop-c-preserved : goal.loop-c-preserved
loop-c-preserved c = search (rules, walks)

pub returns : goal.returns
returns c = search (rules, walks)
