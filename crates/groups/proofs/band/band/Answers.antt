-- A link skips only rows of other buckets, none of which is such a band.
use Rattle.std.proofs.Common.{rules}
use Rattle.directory.specs.Listed.{walks}
use Rattle.groups.specs.Sums.{band_grouped}
use Rattle.groups.proofs.band.band.Goals as goal

pub loop-c-init : goal.loop-c-init
loop-c-init c = search (rules, walks, band_grouped)

pub returns-then-holds : goal.returns-then-holds
returns-then-holds c = search (rules, walks)

pub loop-c-smaller : goal.loop-c-smaller
loop-c-smaller c = search (rules, walks)

pub loop-c-preserved : goal.loop-c-preserved
loop-c-preserved c = search (rules, walks)

pub returns : goal.returns
returns c = search (rules, walks)
