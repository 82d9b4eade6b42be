-- The plain search has come to place c, and the row there is in the bucket of the group. A link skips only rows of other
-- buckets, none of which is of the group. The measure is the number of places left.
use Rattle.std.proofs.Common.{◌-◌, drop}
use Rattle.laws.specs.Search.{seek}
use Rattle.model.specs.Rows.{rows}
use Rattle.directory.specs.Listed.{Probed}
use Rattle.groups.specs.Sums.{member}
use Rattle.groups.proofs.turn.walk.Given as goal

abbrev pub invariant-loop-c : goal.invariant-loop-c
invariant-loop-c l =
    Probed (member l.group) l.group l.book l.dir (seek (member l.group) l.from (drop l.from (rows l.book))) l.c

abbrev pub decreases-loop-c : goal.decreases-loop-c
decreases-loop-c l = l.n - l.c
