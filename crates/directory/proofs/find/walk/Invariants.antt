-- The plain search has come to place c, and the row there is in the bucket of the key. A link skips only rows of other
-- buckets, none of which has the key. The measure is the number of places left.
use Rattle.std.proofs.Common.{◌-◌, drop}
use Rattle.laws.specs.Search.{seek}
use Rattle.model.specs.Rows.{has_key, rows}
use Rattle.chains.specs.Group.{key_group}
use Rattle.directory.specs.Listed.{Probed}
use Rattle.directory.proofs.find.walk.Given as goal

abbrev pub invariant-loop-c : goal.invariant-loop-c
invariant-loop-c l =
    Probed (has_key l.key) (key_group l.key) l.book l.dir (seek (has_key l.key) l.from (drop l.from (rows l.book))) l.c

abbrev pub decreases-loop-c : goal.decreases-loop-c
decreases-loop-c l = l.n - l.c
