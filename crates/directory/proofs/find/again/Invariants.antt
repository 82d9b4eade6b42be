-- The plain search has come to place c, and the row there is in the bucket of the key. A row of another kind does not
-- have the key, so that its link may be followed; a walk from the first row of the kind passes over no row of the key.
-- The measure is the number of places left.
use Rattle.std.proofs.Common.{◌+◌, ◌-◌, drop}
use Rattle.laws.specs.Search.{seek}
use Rattle.keys.specs.Key.{key_of}
use Rattle.model.specs.Rows.{has_key, rows}
use Rattle.chains.specs.Group.{key_group}
use Rattle.directory.specs.Listed.{Probed}
use Rattle.directory.proofs.find.again.Given as goal

abbrev pub invariant-loop-c : goal.invariant-loop-c
invariant-loop-c l =
    Probed (has_key (key_of l.row)) (key_group (key_of l.row)) l.book l.dir
    (seek (has_key (key_of l.row)) (l.i + 1) (drop (l.i + 1) (rows l.book))) l.c

abbrev pub decreases-loop-c : goal.decreases-loop-c
decreases-loop-c l = l.n - l.c
