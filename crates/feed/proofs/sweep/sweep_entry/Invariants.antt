-- What the entry leaves of the rows before the place c is there, and at c stands a request on its symbol, if c is inside
-- the book. The measure is what is left of the book.
use Rattle.std.proofs.Common.{◌-◌, map}
use Rattle.model.specs.Rows.{rows}
use Rattle.directory.specs.Directory.{Directory}
use Rattle.feed.specs.Sweep.{Sweeping, leaves}
use Rattle.feed.proofs.sweep.sweep_entry.Given as goal

abbrev pub invariant-loop-c : goal.invariant-loop-c
invariant-loop-c l =
    Sweeping l.entry l.book (map (leaves l.entry) (rows l.initial.book)) l.c × Directory l.book l.dir l.left

abbrev pub decreases-loop-c : goal.decreases-loop-c
decreases-loop-c l = l.end - l.c
