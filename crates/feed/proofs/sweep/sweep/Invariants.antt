-- What the entries before place i leave of the rows is there.
use Rattle.std.proofs.Common.{◌≡◌, map, take}
use Rattle.model.specs.Rows.{rows}
use Rattle.directory.specs.Directory.{Directory}
use Rattle.feed.specs.Sweep.{left}
use Rattle.feed.proofs.sweep.sweep.Given as goal

abbrev pub invariant-loop-i : goal.invariant-loop-i
invariant-loop-i l =
    (rows l.book ≡ map (left (take l.i (rows l.input))) (rows l.initial.book)) × Directory l.book l.dir l.left
