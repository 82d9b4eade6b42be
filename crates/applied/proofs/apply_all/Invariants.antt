-- What is left of the entries, applied to the book as it is, leads to the whole; the book is ready for the next.
use Rattle.model.specs.Feed.{fed}
use Rattle.model.specs.Rows.{rows}
use Rattle.applied.specs.Apply.{Applying}
use Rattle.applied.proofs.apply_all.Given as goal

abbrev pub invariant-loop-i : goal.invariant-loop-i
invariant-loop-i l =
    Applying l.initial.left.free l.trades (fed (rows l.initial.book) (rows l.input)) l.input l.book l.dir l.left l.i
