-- What is left of the places, submitted in the book as it is, leads to the whole; requests stand where they stood.
use Rattle.std.proofs.Common.{take}
use Rattle.laws.specs.Search.{run}
use Rattle.model.specs.Rows.{rows}
use Rattle.applied.specs.Submit.{Submitting, numbers, sent_in}
use Rattle.applied.proofs.submit_all.Given as goal

abbrev pub invariant-loop-place : goal.invariant-loop-place
invariant-loop-place l =
    Submitting l.time.0 l.initial.book l.at l.n
    (run (sent_in l.time.0) (rows l.initial.book) (numbers l.initial.book (take l.n l.at))) l.initial.left.free l.book
    l.dir l.left l.place-index
