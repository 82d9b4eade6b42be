-- The invariant: what is left to free leads to the whole.
use Rattle.closed.specs.Close.{Freeing}
use Rattle.closed.proofs.free_lots.Given as goal

abbrev pub invariant-loop-place : goal.invariant-loop-place
invariant-loop-place l = Freeing l.fn.book l.at l.gone l.book l.dir l.totals l.place-index
