-- The sum so far is the number of the requests that the entries before place i hit.
use Rattle.hits.specs.Gather.{Counting}
use Rattle.hits.proofs.gather.submitted.Given as goal

abbrev pub invariant-loop-i : goal.invariant-loop-i
invariant-loop-i l = Counting l.book l.input l.sum l.i
