-- No place from q to `at` is free.
use Rattle.upkeep.specs.Moves.{NoFree}
use Rattle.upkeep.proofs.below.Given as goal

abbrev pub invariant-loop-q : goal.invariant-loop-q
invariant-loop-q l = NoFree l.book l.q l.at
