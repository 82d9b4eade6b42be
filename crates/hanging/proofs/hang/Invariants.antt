-- The rows of the kind before place c are well, and with those of lower kinds they are marked. The measure is the number
-- of places left.
use Rattle.std.proofs.Common.{◌-◌}
use Rattle.hanging.specs.Turn.{Hanging}
use Rattle.hanging.proofs.hang.Given as goal

abbrev pub invariant-loop-c : goal.invariant-loop-c
invariant-loop-c l = Hanging l.book l.kind l.c l.marks

abbrev pub decreases-loop-c : goal.decreases-loop-c
decreases-loop-c l = l.n - l.c
