-- The test passes at the places of the kind before place c, and c is the next place of the kind. The measure is the
-- number of places left.
use Rattle.std.proofs.Common.{◌-◌, true}
use Rattle.by_kind.specs.Chains.{Going}
use Rattle.by_kind.proofs.chain.every.Given as goal

abbrev pub invariant-loop-c : goal.invariant-loop-c
invariant-loop-c g l = Going (λ j. goal.F-post g l.test j true) l.book l.kind l.c

abbrev pub decreases-loop-c : goal.decreases-loop-c
decreases-loop-c g l = l.n - l.c
