-- x is a cell of the chain that stands before p, and c is where it leads. Since the links rise, the measure is how far c
-- is below p.
use Rattle.std.proofs.Common.{◌≡◌, ◌-◌, get_or}
use Rattle.chains.specs.Chains.{Before}
use Rattle.chains.proofs.chain.before.Given as goal

abbrev pub invariant-loop-c : goal.invariant-loop-c
invariant-loop-c l = Before l.dir l.bucket l.p l.x × (l.c ≡ get_or l.dir l.x 0)

abbrev pub decreases-loop-c : goal.decreases-loop-c
decreases-loop-c l = l.p - l.c
