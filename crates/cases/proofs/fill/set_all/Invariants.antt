-- The measure is what is left of the text.
use Rattle.std.proofs.Common.{◌-◌}
use Rattle.cases.proofs.fill.set_all.Given as goal

abbrev pub decreases-loop-i : goal.decreases-loop-i
decreases-loop-i g l = l.end - l.i
