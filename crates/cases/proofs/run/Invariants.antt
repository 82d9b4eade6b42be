-- The invariant: the good record's name stands in the text. The measure is what is left of the text.
use Rattle.std.proofs.Common.{length, ◌-◌, ◌≤◌}
use Rattle.cases.proofs.run.Given as goal

abbrev pub invariant-loop-from : goal.invariant-loop-from
invariant-loop-from g l = (l.g.from ≤ l.g.end) × (l.g.end ≤ length l.text)

abbrev pub decreases-loop-from : goal.decreases-loop-from
decreases-loop-from g l = length l.text - l.from
