-- The row of the summary with another count.
use Rattle.kinds.specs.Written.{summary_row}
use Rattle.written.proofs.summary_after.Goals as goal

pub returns : goal.returns
unfolding summary_row
returns c = rw c.from.ensures
