-- The row of the summary, field by field.
use Rattle.kinds.specs.Written.{summary_row, trade_row}
use Rattle.written.proofs.new_summary.Goals as goal

pub returns : goal.returns
unfolding summary_row trade_row
returns c = rw c.from.ensures
