-- The row of the history, field by field.
use Rattle.kinds.specs.Written.{trade_history_row, trade_row}
use Rattle.written.proofs.history_row.Goals as goal

pub returns : goal.returns
unfolding trade_history_row trade_row
returns c = rw c.from.ensures
