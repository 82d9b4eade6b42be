-- The row of the cash, field by field.
use Rattle.kinds.specs.Written.{cash_row, trade_row}
use Rattle.written.proofs.cash_row.Goals as goal

pub returns : goal.returns
unfolding cash_row trade_row
returns c = rw c.from.ensures
