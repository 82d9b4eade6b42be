-- The row of the lot, field by field.
use Rattle.kinds.specs.Written.{lot_row, trade_row}
use Rattle.written.proofs.new_lot.Goals as goal

pub returns : goal.returns
unfolding lot_row trade_row
returns c = rw c.from.ensures
