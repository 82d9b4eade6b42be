-- The row of the lot with another count.
use Rattle.kinds.specs.Written.{lot_row}
use Rattle.written.proofs.lot_after.Goals as goal

pub returns : goal.returns
unfolding lot_row
returns c = rw c.from.ensures
