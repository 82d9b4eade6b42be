-- A count of shares is far from the half of 32 bits.
use Rattle.kinds.specs.Written.{lot_history_row}
use Rattle.written.specs.Rows.{low_bits}
use Rattle.written.proofs.lot_history.Goals as goal

pub returns : goal.returns
unfolding lot_history_row
returns c =
    rw (c.from.ensures, low_bits c.args.before.0 c.requires.0, low_bits c.args.after.0 c.requires.1)
