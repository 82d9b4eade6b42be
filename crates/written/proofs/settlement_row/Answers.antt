-- The row of the settlement, its flag the lowest bit of the trade's; no time is so late that its due time leaves its
-- range.
use Rattle.kinds.specs.Written.{settlement_row, trade_row}
use Rattle.written.specs.Rows.{cash_flag_holds}
use Rattle.written.proofs.settlement_row.Goals as goal

pub returns : goal.returns
unfolding settlement_row trade_row
returns c = rw (c.from.ensures, ← cash_flag_holds c.args.trade.flags)
