-- Five fields of the trade are set; an amount that is not below zero has its own bits.
use Rattle.std.proofs.Common.{arith}
use Rattle.kinds.specs.Written.{trade_row}
use Rattle.written.specs.Rows.{amount_bits}
use Rattle.written.proofs.trade_after.Goals as goal

pub returns : goal.returns
unfolding trade_row
returns c =
    rw (
      c.from.ensures,
      amount_bits c.args.commission.0 c.requires.0 (omega arith),
      amount_bits c.args.tax.0 c.requires.1 (omega arith),
    )
