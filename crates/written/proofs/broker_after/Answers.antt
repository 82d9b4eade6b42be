-- Two fields of the broker grow, and neither leaves its range.
use Rattle.std.proofs.Common.{arith}
use Rattle.kinds.specs.Written.{broker_row}
use Rattle.written.specs.Rows.{sum_bits}
use Rattle.written.proofs.broker_after.Goals as goal

pub returns : goal.returns
unfolding broker_row
returns c =
    let v = c.args in
    let pre = c.requires.up_to in
    rw (
      c.from.ensures,
      c.plus.ensures.value,
      sum_bits v.broker.commission.0 v.commission.0 pre.0 pre.1 (omega arith),
    )
