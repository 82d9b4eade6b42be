-- One byte more is stored, and what is left of y is what is left of x.
use Rattle.std.proofs.Common.{◌+◌, ◌-◌, sym, ◌∙◌, arith}
use Rattle.record.specs.Bytes.{stored, put_step, put_done}
use Rattle.record.proofs.row.put.Goals as goal

pub loop-i-preserved : goal.loop-i-preserved
loop-i-preserved c =
    let at = c.args.at in
    let i = c.loop-i.i in
    let left = c.args.width - (i + 1) in
    let one = put_step c.loop-i.bytes (at + i) (at + (i + 1)) (c.args.width - i) left c.loop-i.y in
    one (omega arith) (omega arith) ∙ c.loop-i.invariant

pub returns : goal.returns
unfolding stored
returns c =
    let done =
    put_done c.loop-i.bytes (c.args.at + c.loop-i.i) (c.args.width - c.loop-i.i) c.loop-i.y (omega arith)
    in
    sym done ∙ c.loop-i.invariant
