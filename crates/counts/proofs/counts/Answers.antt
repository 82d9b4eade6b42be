-- The kind of the record's bytes, and the type and status of the trade that they are.
use Rattle.std.proofs.Common.{ap}
use Rattle.record.specs.Grid.{decode}
use Rattle.kinds.specs.Kinds.{trade_of}
use Rattle.model.specs.Tally.{in_square}
use Rattle.counts.proofs.counts.Goals as goal

pub returns : goal.returns
unfolding decode trade_of
returns c = rw c.from_bytes-t.ensures (ap (in_square c.args.form c.args.status) c.part-record.ensures.1)
