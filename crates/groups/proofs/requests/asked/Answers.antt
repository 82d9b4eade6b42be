-- The kind of the record's bytes, and the symbol of the request that they are.
use Rattle.record.specs.Symbol.{same_symbol}
use Rattle.std.proofs.Common.{ap, ◌∙◌}
use Rattle.kinds.specs.Kinds.{request_of}
use Rattle.groups.specs.Sums.{kind_byte}
use Rattle.groups.proofs.requests.asked.Goals as goal

pub returns : goal.returns
unfolding same_symbol request_of
returns c =
    let row = c.part-record.ensures.1 in
    let request = c.from_bytes-request.ensures ∙ ap request_of row in
    rw (c.eq.ensures, request, kind_byte _ row)
