-- The number of the record at the place.
use Rattle.std.proofs.Common.{ap}
use Rattle.kinds.specs.Inputs.{lookup_input_of}
use Rattle.lookup.specs.Fill.{asked}
use Rattle.lookup.proofs.asked.Goals as goal

pub returns : goal.returns
unfolding lookup_input_of
returns c = rw c.from_bytes.ensures (ap asked c.part.ensures.1)
