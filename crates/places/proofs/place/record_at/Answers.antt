-- Past the end the bytes are zeros.
use Rattle.std.proofs.Common.{refl, rules}
use Rattle.places.specs.Rows.{past_row}
use Rattle.places.proofs.place.record_at.Goals as goal

pub returns-else-i-places : goal.returns-else-i-places
returns-else-i-places c = (refl, past_row _ _ (search rules))
