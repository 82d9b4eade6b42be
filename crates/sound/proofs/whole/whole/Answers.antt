-- The three tests of the definition.
use Rattle.std.proofs.Common.{refl}
use Rattle.model.specs.Rows.{whole_records}
use Rattle.sound.proofs.whole.whole.Goals as goal

pub returns : goal.returns
unfolding whole_records
returns c = refl
