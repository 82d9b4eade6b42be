-- The kind of the record's bytes, and the band that they are.
use Rattle.std.proofs.Common.{ap, ◌∙◌}
use Rattle.kinds.specs.Kinds.{band_of}
use Rattle.groups.specs.Sums.{kind_byte, meets_at}
use Rattle.groups.proofs.sums.overlaps.Goals as goal

pub returns : goal.returns
returns c =
    let row = c.part-record.ensures.1 in
    let band = c.from_bytes.ensures ∙ ap band_of row in
    meets_at _ _ (kind_byte _ row) band c.overlap.ensures
