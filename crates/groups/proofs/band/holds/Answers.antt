-- The kind of the record's bytes, and the tests of the definition, of the band that they are.
use Rattle.std.proofs.Common.{ap, ◌∙◌}
use Rattle.kinds.specs.Kinds.{band_of}
use Rattle.groups.specs.Sums.{kind_byte}
use Rattle.groups.proofs.band.holds.Goals as goal

pub returns : goal.returns
unfolding band_of
returns c =
    let row = c.part-record.ensures.1 in
    let band = c.from_bytes-band.ensures ∙ ap band_of row in
    rw (c.plain-2.ensures.value, c.plain.ensures.value, c.plain-many.ensures.value, band, kind_byte _ row)
