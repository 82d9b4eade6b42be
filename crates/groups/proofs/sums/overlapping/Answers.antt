-- Each turn counts its record if it overlaps; a link skips only rows that count nothing.
use Rattle.std.proofs.Common.{refl, ap, ◌∙◌, ◌≤◌, rules}
use Rattle.laws.specs.Search.{count}
use Rattle.kinds.specs.Kinds.{band_of}
use Rattle.directory.specs.Listed.{tally_all, tally_more, walks}
use Rattle.groups.specs.Sums.{bands_counted, bit_from, bit_small, overlaps_counted, same_bit}
use Rattle.groups.proofs.sums.overlapping.Goals as goal

pub loop-c-init : goal.loop-c-init
unfolding count
loop-c-init c = search (rules, walks, bands_counted)

pub loop-c-smaller : goal.loop-c-smaller
loop-c-smaller c = search (rules, walks)

pub loop-c-preserved : goal.loop-c-preserved
unfolding count
loop-c-preserved c =
    let one = c.from-sum.ensures ∙ bit_from c.overlaps.result in
    let small : c.from-sum.result ≤ 1 = rw one (bit_small c.overlaps.result) in
    tally_more c.loop-c.invariant c.requires.0 (search rules) refl (same_bit one c.overlaps.ensures) small c.next-c.ensures

pub returns : goal.returns
returns c =
    let band = c.from_bytes-band.ensures ∙ ap band_of c.part.ensures.1 in
    tally_all c.loop-c.invariant (search rules) ∙ overlaps_counted _ _ band
