-- Inside the book the band at its place answers by its rate; at the end there is none.
use Rattle.std.proofs.Common.{ap, refl, ◌∙◌, arith}
use Rattle.kinds.specs.Kinds.{band_of}
use Rattle.kinds.specs.declared.rows.Band.{Band}
use Rattle.model.specs.Band.{rated}
use Rattle.groups.specs.Answer.{band_there, no_band_holds}
use Rattle.groups.proofs.band.search.Goals as goal

pub returns-then-at-places : goal.returns-then-at-places
unfolding band_of
returns-then-at-places c =
    c.rated.ensures
    ∙ ap (λ (b : Band). rated b.rate.0) c.typed_at.ensures
    ∙ band_there _ _ _ _ _ c.band-at.ensures (omega (arith, c.if-at-places.true, c.places.ensures))
    refl

pub returns : goal.returns
returns c =
    no_band_holds _ _ _ _ _ c.band-at.ensures (omega (arith, c.if-at-places.false, c.places.ensures))
