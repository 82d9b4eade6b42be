-- Where the summaries fit, all rows do, and where they are well, all rows are.
use Rattle.by_kind.specs.Kinds.{fits_all, sound_all, unique_all}
use Rattle.by_kind.specs.Says.{says_all}
use Rattle.sound.proofs.whole.closing.Goals as goal

pub own-requires-clause-book_value : goal.own-requires-clause-book_value
own-requires-clause-book_value c = λ e. fits_all c.requires.well_but.0 (c.fit.ensures.yes c.if-not-fit.false)

pub hung-requires-clause-book_value : goal.hung-requires-clause-book_value
hung-requires-clause-book_value c =
    let well = c.requires.well_but.0 in (
      fits_all well (c.fit.ensures.yes c.if-not-fit.false),
      unique_all well (c.own.ensures.yes c.if-not-own.false),
    )

pub returns : goal.returns
returns c =
    let well = c.requires.well_but.0 in
    let fit = fits_all well (c.fit.ensures.yes c.if-not-fit.false) in
    says_all c.hung.ensures (sound_all well (c.own.ensures.yes c.if-not-own.false) fit)
