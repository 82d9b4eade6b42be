-- Each way out: its trade is not there, the row does not fit, it does not fit its trade, its slot is marked, or all is
-- well.
use Rattle.std.proofs.Common.{refl, ap, ◌∙◌, not, rules}
use Rattle.kinds.specs.Kinds.{trade_of}
use Rattle.rules.specs.Rules.{fits}
use Rattle.directory.specs.Found.{key_row}
use Rattle.by_kind.specs.Spelt.{trade_known}
use Rattle.hanging.specs.Turn.{hang_here, hang_lost, hang_twice, hang_unfit, hang_unlike, its_trade, no_slot_at}
use Rattle.hanging.specs.Turn.{one_slot_at, slot_in, slot_low}
use Rattle.hanging.proofs.slot_at.Goals as goal

pub returns-then-book-p : goal.returns-then-book-p
returns-then-book-p c =
    let at = its_trade _ c.row_at.ensures c.trade-p.ensures in
    no_slot_at (hang_lost c.requires.i_bound.0 c.requires.i_bound.1 c.requires.marked_to at c.if-book-p.true)

pub fits_beside-requires : goal.fits_beside-requires
fits_beside-requires c =
    let trade = c.from_bytes-t.ensures ∙ ap trade_of c.part.ensures.1 in
    (c.part-2.ensures.0, trade_known _ c.if-book-p.false c.requires.kind_fits _ c.trade-p.ensures trade)

pub returns-then-not-fits_beside : goal.returns-then-not-fits_beside
returns-then-not-fits_beside c =
    let fit = c.fits_beside.ensures ∙ ap fits c.part-2.ensures.1 in
    no_slot_at
    (hang_unfit c.requires.i_bound.0 c.requires.i_bound.1 c.requires.marked_to fit (ap not c.if-not-fits_beside.true))

pub fits_trade-requires-clause-p_value : goal.fits_trade-requires-clause-p_value
fits_trade-requires-clause-p_value c = key_row _ _ (its_trade _ c.row_at.ensures c.trade-p.ensures) refl

pub returns-then-not-fits_trade : goal.returns-then-not-fits_trade
returns-then-not-fits_trade c =
    let at = its_trade _ c.row_at.ensures c.trade-p.ensures in
    no_slot_at
    (hang_unlike c.requires.i_bound.0 c.requires.i_bound.1 c.requires.marked_to at c.fits_trade.ensures
    (ap not c.if-not-fits_trade.true))

pub overflow_add-s : goal.overflow_add-s
overflow_add-s c =
    let at = its_trade _ c.row_at.ensures c.trade-p.ensures in
    let fit = c.fits_beside.ensures ∙ ap fits c.part-2.ensures.1 in
    let told =
    slot_low c.requires.i_bound.0 c.requires.i_bound.1 c.requires.marked_to at c.fits_trade.ensures fit
    (ap not c.if-not-fits_beside.false) (ap not c.if-not-fits_trade.false) c.if-book-p.false c.offset.ensures
    in
    search rules

pub bounds-marks-s : goal.bounds-marks-s
bounds-marks-s c =
    let at = its_trade _ c.row_at.ensures c.trade-p.ensures in
    let fit = c.fits_beside.ensures ∙ ap fits c.part-2.ensures.1 in
    slot_in c.requires.i_bound.0 c.requires.i_bound.1 c.requires.marked_to at c.fits_trade.ensures fit
    (ap not c.if-not-fits_beside.false) (ap not c.if-not-fits_trade.false) c.if-book-p.false c.offset.ensures

pub returns-then-marks-s-ne0 : goal.returns-then-marks-s-ne0
returns-then-marks-s-ne0 c =
    let at = its_trade _ c.row_at.ensures c.trade-p.ensures in
    let fit = c.fits_beside.ensures ∙ ap fits c.part-2.ensures.1 in
    no_slot_at
    (hang_twice c.requires.i_bound.0 c.requires.i_bound.1 c.requires.marked_to at c.fits_trade.ensures fit
    (ap not c.if-not-fits_beside.false) (ap not c.if-not-fits_trade.false) c.if-book-p.false c.offset.ensures
    c.if-marks-s-ne0.true)

pub returns : goal.returns
returns c =
    let at = its_trade _ c.row_at.ensures c.trade-p.ensures in
    let fit = c.fits_beside.ensures ∙ ap fits c.part-2.ensures.1 in
    let here = ap not c.if-not-fits_beside.false in
    let like = ap not c.if-not-fits_trade.false in
    one_slot_at
    (hang_here c.requires.i_bound.0 c.requires.i_bound.1 c.requires.marked_to at c.fits_trade.ensures fit here like
    c.if-book-p.false c.offset.ensures c.if-marks-s-ne0.false)
    (slot_low c.requires.i_bound.0 c.requires.i_bound.1 c.requires.marked_to at c.fits_trade.ensures fit here like
    c.if-book-p.false c.offset.ensures)
