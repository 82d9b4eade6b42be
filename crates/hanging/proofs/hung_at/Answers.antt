-- Each mark tells whether the row that it stands for is there.
use Rattle.std.proofs.Common.{ap, ◌∙◌, rules}
use Rattle.kinds.specs.Kinds.{trade_of}
use Rattle.groups.specs.Sums.{bit_from}
use Rattle.hanging.specs.Slots.{hung_is, status_low}
use Rattle.hanging.proofs.hung_at.Goals as goal

pub bounds-marks-m-2 : goal.bounds-marks-m-2
bounds-marks-m-2 c =
    let long = c.requires.marked_to.long in
    let inside = c.requires.i_bound.0 in
    let trade = c.from_bytes-t.ensures ∙ ap trade_of c.part.ensures.1 in
    let low =
    status_low _ c.requires.book_value.0 c.requires.book_value.1 _ inside c.requires.i_bound.1 trade c.from.ensures
    in
    search rules

pub returns : goal.returns
returns c =
    let trade = c.from_bytes-t.ensures ∙ ap trade_of c.part.ensures.1 in
    hung_is _ c.requires.book_value.0 c.requires.book_value.1 _ c.requires.i_bound.0 c.requires.i_bound.1 _
    c.requires.marked_to trade c.from.ensures (c.from-2.ensures ∙ bit_from _) (c.from-3.ensures ∙ bit_from _)
    (c.from-4.ensures ∙ bit_from _)
