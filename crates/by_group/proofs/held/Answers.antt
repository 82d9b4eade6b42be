-- By the trade that was found, and the summary.
use Rattle.record.specs.Symbol.{same_symbol}
use Rattle.std.proofs.Common.{ap, ◌∙◌}
use Rattle.kinds.specs.Kinds.{lot_of, trade_of}
use Rattle.directory.specs.Found.{key_there}
use Rattle.by_group.proofs.held.Goals as goal

pub returns : goal.returns
unfolding same_symbol lot_of trade_of
returns c =
    let lot = c.from_bytes-l.ensures ∙ ap lot_of c.part-2.ensures.1 in
    let trade = c.from_bytes-t.ensures ∙ ap trade_of c.part.ensures.1 in
    rw (c.eq.ensures, c.eq-2.ensures, key_there _ _ c.summary-at.ensures, lot, trade, c.requires.p_value)
