-- Its security and its account are there, or it is not right.
use Rattle.std.proofs.Common.{ap, ◌∙◌}
use Rattle.kinds.specs.Kinds.{trade_of}
use Rattle.rules.specs.Rules.{fits}
use Rattle.by_kind.specs.Spelt.{symbol_known}
use Rattle.by_kind.specs.Told.{trade_lost, trade_told}
use Rattle.by_kind.proofs.own.trade_right.Goals as goal

pub returns-then-n-security : goal.returns-then-n-security
returns-then-n-security c =
    let row = c.from_bytes-t.ensures ∙ ap trade_of c.part.ensures.1 in
    trade_lost _ _ c.requires.i_bound.1 row c.security.ensures c.if-n-security.true

pub fits_beside-requires : goal.fits_beside-requires
fits_beside-requires c =
    (c.part-2.ensures.0, symbol_known _ c.if-n-security.false c.requires.kind_fits _ c.security.ensures)

pub returns : goal.returns
returns c =
    let row = c.from_bytes-t.ensures ∙ ap trade_of c.part.ensures.1 in
    let fit = c.fits_beside.ensures ∙ ap fits c.part-2.ensures.1 in
    trade_told _ _ c.requires.i_bound.1 row c.security.ensures c.if-n-security.false fit c.account.ensures
