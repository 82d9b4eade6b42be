-- A flag is a bit.
use Rattle.std.proofs.Common.{ap, ◌∙◌}
use Rattle.kinds.specs.Kinds.{settlement_of, trade_of}
use Rattle.by_group.specs.Rules.{settles_is}
use Rattle.by_name.proofs.trade.settles.Goals as goal

pub returns : goal.returns
returns c =
    let settlement = c.from_bytes-s.ensures ∙ ap settlement_of c.part-2.ensures.1 in
    let trade = c.from_bytes-t.ensures ∙ ap trade_of c.part.ensures.1 in
    settles_is _ _ trade settlement
