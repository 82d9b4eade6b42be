-- By the broker of the account.
use Rattle.std.proofs.Common.{ap, ◌∙◌}
use Rattle.kinds.specs.Kinds.{request_of, trade_of}
use Rattle.by_group.specs.Rules.{asked_is}
use Rattle.by_name.proofs.trade.asked.Goals as goal

pub returns : goal.returns
returns c =
    let request = c.from_bytes-q.ensures ∙ ap request_of c.part-2.ensures.1 in
    let trade = c.from_bytes-t.ensures ∙ ap trade_of c.part.ensures.1 in
    asked_is _ _ _ trade request c.broker_of.ensures c.agrees.ensures
