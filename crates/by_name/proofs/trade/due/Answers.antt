-- By the settlement that is found; the bits of an amount are those of its row.
use Rattle.std.proofs.Common.{ap, ◌∙◌}
use Rattle.kinds.specs.Kinds.{cash_of}
use Rattle.by_group.specs.Rules.{due_is}
use Rattle.by_name.proofs.trade.due.Goals as goal

pub returns : goal.returns
returns c =
    let cash = c.from_bytes-c.ensures ∙ ap cash_of c.part.ensures.1 in
    let settlement = c.typed_at-s.ensures in
    due_is _ _ (λ j. (c.type_inv.book j).fits) cash c.settlement.ensures settlement c.bits.ensures c.bits-2.ensures
