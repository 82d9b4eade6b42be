-- By the two trades.
use Rattle.std.proofs.Common.{ap, ◌∙◌}
use Rattle.kinds.specs.Kinds.{lot_history_of}
use Rattle.by_name.proofs.trade.done.Goals as goal

pub returns : goal.returns
unfolding lot_history_of
returns c =
    let row = c.from_bytes-h.ensures ∙ ap lot_history_of c.part.ensures.1 in
    rw (c.status_of.ensures, c.status_of-2.ensures, row)
