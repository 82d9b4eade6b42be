-- By the trade that is found.
use Rattle.std.proofs.Common.{ap, refl, ◌∙◌}
use Rattle.record.specs.declared.row.Row.{Row}
use Rattle.kinds.specs.Kinds.{trade_of}
use Rattle.kinds.specs.declared.rows.Trade.{Trade}
use Rattle.directory.specs.Found.{key_row}
use Rattle.by_name.proofs.trade.status_of.Goals as goal

pub returns : goal.returns
unfolding trade_of
returns c =
    ap (λ (t : Trade). t.status) c.typed_at.ensures
    ∙ ap (λ (r : Row). r.status) (key_row _ _ c.trade.ensures refl)
