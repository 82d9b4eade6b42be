-- The status of the history that the record is.
use Rattle.std.proofs.Common.{ap, ◌∙◌}
use Rattle.record.specs.declared.row.Row.{Row}
use Rattle.kinds.specs.Kinds.{trade_history_of}
use Rattle.kinds.specs.declared.rows.TradeHistory.{TradeHistory}
use Rattle.clauses.proofs.hung.past.Goals as goal

pub returns : goal.returns
unfolding trade_history_of
returns c =
    ap (λ (h : TradeHistory). h.status) c.from_bytes.ensures ∙ ap (λ (r : Row). r.status) c.part.ensures.1
