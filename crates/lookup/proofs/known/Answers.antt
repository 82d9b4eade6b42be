-- The trade is there where its place is not the end.
use Rattle.std.proofs.Common.{ap, ◌∙◌}
use Rattle.units.specs.declared.TradeNo.{TradeNo}
use Rattle.model.specs.Names.{a_trade}
use Rattle.model.specs.Rows.{rows, there}
use Rattle.directory.specs.Found.{key_there}
use Rattle.lookup.proofs.known.Goals as goal

pub returns : goal.returns
returns c =
    rw c.places.ensures (key_there _ _ c.trade.ensures
    ∙ ap (λ (t : TradeNo). there (a_trade t.0) (rows c.args.book.now)) c.asked.ensures)
