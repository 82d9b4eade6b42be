-- Each is found by its key, that of the trade first.
use Rattle.reading.specs.Terms.{places_are}
use Rattle.reading.proofs.terms.places_of.Goals as goal

pub returns : goal.returns
returns c =
    places_are _ _ c.trade-own.ensures c.typed_at-trade.ensures c.account-account.ensures
    c.typed_at.ensures c.summary.ensures c.broker.ensures
