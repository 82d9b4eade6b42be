-- Each of them is what the view of the rules has.
use Rattle.facts.specs.Most.{rates_most}
use Rattle.reading.specs.Terms.{terms_are}
use Rattle.reading.proofs.terms.terms_of.Goals as goal

pub tax_rates-requires-clause-customer_bound : goal.tax_rates-requires-clause-customer_bound
tax_rates-requires-clause-customer_bound c = rates_most _ _ c.requires.book_value

pub returns : goal.returns
returns c =
    terms_are _ c.args.input c.places_of-at.ensures c.places-end.ensures c.typed_at-trade.ensures
    c.typed_at-account.ensures c.typed_at.ensures c.typed_at-2.ensures c.tax_rates.ensures c.band_of.ensures
