-- Each of them is what the definition has. In a sound book the rates sum to at most the whole, and the next number
-- fits.
use Rattle.std.proofs.Common.{arith}
use Rattle.facts.specs.Found.{sound_s1}
use Rattle.facts.specs.Most.{number_most_holds, rates_most}
use Rattle.estimate.specs.Terms.{terms_are}
use Rattle.estimate.proofs.terms.terms_of.Goals as goal

pub tax_rates-requires : goal.tax_rates-requires
tax_rates-requires c = record { listed = c.requires.0.listed; customer_bound = rates_most _ _ c.requires.1 }

pub overflow_add-result : goal.overflow_add-result
overflow_add-result c =
    let most = number_most_holds _ (sound_s1 _ c.requires.1) in
    let is = c.requires.0.largest in
    omega arith

pub returns : goal.returns
returns c =
    terms_are _ c.args.input c.holder_of-holder.ensures c.permitted-permitted.ensures c.paper_of-paper.ensures
    c.tier-tier.ensures c.charge_of.ensures c.tax_rates.ensures c.search.ensures
    c.requires.0.largest
