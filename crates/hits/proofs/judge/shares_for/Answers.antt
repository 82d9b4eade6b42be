-- The shares that are told of an entry are those that count for the symbol.
use Rattle.std.proofs.Common.{rules}
use Rattle.facts.specs.Feed.{shares_for}
use Rattle.hits.proofs.judge.shares_for.Goals as goal

pub returns : goal.returns
unfolding shares_for
returns c = c.sum.ensures _ (λ i x told. search rules)
