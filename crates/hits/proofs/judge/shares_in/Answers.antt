-- The shares that are told of an entry are its own.
use Rattle.std.proofs.Common.{rules}
use Rattle.hits.specs.Judge.{shares_in}
use Rattle.hits.proofs.judge.shares_in.Goals as goal

pub returns : goal.returns
unfolding shares_in
returns c = c.sum.ensures _ (λ i x told. search rules)
