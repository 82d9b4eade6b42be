-- The code's test is the definition, and the symbols are compared as it says.
use Rattle.record.specs.Symbol.{same_symbol}
use Rattle.hits.specs.Hits.{reaches}
use Rattle.hits.proofs.judge.hits.Goals as goal

pub returns : goal.returns
unfolding same_symbol reaches
returns c = rw c.eq.ensures
