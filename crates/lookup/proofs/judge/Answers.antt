-- The one check is that of the rules.
use Rattle.lookup.specs.Fill.{judged}
use Rattle.lookup.proofs.judge.Goals as goal

pub returns-clause-value : goal.returns-clause-value
returns-clause-value c = judged _ _ c.all_known.ensures c.check.ensures.value
