-- The two parts of the rule.
use Rattle.std.proofs.Common.{refl}
use Rattle.rules.specs.Beyond.{in_two}
use Rattle.rules.proofs.obey.obeys.Goals as goal

pub returns : goal.returns
returns c = in_two _ _ refl c.in_limits.ensures c.beyond.ensures
