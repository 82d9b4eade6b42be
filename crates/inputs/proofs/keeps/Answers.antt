-- The two parts of the rule; the symbol at hand is spelled right by computation.
use Rattle.std.proofs.Common.{refl}
use Rattle.record.specs.Spelling.{symbol_ok}
use Rattle.rules.specs.Beyond.{in_two}
use Rattle.inputs.proofs.keeps.Goals as goal

pub beyond-requires : goal.beyond-requires
unfolding symbol_ok
beyond-requires c = refl

pub returns : goal.returns
returns c = in_two _ _ refl c.in_limits.ensures c.beyond.ensures
