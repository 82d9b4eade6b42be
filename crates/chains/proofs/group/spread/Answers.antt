-- The definition's own sum, which fits.
use Rattle.std.proofs.Common.{refl, arith}
use Rattle.chains.specs.Group.{spread}
use Rattle.chains.proofs.group.spread.Goals as goal

pub returns : goal.returns
unfolding spread
returns c = (refl, omega arith)
