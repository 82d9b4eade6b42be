-- The definition's own sum, which fits.
use Rattle.std.proofs.Common.{refl, arith}
use Rattle.chains.specs.Group.{letters}
use Rattle.chains.proofs.group.letters.Goals as goal

pub returns : goal.returns
unfolding letters
returns c = (refl, omega arith)
