-- Each count is that of its status, so the three are those of the type.
use Rattle.model.specs.Tally.{tallied}
use Rattle.counts.proofs.tallied.Goals as goal

pub returns : goal.returns
unfolding tallied
returns c = cc
