-- Each line is that of its type, so the five are the square.
use Rattle.model.specs.Tally.{tally}
use Rattle.counts.proofs.tally.Goals as goal

pub returns : goal.returns
unfolding tally
returns c = cc
