-- An entry that hits decides; one that does not leaves the rest to decide.
use Rattle.hits.specs.Judge.{hitting}
use Rattle.hits.proofs.judge.hit_before.Goals as goal

pub returns-then-hits : goal.returns-then-hits
returns-then-hits c = search hitting

pub loop-i-preserved : goal.loop-i-preserved
loop-i-preserved c = search hitting

pub returns : goal.returns
returns c = search hitting
