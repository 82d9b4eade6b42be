-- What is collected is put in order.
use Rattle.hits.specs.Gather.{gathered}
use Rattle.hits.proofs.gather.submits.Goals as goal

pub returns : goal.returns
returns c = gathered c.collect-n.ensures c.sort.ensures
