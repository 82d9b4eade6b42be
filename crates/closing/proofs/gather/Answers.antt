-- What is collected is put in order.
use Rattle.closing.specs.Closing.{gathered}
use Rattle.closing.proofs.gather.Goals as goal

pub returns : goal.returns
returns c = gathered c.collect-n.ensures c.by_time.ensures c.sort.ensures
