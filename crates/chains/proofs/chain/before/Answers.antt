-- Each cell of the chain that is passed leads to a place before p.
use Rattle.std.proofs.Common.{rules}
use Rattle.chains.specs.Chains.{chains}
use Rattle.chains.proofs.chain.before.Goals as goal

pub loop-c-init : goal.loop-c-init
loop-c-init c = search (rules, chains)

pub loop-c-preserved : goal.loop-c-preserved
loop-c-preserved c = search (rules, chains)
