-- Each turn puts one place in front of its kind's chain.
use Rattle.std.proofs.Common.{rules}
use Rattle.by_kind.specs.Chains.{chains}
use Rattle.by_kind.proofs.chain.chain.Goals as goal

pub loop-i-init : goal.loop-i-init
loop-i-init c = search (rules, chains)

pub returns-then-row-gt-LAST : goal.returns-then-row-gt-LAST
returns-then-row-gt-LAST c = search (rules, chains)

pub loop-i-preserved : goal.loop-i-preserved
loop-i-preserved c = search (rules, chains)

pub returns : goal.returns
returns c = search (rules, chains)
