-- Each turn puts one place in front of its bucket's chain.
use Rattle.std.proofs.Common.{rules}
use Rattle.directory.specs.Directory.{builds}
use Rattle.directory.proofs.build.build.Goals as goal

pub loop-i-init : goal.loop-i-init
loop-i-init c = search (rules, builds)

pub loop-i-preserved : goal.loop-i-preserved
loop-i-preserved c = search (rules, builds)

pub returns : goal.returns
returns c = search (rules, builds)
