-- The definition's own sum, term by term; nothing overflows.
use Rattle.std.proofs.Common.{arith, rules}
use Rattle.chains.specs.Group.{a_hash}
use Rattle.chains.proofs.group.hash.Goals as goal

pub returns : goal.returns
returns c = (search (rules, a_hash), omega arith)
