-- The marked fields tell the key: `marked`.
use Rattle.record.specs.Symbol.{same_symbol}
use Rattle.directory.specs.Marked.{marked}
use Rattle.directory.proofs.find.has.Goals as goal

pub returns : goal.returns
unfolding same_symbol
returns c = marked _ _ c.requires.0 c.requires.1 c.eq.ensures
