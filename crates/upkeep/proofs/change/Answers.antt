-- The row has the bucket of the one before it.
use Rattle.upkeep.specs.Kept.{changed}
use Rattle.upkeep.proofs.change.Goals as goal

pub returns-clause-directory_2 : goal.returns-clause-directory_2
returns-clause-directory_2 c = changed c.requires.directory _ _ c.requires.row_value c.put.ensures
