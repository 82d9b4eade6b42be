-- The lowest free place leaves the chain of the free ones, the row is put there, and the place comes into the chain of
-- the row's group.
use Rattle.std.proofs.Common.{refl}
use Rattle.upkeep.specs.Kept.{added, free_inside}
use Rattle.upkeep.specs.Moves.{without_put}
use Rattle.upkeep.proofs.add.Goals as goal

pub take-at-requires-clause-book_bound : goal.take-at-requires-clause-book_bound
take-at-requires-clause-book_bound c = free_inside c.requires.directory c.requires.le_free.0

pub enter-requires : goal.enter-requires
enter-requires c = without_put c.take-at.ensures.1 _ c.put.ensures

pub returns-clause-directory_2 : goal.returns-clause-directory_2
returns-clause-directory_2 c =
    added c.requires.directory c.enter.ensures c.args.row c.take-at.ensures.0 c.requires.le_free.0
    c.requires.le_free.1 c.put.ensures.1 refl c.raised.ensures
