-- The head of the free places leads to the lowest, and then past it.
use Rattle.std.proofs.Common.{arith}
use Rattle.upkeep.specs.Moves.{free_in, takes}
use Rattle.upkeep.proofs.take.Goals as goal

pub unlink-requires : goal.unlink-requires
unlink-requires c =
    let fits = c.requires.listed.fits in
    let i = free_in c.requires.listed c.first-at.ensures c.requires.book_bound in
    (omega arith, omega arith)

pub returns : goal.returns
returns c = takes c.requires.listed c.first-at.ensures c.requires.book_bound c.unlink.ensures
