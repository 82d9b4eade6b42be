-- The place leaves the chain of its row's group, nothing is put there, and the place comes into the chain of the free
-- ones.
use Rattle.std.proofs.Common.{refl, arith}
use Rattle.upkeep.specs.Kept.{free_few, freed, live_inside, nothing_there}
use Rattle.upkeep.specs.Moves.{without_put}
use Rattle.upkeep.proofs.free.Goals as goal

pub leave-requires : goal.leave-requires
leave-requires c = record { listed = c.requires.directory.listed; at_bound = live_inside _ _ c.requires.at_value }

pub enter_free-requires : goal.enter_free-requires
enter_free-requires c =
    let p = c.put.ensures in
    let i = live_inside _ _ c.requires.at_value in
    record {
      without = without_put c.leave.ensures _ p;
      at_value = nothing_there _ _ _ i c.nothing.ensures p.1;
    }

pub overflow_add-result : goal.overflow_add-result
overflow_add-result c = let few = free_few c.requires.directory in omega arith

pub returns : goal.returns
returns c =
    let e = c.nothing.ensures in
    let p = c.put.ensures in
    record {
      book_after = rw e at p;
      directory_2 = freed c.requires.directory c.enter_free.ensures _ c.requires.at_value c.requires.at_bound
          (rw e at p.1) refl refl;
      free_value = (refl, refl);
    }
