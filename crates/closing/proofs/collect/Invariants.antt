-- The invariant: the lots to close that stand before the place c are collected, and at c stands a lot of the account
-- and symbol, if c is inside the book. No more are collected than places are passed. The measure is what is left of the
-- book.
use Rattle.std.proofs.Common.{◌-◌}
use Rattle.groups.specs.Collect.{Collecting}
use Rattle.closing.specs.Closing.{closed_by, mine}
use Rattle.closing.proofs.collect.Given as goal

abbrev pub invariant-loop-c : goal.invariant-loop-c
invariant-loop-c l = Collecting (mine l.sought) (closed_by l.sought) l.book l.at l.n l.c

abbrev pub decreases-loop-c : goal.decreases-loop-c
decreases-loop-c l = l.end - l.c
