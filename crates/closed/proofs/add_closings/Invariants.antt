-- The invariant: what is left of the lots leads to the histories, the lots that go and the one that is closed in part;
-- no row that was there at entry has changed, so each lot is read as it was.
use Rattle.closed.specs.Close.{Closings}
use Rattle.closed.proofs.add_closings.Given as goal

abbrev pub invariant-loop-i : goal.invariant-loop-i
invariant-loop-i l =
    Closings l.trade l.fn.book l.at l.n l.fn.start l.fn.t l.book l.dir l.totals l.w l.i
