-- The places from i on are in the directory, the free ones among them are counted, and `top` is their largest trade
-- number.
use Rattle.directory.specs.Directory.{Built}
use Rattle.directory.proofs.build.build.Given as goal

abbrev pub invariant-loop-i : goal.invariant-loop-i
invariant-loop-i l = Built l.book l.dir l.free l.top.0 l.i
