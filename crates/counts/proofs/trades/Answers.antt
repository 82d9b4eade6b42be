-- The laws of a sum over rows: each row adds its bit, and none is left at the end.
use Rattle.std.proofs.Common.{refl, ap, ◌∙◌}
use Rattle.laws.specs.Search.{bit, count}
use Rattle.places.specs.Loop.{sum_all, sum_more, sum_start}
use Rattle.counts.proofs.trades.Goals as goal

pub loop-i-init : goal.loop-i-init
unfolding count
loop-i-init c = sum_start _ _ _

pub loop-i-preserved : goal.loop-i-preserved
loop-i-preserved c =
    let one = c.bit-sum.ensures in
    let here = rw c.places-i-end.ensures at c.loop-i-test.true in
    sum_more c.loop-i.invariant here refl (one.0 ∙ ap bit c.counts.ensures) one.1

pub returns : goal.returns
returns c = sum_all c.loop-i.invariant (rw c.places-i-end.ensures at c.loop-i-test.false)
