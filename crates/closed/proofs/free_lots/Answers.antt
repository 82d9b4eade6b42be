-- Each place that is freed is the next of those that are left.
use Rattle.std.proofs.Common.{◌∙◌}
use Rattle.sorted.specs.First.{at_first, past_first}
use Rattle.closed.specs.Close.{free_asks, free_done, free_more}
use Rattle.closed.proofs.free_lots.Goals as goal

pub free-totals-requires-clause-at_value : goal.free-totals-requires-clause-at_value
free-totals-requires-clause-at_value c =
    let first = at_first _ _ _ c.loop-place-test.true in
    let asks = free_asks c.loop-place.invariant first.0 c.requires.gone_in_bounds (c.from.ensures ∙ first.1) in
    asks.1.0

pub free-totals-requires-clause-at_bound : goal.free-totals-requires-clause-at_bound
free-totals-requires-clause-at_bound c =
    let first = at_first _ _ _ c.loop-place-test.true in
    let asks = free_asks c.loop-place.invariant first.0 c.requires.gone_in_bounds (c.from.ensures ∙ first.1) in
    asks.1.1

pub loop-place-preserved : goal.loop-place-preserved
loop-place-preserved c =
    let first = at_first _ _ _ c.loop-place-test.true in
    free_more c.loop-place.invariant first.0 c.requires.gone_in_bounds (c.from.ensures ∙ first.1)
    c.free-totals.ensures.book_after c.free-totals.ensures.directory_2

pub returns : goal.returns
returns c = free_done c.loop-place.invariant (past_first _ _ _ c.requires.gone_in_bounds c.loop-place-test.false)
