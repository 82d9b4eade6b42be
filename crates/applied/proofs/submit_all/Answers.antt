-- Each turn submits the trade of one request: `submit_more`.
use Rattle.sorted.specs.First.{at_first, past_first}
use Rattle.applied.specs.Submit.{submit_end, submit_more, submit_number, submit_room, submit_start, submit_there}
use Rattle.applied.proofs.submit_all.Goals as goal

pub loop-place-init : goal.loop-place-init
loop-place-init c = submit_start _ _ _ _ c.requires.ready.0 c.requires.asking

pub submit-left-requires : goal.submit-left-requires
submit-left-requires c =
    let inv = c.loop-place.invariant in
    let first = at_first _ _ _ c.loop-place-test.true in
    let h = first.0 in
    let long = c.requires.ready.2 in
    let i = submit_number inv h long c.requires.asking (rw first.1 at c.number-no.ensures) in
    record {
      ready = (inv.ready, submit_room inv h long c.requires.asking c.requires.ready.1);
      book_value = rw i (submit_there inv h long c.requires.asking);
    }

pub loop-place-preserved : goal.loop-place-preserved
loop-place-preserved c =
    let inv = c.loop-place.invariant in
    let first = at_first _ _ _ c.loop-place-test.true in
    let h = first.0 in
    let long = c.requires.ready.2 in
    let i = submit_number inv h long c.requires.asking (rw first.1 at c.number-no.ensures) in
    submit_more inv h long c.requires.asking i c.submit-left.ensures

pub returns : goal.returns
returns c =
    let end = submit_end c.loop-place.invariant (past_first _ _ _ c.requires.ready.2 c.loop-place-test.false) in
    record { book_after = end.0; ready_2 = (c.loop-place.invariant.ready, end.1) }
