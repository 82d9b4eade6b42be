-- Each turn writes the place of one request down, which counts where the entry submits it.
use Rattle.std.proofs.Common.{arith}
use Rattle.model.specs.Rows.{rows}
use Rattle.groups.specs.Collect.{collect_end, collect_less}
use Rattle.hits.specs.Gather.{gather_more, gather_start}
use Rattle.hits.proofs.gather.collect.Goals as goal

pub loop-c-init : goal.loop-c-init
loop-c-init c =
    gather_start c.args.input.now c.args.i c.args.book.now c.typed_at.ensures _ c.requires.2 c.first_request-c.ensures

pub loop-c-smaller : goal.loop-c-smaller
loop-c-smaller c =
    let inside = rw c.places-end.ensures at c.loop-c-test.true in
    rw c.places-end.ensures (collect_less c.loop-c.invariant inside c.next_request-c.ensures)

pub loop-c-preserved : goal.loop-c-preserved
loop-c-preserved c =
    let inv = c.loop-c.invariant in
    let inside = rw c.places-end.ensures at c.loop-c-test.true in
    let n = inv.few in
    let few = c.requires.0.few in
    gather_more _ (rows c.args.input.now) c.args.i inv (omega arith) inside c.noted-n.ensures.value
    c.noted-n.ensures.at_after c.next_request-c.ensures

pub returns : goal.returns
returns c = collect_end c.loop-c.invariant (rw c.places-end.ensures at c.loop-c-test.false)
