-- The lots of the account and symbol are walked over; those to close are collected.
use Rattle.std.proofs.Common.{arith}
use Rattle.groups.specs.Collect.{collect_end, collect_less, collect_start}
use Rattle.closing.specs.Closing.{closed_by, lot_more, mine, others}
use Rattle.closing.proofs.collect.Goals as goal

pub loop-c-init : goal.loop-c-init
loop-c-init c =
    let s = c.args.sought in
    collect_start (mine s) (closed_by s) (others s) _ _ c.requires.1 c.first_lot-c.ensures

pub loop-c-smaller : goal.loop-c-smaller
loop-c-smaller c =
    let end = c.places-end.ensures in
    let inside = rw end at c.loop-c-test.true in
    rw end (collect_less c.loop-c.invariant inside c.next_lot-c.ensures)

pub loop-c-preserved : goal.loop-c-preserved
loop-c-preserved c =
    let inv = c.loop-c.invariant in
    let inside = rw c.places-end.ensures at c.loop-c-test.true in
    let n = inv.few in
    let few = c.requires.0.few in
    lot_more c.args.sought inv (omega arith) inside c.noted-n.ensures.value c.noted-n.ensures.at_after
    c.next_lot-c.ensures

pub returns : goal.returns
returns c = collect_end c.loop-c.invariant (rw c.places-end.ensures at c.loop-c-test.false)
