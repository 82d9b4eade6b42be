-- With roll back the rows are as they were. Else each row is put into the lowest place that is free, with the directory
-- kept; the request comes last, where the order waits.
use Rattle.std.proofs.Common.{arith, rules}
use Rattle.order.specs.Post.{all_asked, all_now, left_after, left_start, live_history, live_request, live_trade}
use Rattle.order.specs.Post.{may_add, rolled_back, two_added, waits}
use Rattle.order.proofs.post.post.Goals as goal

pub returns-then-rolls_back-clause-book_after : goal.returns-then-rolls_back-clause-book_after
returns-then-rolls_back-clause-book_after c = search (rules, rolled_back)

pub add-next-requires-clause-le_free : goal.add-next-requires-clause-le_free
add-next-requires-clause-le_free c = grind (arith, left_start, live_trade, may_add)

pub add-last-requires-clause-le_free : goal.add-last-requires-clause-le_free
add-last-requires-clause-le_free c = grind (arith, left_start, live_trade, left_after, live_history, may_add)

pub returns-then-input-le-TMS-clause-book_after : goal.returns-then-input-le-TMS-clause-book_after
returns-then-input-le-TMS-clause-book_after c =
    let i = c.args.input in
    let t = c.args.terms in
    let e = c.args.estimate in
    let first = c.add-next.ensures in
    let second = c.add-last.ensures in
    all_now i t e _ c.rolls_back.ensures c.if-rolls_back.false c.if-input-le-TMS.true
    (two_added i t e c.requires c.trade_row-trade.ensures first.fact first.directory_2 first.free_value
    c.history_row-history.ensures second.fact second.directory_2 second.free_value)

pub add-requires-clause-le_free : goal.add-requires-clause-le_free
add-requires-clause-le_free c =
    let i = c.args.input in
    let t = c.args.terms in
    let e = c.args.estimate in
    let first = c.add-next.ensures in
    let second = c.add-last.ensures in
    let two =
    two_added i t e c.requires c.trade_row-trade.ensures first.fact first.directory_2 first.free_value
    c.history_row-history.ensures second.fact second.directory_2 second.free_value
    in
    (may_add (waits i t e c.if-input-le-TMS.false two) (live_request i t e) c.request_row.ensures).1

pub returns-clause-book_after : goal.returns-clause-book_after
returns-clause-book_after c =
    let i = c.args.input in
    let t = c.args.terms in
    let e = c.args.estimate in
    let first = c.add-next.ensures in
    let second = c.add-last.ensures in
    let third = c.add.ensures in
    let two =
    two_added i t e c.requires c.trade_row-trade.ensures first.fact first.directory_2 first.free_value
    c.history_row-history.ensures second.fact second.directory_2 second.free_value
    in
    let last = waits i t e c.if-input-le-TMS.false two in
    all_asked i t e _ c.rolls_back.ensures c.if-rolls_back.false
    (left_after last (live_request i t e) c.request_row.ensures third.fact third.directory_2 third.free_value)
