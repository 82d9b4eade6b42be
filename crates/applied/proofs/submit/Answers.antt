-- The history row is added, and the trade's row changed in its place, which the added row does not move.
use Rattle.std.proofs.Common.{refl}
use Rattle.applied.specs.Submit.{history_is, history_live, sent_is, sent_one, sent_stays}
use Rattle.applied.proofs.submit.Goals as goal

pub add-more-requires-clause-le_free : goal.add-more-requires-clause-le_free
add-more-requires-clause-le_free c =
    (c.requires.ready.1, history_live _ _ (history_is c.args.no c.args.time c.from.ensures))

pub change-requires-clause-row_value : goal.change-requires-clause-row_value
change-requires-clause-row_value c =
    let time = c.args.time.0 in
    let i = c.args.no.0 in
    let ready = c.requires.ready.0 in
    let room = c.requires.ready.1 in
    let there = c.requires.book_value in
    let h = history_is c.args.no c.args.time c.from.ensures in
    let p = c.trade-at.ensures in
    let a = c.add-more.ensures in
    let is = sent_is ready room time i there h (a.fact, (a.directory_2, a.free_value)) p c.typed_at-next.ensures refl c.from-2.ensures in
    sent_stays ready room time i there h (a.fact, (a.directory_2, a.free_value)) p is

pub returns : goal.returns
returns c =
    let time = c.args.time.0 in
    let i = c.args.no.0 in
    let ready = c.requires.ready.0 in
    let room = c.requires.ready.1 in
    let there = c.requires.book_value in
    let h = history_is c.args.no c.args.time c.from.ensures in
    let p = c.trade-at.ensures in
    let a = c.add-more.ensures in
    let is = sent_is ready room time i there h (a.fact, (a.directory_2, a.free_value)) p c.typed_at-next.ensures refl c.from-2.ensures in
    sent_one ready room time i there h (a.fact, (a.directory_2, a.free_value)) p is c.change.ensures.book_after c.change.ensures.directory_2
