-- Each turn lets one request leave, if the entry hits it: `sweep_more`.
use Rattle.std.proofs.Common.{◌≡◌, arith, length, rules}
use Rattle.places.specs.Rows.{row_at}
use Rattle.feed.specs.Sweep.{asks, in_book, past_book, sweep_end, sweep_less, sweep_more, sweep_start}
use Rattle.feed.proofs.sweep.sweep_entry.Goals as goal

pub loop-c-init : goal.loop-c-init
loop-c-init c = (sweep_start c.args.entry _ c.first_request-c.ensures, c.requires)

pub next_request-next-requires : goal.next_request-next-requires
next_request-next-requires c =
    let inv = c.loop-c.invariant in
    let inside = in_book c.loop-c.book c.args.book.now c.places-end.ensures (search rules) c.loop-c-test.true in
    record { listed = inv.1.listed; at_bound = (inside, inv.0.here inside) }

pub sweep_one-left-requires : goal.sweep_one-left-requires
sweep_one-left-requires c =
    let inv = c.loop-c.invariant in
    let inside = in_book c.loop-c.book c.args.book.now c.places-end.ensures (search rules) c.loop-c-test.true in
    record {
      directory = inv.1;
      at_value = asks c.args.entry (row_at c.loop-c.book c.loop-c.c) (inv.0.here inside);
    }

pub loop-c-smaller : goal.loop-c-smaller
loop-c-smaller c =
    let same : length c.loop-c.book ≡ length c.args.book.now = search rules in
    let inside = in_book c.loop-c.book c.args.book.now c.places-end.ensures same c.loop-c-test.true in
    let less = sweep_less c.loop-c.invariant.0 inside c.next_request-next.ensures in
    let end = c.places-end.ensures in
    omega arith

pub loop-c-preserved : goal.loop-c-preserved
loop-c-preserved c =
    let inside = in_book c.loop-c.book c.args.book.now c.places-end.ensures (search rules) c.loop-c-test.true in (
      sweep_more c.loop-c.invariant.0 inside (search rules) c.next_request-next.ensures
          c.sweep_one-left.ensures.book_after,
      c.sweep_one-left.ensures.directory_2,
    )

pub returns : goal.returns
returns c =
    let inv = c.loop-c.invariant in
    let past = past_book c.loop-c.book c.args.book.now c.places-end.ensures (search rules) c.loop-c-test.false in
    record { book_after = sweep_end inv.0 past; directory = inv.1 }
