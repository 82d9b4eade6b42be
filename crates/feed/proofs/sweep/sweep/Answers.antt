-- Each turn lets the requests leave that one entry hits: `sweep_next`.
use Rattle.model.specs.Rows.{rows}
use Rattle.feed.specs.Sweep.{left_start, sweep_all, sweep_next}
use Rattle.feed.proofs.sweep.sweep.Goals as goal

pub loop-i-init : goal.loop-i-init
loop-i-init c = (left_start (rows c.args.book.now), c.requires)

pub sweep_entry-left-requires : goal.sweep_entry-left-requires
sweep_entry-left-requires c = c.loop-i.invariant.1

pub loop-i-preserved : goal.loop-i-preserved
loop-i-preserved c =
    let inside = rw c.places-i-end.ensures at c.loop-i-test.true in (
      sweep_next c.args.input.now c.args.book.now c.loop-i.i c.loop-i.book c.loop-i.invariant.0 _ inside
          c.entry_at.ensures c.sweep_entry-left.ensures.book_after,
      c.sweep_entry-left.ensures.directory,
    )

pub returns : goal.returns
returns c =
    let inv = c.loop-i.invariant in
    record {
      book_after =
          sweep_all c.args.input.now c.args.book.now c.loop-i.i c.loop-i.book inv.0
          (rw c.places-i-end.ensures at c.loop-i-test.false);
      directory = inv.1;
    }
