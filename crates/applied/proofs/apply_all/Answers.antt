-- Each turn applies one entry: `apply_more`.
use Rattle.applied.specs.Apply.{apply_end, apply_entry, apply_more, apply_start}
use Rattle.applied.proofs.apply_all.Goals as goal

pub loop-i-init : goal.loop-i-init
loop-i-init c = apply_start c.requires

pub apply-left-requires : goal.apply-left-requires
apply-left-requires c = apply_entry c.loop-i.invariant (rw c.places-i-end.ensures at c.loop-i-test.true)

pub loop-i-preserved : goal.loop-i-preserved
loop-i-preserved c =
    let inside = rw c.places-i-end.ensures at c.loop-i-test.true in
    apply_more c.loop-i.invariant inside c.apply-left.ensures

pub returns : goal.returns
returns c =
    let inv = c.loop-i.invariant in
    record {
      book_after = apply_end inv (rw c.places-i-end.ensures at c.loop-i-test.false);
      directory = inv.ready.directory;
    }
