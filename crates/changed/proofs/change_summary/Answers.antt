-- A summary that is there, and does not come to zero, is changed in its place.
use Rattle.std.proofs.Common.{refl}
use Rattle.kinds.specs.Written.{summary_row}
use Rattle.changed.specs.Change.{one_stays, one_turned, unturned}
use Rattle.changed.proofs.change_summary.Goals as goal

pub change-requires-clause-row_value : goal.change-requires-clause-row_value
unfolding summary_row
change-requires-clause-row_value c =
    one_stays _ _ _ c.requires (rw c.size.ensures at c.if-terms-size.true) refl c.summary_after.ensures

pub returns-then-terms-size : goal.returns-then-terms-size
returns-then-terms-size c =
    one_turned _ _ _ c.requires (rw c.size.ensures at c.if-terms-size.true) c.summary_after.ensures
    c.change.ensures.book_after c.change.ensures.directory_2

pub returns-else-terms-size : goal.returns-else-terms-size
returns-else-terms-size c = unturned _ _ _ c.requires (rw c.size.ensures at c.if-terms-size.false)
