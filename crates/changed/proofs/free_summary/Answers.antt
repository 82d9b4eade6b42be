-- A summary that is there and comes to zero goes.
use Rattle.std.proofs.Common.{refl}
use Rattle.changed.specs.Change.{one_goes, one_turned, unturned}
use Rattle.changed.proofs.free_summary.Goals as goal

pub free-requires-clause-at_value : goal.free-requires-clause-at_value
free-requires-clause-at_value c =
    let goes = one_goes _ _ c.requires (rw c.size.ensures at c.if-terms-size.true) in
    goes.0

pub free-requires-clause-at_bound : goal.free-requires-clause-at_bound
free-requires-clause-at_bound c =
    let goes = one_goes _ _ c.requires (rw c.size.ensures at c.if-terms-size.true) in
    goes.1

pub returns-then-terms-size : goal.returns-then-terms-size
returns-then-terms-size c =
    one_turned _ _ _ c.requires (rw c.size.ensures at c.if-terms-size.true) refl c.free.ensures.book_after
    c.free.ensures.directory_2

pub returns : goal.returns
returns c = unturned _ _ _ c.requires (rw c.size.ensures at c.if-terms-size.false)
