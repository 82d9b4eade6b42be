-- The shell's promise at an order.
use Rattle.std.proofs.Common.{rules}
use Rattle.model.specs.Call.{run}
use Rattle.book.proofs.book_order.Goals as goal

pub returns : goal.returns
unfolding run
returns c = search rules
