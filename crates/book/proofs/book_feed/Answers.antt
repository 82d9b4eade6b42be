-- The shell's promise at a feed.
use Rattle.std.proofs.Common.{rules}
use Rattle.model.specs.Call.{run}
use Rattle.book.proofs.book_feed.Goals as goal

pub returns : goal.returns
unfolding run
returns c = search rules
