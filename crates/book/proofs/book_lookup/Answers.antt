-- The lengths, and then the shell of a lookup with a directory of the book's size.
use Rattle.std.proofs.Common.{◌*◌, length, not, ap}
use Rattle.model.specs.Call.{run}
use Rattle.model.specs.declared.Status.TheVariants.{BadLength}
use Rattle.facts.specs.Status.{number_back}
use Rattle.book.specs.Lengths.{uncalled, wrong_lengths}
use Rattle.book.proofs.book_lookup.Goals as goal

pub returns-then-not-whole-answer : goal.returns-then-not-whole-answer
unfolding run
returns-then-not-whole-answer c =
    let many = 2 * length c.args.input.now in
    let wrong = wrong_lengths c.args.answer.now many c.whole.ensures (ap not c.if-not-whole-answer.true) in
    uncalled _ _ _ _ wrong (number_back c.code.result BadLength c.code.ensures)
