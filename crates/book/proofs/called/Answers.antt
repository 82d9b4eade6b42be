-- The lengths, and then the shell with a directory of the book's size.
use Rattle.std.proofs.Common.{not, ap}
use Rattle.model.specs.declared.Status.TheVariants.{BadLength}
use Rattle.facts.specs.Status.{number_back}
use Rattle.book.specs.Lengths.{uncalled, wrong_lengths}
use Rattle.book.proofs.called.Goals as goal

pub returns-then-not-long-answer : goal.returns-then-not-long-answer
returns-then-not-long-answer c =
    let wrong = wrong_lengths c.args.answer.now 64 c.long.ensures (ap not c.if-not-long-answer.true) in
    uncalled _ _ _ _ wrong (number_back c.code.result BadLength c.code.ensures)
