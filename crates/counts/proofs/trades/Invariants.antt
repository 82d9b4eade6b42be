-- The invariant: `sum` and the trades of this type and status from place i on are together those of the book.
use Rattle.laws.specs.Search.{bit, count}
use Rattle.model.specs.Rows.{rows}
use Rattle.model.specs.Tally.{in_square}
use Rattle.places.specs.Loop.{Summed}
use Rattle.counts.proofs.trades.Given as goal

abbrev pub invariant-loop-i : goal.invariant-loop-i
invariant-loop-i l =
    Summed (λ r. bit (in_square l.form l.status r)) 1 l.book (count (in_square l.form l.status) (rows l.book)) l.sum l.i
