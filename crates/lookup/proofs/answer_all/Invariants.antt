-- What is left of the input, answered into the area as it is, leads to the whole answer; the area keeps its length.
use Rattle.std.proofs.Math.Seq.{sets}
use Rattle.model.specs.Lookup.{looked}
use Rattle.model.specs.Rows.{rows}
use Rattle.lookup.specs.Fill.{Filled}
use Rattle.lookup.proofs.answer_all.Given as goal

abbrev pub invariant-loop-i : goal.invariant-loop-i
invariant-loop-i l =
    Filled (rows l.book) l.input (sets (rows l.initial.answer) 0 (looked (rows l.book) (rows l.input))) l.answer l.i
