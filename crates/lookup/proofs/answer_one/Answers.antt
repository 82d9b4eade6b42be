-- The two rows are put one after the other; each put keeps the length.
use Rattle.std.proofs.Common.{refl, ◌∙◌}
use Rattle.directory.specs.Found.{key_row}
use Rattle.lookup.proofs.answer_one.Goals as goal

pub returns-clause-answers : goal.returns-clause-answers
returns-clause-answers c =
    let second = key_row _ _ c.settlement.ensures refl in
    let first = key_row _ _ c.trade.ensures refl in
    c.put_from-2.ensures.1 ∙ rw (c.put_from.ensures.1, second, first)
