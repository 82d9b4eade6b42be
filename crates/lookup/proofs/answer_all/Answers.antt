-- Each turn puts the two rows of its record in their places: `fill_more`.
use Rattle.std.proofs.Common.{◌∙◌}
use Rattle.lookup.specs.Fill.{fill_all, fill_more, whole}
use Rattle.lookup.proofs.answer_all.Goals as goal

pub loop-i-preserved : goal.loop-i-preserved
loop-i-preserved c =
    fill_more c.loop-i.invariant _ (rw c.places-i-end.ensures at c.loop-i-test.true) c.asked.ensures
    c.answer_one.ensures.answers

pub returns : goal.returns
returns c =
    fill_all c.loop-i.invariant (rw c.places-i-end.ensures at c.loop-i-test.false)
    ∙ whole _ _ _ c.requires.answer_value
