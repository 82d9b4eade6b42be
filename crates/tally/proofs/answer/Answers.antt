-- Each status has its text: the square where the book is sound, and its own line where it is refused. A book has no
-- other status than these three.
use Rattle.tally.specs.Answer.{answer_other, answer_square, answer_unsound, bad_line, unsound_line}
use Rattle.tally.specs.Page.{wrote_counts, wrote_front}
use Rattle.std.proofs.Common.{◌∙◌}
use Rattle.tally.proofs.answer.Goals as goal

pub returns-in-Done-clause-page_after : goal.returns-in-Done-clause-page_after
returns-in-Done-clause-page_after c =
    wrote_front c.put_square.ensures ∙ answer_square _ _ c.status.ensures _ c.tally.ensures c.in-Done.is

pub returns-in-Unsound-clause-page_after : goal.returns-in-Unsound-clause-page_after
returns-in-Unsound-clause-page_after c =
    wrote_front c.put.ensures ∙ (unsound_line ∙ answer_unsound _ _ c.status.ensures c.in-Unsound.is)

pub returns-in_default : goal.returns-in_default
returns-in_default c =
    let w = c.put-in_default.ensures in
    let other = answer_other _ _ c.status.ensures c.in_default.not-Done c.in_default.not-Unsound in
    record { prefix_len = wrote_counts w; page_after = wrote_front w ∙ (bad_line ∙ other) }
