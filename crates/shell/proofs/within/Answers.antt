-- What the call comes to behind its checks, and its end, is the answer that the rules define.
use Rattle.reply.specs.Ending.{ended, finished}
use Rattle.facts.specs.Status.{number_back}
use Rattle.shell.specs.Shell.{ends, long_both}
use Rattle.shell.proofs.within.Goals as goal

pub returns : goal.returns
returns c =
    let on = c.checked-outcome in
    let left = on.ensures in
    ends _ _ c.args.book.now c.args.answer.now
    (long_both c.args.answer.now c.requires.input_value.0 c.requires.input_value.1)
    left.status_value left.book_after left.answer_after on.auto.answer
    (number_back c.finish.result (ended on.result) c.finish.ensures.value)
    (finished on.result _ _ left.refusal c.finish.ensures.area_after)
