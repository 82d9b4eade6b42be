-- What the lookup comes to behind its checks, and its end, is the answer that the rules define.
use Rattle.std.proofs.Common.{arith}
use Rattle.model.specs.Call.{run}
use Rattle.reply.specs.Ending.{ended, finished}
use Rattle.facts.specs.Status.{number_back}
use Rattle.shell.specs.Shell.{ends, lookup_leaves, lookup_long}
use Rattle.shell.proofs.looked.Goals as goal

pub finish-requires : goal.finish-requires
finish-requires c =
    let room = (lookup_long c.args.input.now c.args.answer.now c.requires.input_value).2 in
    let same = c.found-outcome.auto.answer in
    omega arith

pub returns : goal.returns
unfolding run
returns c =
    let long = lookup_long c.args.input.now c.args.answer.now c.requires.input_value in
    let b = c.args.book.now in
    let a = c.args.answer.now in
    let on = c.found-outcome in
    let left = on.ensures in
    ends _ _ b a long.0 left.status_value (lookup_leaves b c.args.input.now a (λ j. (c.type_inv.book j).fits) long.0)
    left.answer_after on.auto.answer (number_back c.finish.result (ended on.result) c.finish.ensures.value)
    (finished on.result _ _ left.refusal c.finish.ensures.area_after)
