-- One check after the other, each that of the rules; what is refused stays so.
use Rattle.std.proofs.Common.{refl, sym}
use Rattle.std.proofs.lemmas.Result.{err_from_is_err_and}
use Rattle.reply.specs.Ending.{stays}
use Rattle.hits.specs.Judge.{judged}
use Rattle.hits.proofs.judge.judge.Goals as goal

pub returns-in_err-check-clause-value : goal.returns-in_err-check-clause-value
returns-in_err-check-clause-value c =
    let one = c.in_err-check.ensures in
    let gave = err_from_is_err_and c.from_residual.result c.from_residual.ensures.1 in
    rw (gave.1, gave.2)
    (judged _ _ c.requires.book_value c.requires.trades_value c.all_known.ensures one.value refl
    (sym (stays _ _ _ (one.refusal refl))) c.requires.directory.free (sym (stays _ _ _ (one.refusal refl))))

pub returns-in_err-check-2-clause-value : goal.returns-in_err-check-2-clause-value
returns-in_err-check-2-clause-value c =
    let two = c.in_err-check-2.ensures in
    let from = c.from_residual-in_err-check-2 in
    let gave = err_from_is_err_and from.result from.ensures.1 in
    rw (gave.1, gave.2)
    (judged _ _ c.requires.book_value c.requires.trades_value c.all_known.ensures c.in_ok-check.ensures.value
    c.volumes_fit.ensures two.value c.requires.directory.free (sym (stays _ _ _ (two.refusal refl))))

pub returns-clause-value : goal.returns-clause-value
returns-clause-value c =
    judged _ _ c.requires.book_value c.requires.trades_value c.all_known.ensures c.in_ok-check.ensures.value
    c.volumes_fit.ensures c.in_ok-check-2.ensures.value c.requires.directory.free c.check-3.ensures.value
