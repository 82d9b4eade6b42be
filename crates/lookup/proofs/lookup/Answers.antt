-- Where no check fails the rows are answered, and their bytes are the area's; else nothing is written.
use Rattle.std.proofs.Common.{◌≡◌, ◌∙◌, refl, length, rules}
use Rattle.std.proofs.lemmas.Result.{err_from_is_err_and}
use Rattle.lookup.specs.Fill.{found_all, found_not_all, twice}
use Rattle.lookup.proofs.lookup.Goals as goal

pub answer_all-requires-clause-answer_value : goal.answer_all-requires-clause-answer_value
answer_all-requires-clause-answer_value c = (twice _ _ c.requires.input_value c.requires.answer_len).0

pub returns : goal.returns
returns c =
    let long : length c.answer_all.new.answer ≡ length c.args.answer.now = search rules in
    let whole = (twice _ _ c.requires.input_value (long ∙ c.requires.answer_len)).1 in
    let all =
    found_all _ _ _ c.in_ok-judge.ensures.value refl refl whole (λ i. (c.type_inv.answer i).fits) c.answer_all.ensures
    in
    record { value = all.0; answer_after = all.1; refusal = search rules }

pub returns-in_err-judge : goal.returns-in_err-judge
returns-in_err-judge c =
    let all = found_not_all _ _ _ c.in_err-judge.ensures.value refl c.in_err-judge.ensures.refusal in
    let gave = err_from_is_err_and c.from_residual.result c.from_residual.ensures.1 in
    rw (gave.1, gave.2) (record { value = all.0; answer_after = all.1; refusal = c.in_err-judge.ensures.refusal })
