-- Where the judge finds no fault the rows are posted and the answer is put.
use Rattle.std.proofs.Common.{◌≡◌, refl, length, rules}
use Rattle.std.proofs.lemmas.Result.{err_from_is_err_and}
use Rattle.reading.specs.Lots.{holds}
use Rattle.result.specs.Ended.{post_asks, result_done, result_refused, right_input}
use Rattle.result.proofs.result.Goals as goal

pub lots_of-n-requires-clause-book_value : goal.lots_of-n-requires-clause-book_value
lots_of-n-requires-clause-book_value c = (c.requires.book_value.0, holds _ _ c.terms_of-terms.ensures)

pub reckoned-figures-requires-clause-book_value : goal.reckoned-figures-requires-clause-book_value
reckoned-figures-requires-clause-book_value c =
    (c.requires.book_value.0, right_input _ c.requires.input_len.1 c.from_bytes-what.ensures)

pub post-totals-requires : goal.post-totals-requires
post-totals-requires c =
    post_asks _ c.requires.input_len.1 c.from_bytes-what.ensures c.requires.directory c.requires.book_value.0
    c.terms_of-terms.ensures c.reckoned-figures.ensures c.in_ok-judge.ensures.value refl refl c.lots_of-n.ensures

pub returns : goal.returns
returns c =
    let same : length c.post-totals.new.book ≡ length c.args.book.now = search rules in
    let done =
    result_done _ c.requires.input_len.1 c.from_bytes-what.ensures c.requires.directory c.requires.book_value.0
    c.terms_of-terms.ensures c.reckoned-figures.ensures c.in_ok-judge.ensures.value refl _ _ refl
    c.post-totals.ensures.book_after c.requires.book_value.1 same (λ i. (c.type_inv.book i).fits)
    c.requires.answer_len c.write_answer.ensures
    in
    record {
      status_value = done.0;
      book_after = done.1;
      answer_after = done.2;
      fact = c.post-totals.ensures.directory;
      refusal = search rules;
    }

pub returns-in_err-judge : goal.returns-in_err-judge
returns-in_err-judge c =
    let left =
    result_refused _ c.requires.input_len.1 c.from_bytes-what.ensures c.requires.directory c.requires.book_value.0
    c.terms_of-terms.ensures c.reckoned-figures.ensures c.in_err-judge.ensures.value refl _
    c.in_err-judge.ensures.refusal
    in
    let gave = err_from_is_err_and c.from_residual.result c.from_residual.ensures.1 in
    rw (gave.1, gave.2) (record {
      status_value = left.0;
      book_after = left.1;
      answer_after = left.2;
      fact = c.requires.directory;
      refusal = c.in_err-judge.ensures.refusal;
    })
