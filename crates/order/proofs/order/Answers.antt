-- Where the judge finds no fault the rows are posted, with the directory kept, and the answer is put.
use Rattle.std.proofs.Common.{◌≡◌, refl, length, rules}
use Rattle.std.proofs.lemmas.Result.{err_from_is_err_and}
use Rattle.facts.specs.Found.{sound_s1}
use Rattle.estimate.specs.Terms.{fits_of, ranged}
use Rattle.order.specs.Whole.{has_room, order_done, order_refused}
use Rattle.order.proofs.order.Goals as goal

pub estimated-estimate-requires : goal.estimated-estimate-requires
estimated-estimate-requires c =
    let good = c.requires.book_value.0 in
    let fits = fits_of _ c.from_bytes-given.ensures c.requires.input_len.1 in
    record {
      listed = (c.requires.directory.listed, sound_s1 _ good);
      fits = (fits, ranged _ _ good c.terms_of-terms.ensures);
    }

pub post-totals-requires : goal.post-totals-requires
post-totals-requires c =
    has_room _ c.args.answer.now _ c.requires.book_value.0 c.requires.input_len.1 c.requires.directory
    c.from_bytes-given.ensures c.terms_of-terms.ensures c.estimated-estimate.ensures c.in_ok-judge.ensures.value
    refl refl

pub returns : goal.returns
returns c =
    let same : length c.post-totals.new.book ≡ length c.args.book.now = search rules in
    let done =
    order_done _ _ _ c.requires.book_value.0 c.requires.input_len.1 c.requires.directory c.from_bytes-given.ensures
    c.terms_of-terms.ensures c.estimated-estimate.ensures c.in_ok-judge.ensures.value refl _ refl
    c.post-totals.ensures.book_after c.requires.book_value.1 same (λ i. (c.type_inv.book i).fits)
    c.requires.answer_len c.answer_row.ensures c.put.ensures.0
    in
    record {
      status_value = done.0;
      book_after = done.1;
      answer_after = done.2;
      directory_2 = c.post-totals.ensures.directory;
      refusal = search rules;
    }

pub returns-in_err-judge : goal.returns-in_err-judge
returns-in_err-judge c =
    let left =
    order_refused _ _ _ c.requires.book_value.0 c.requires.input_len.1 c.requires.directory c.from_bytes-given.ensures
    c.terms_of-terms.ensures c.estimated-estimate.ensures c.in_err-judge.ensures.value refl c.in_err-judge.ensures.refusal
    in
    let gave = err_from_is_err_and c.from_residual.result c.from_residual.ensures.1 in
    rw (gave.1, gave.2) (record {
      status_value = left.0;
      book_after = left.1;
      answer_after = left.2;
      directory_2 = c.requires.directory;
      refusal = c.in_err-judge.ensures.refusal;
    })
