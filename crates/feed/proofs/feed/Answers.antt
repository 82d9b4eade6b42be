-- Where the judge finds no fault the entries are applied and the requests that were submitted leave.
use Rattle.std.proofs.Common.{◌≡◌, refl, sym, ap, ◌∙◌, arith, length, rules}
use Rattle.std.proofs.lemmas.Result.{err_from_is_err_and}
use Rattle.model.specs.Status.{is_done}
use Rattle.hits.specs.Judge.{few_inputs, judged_done}
use Rattle.feed.specs.Whole.{ahead, fed_done, fed_quiet, fed_refused, few_trades}
use Rattle.feed.proofs.feed.Goals as goal

pub apply_all-applied-requires : goal.apply_all-applied-requires
apply_all-applied-requires c =
    let good = c.requires.book_value.0 in
    let passed = judged_done _ _ good c.submitted-trades.ensures (ap is_done (sym c.in_ok-judge.ensures.value)) in
    ahead _ _ _ _ c.requires.directory good c.submitted-trades.ensures passed

pub swept-totals-requires-clause-book_value : goal.swept-totals-requires-clause-book_value
swept-totals-requires-clause-book_value c =
    fed_quiet _ _ c.requires.book_value.0 c.submitted-trades.ensures _ c.apply_all-applied.ensures.book_after

pub answer_row-requires : goal.answer_row-requires
answer_row-requires c =
    let good = c.requires.book_value.0 in
    let passed = judged_done _ _ good c.submitted-trades.ensures (ap is_done (sym c.in_ok-judge.ensures.value)) in
    let few = few_inputs _ c.requires.input_value.0 in
    let many = c.places.ensures in
    (omega arith, few_trades _ _ c.requires.directory.listed.few passed.2)

pub returns : goal.returns
returns c =
    let good = c.requires.book_value.0 in
    let before : length c.apply_all-applied.new.book ≡ length c.args.book.now = search rules in
    let after : length c.swept-totals.new.book ≡ length c.apply_all-applied.new.book = search rules in
    let fed =
    fed_done _ _ _ good c.submitted-trades.ensures c.in_ok-judge.ensures.value refl _ _ refl
    c.apply_all-applied.ensures.book_after c.swept-totals.ensures.book_after c.requires.book_value.1 (after ∙ before)
    (λ i. (c.type_inv.book i).fits) c.requires.input_value.1 c.places.ensures c.answer_row.ensures c.put.ensures.0
    in
    record {
      status_value = fed.0;
      book_after = fed.1;
      answer_after = fed.2;
      directory_2 = c.swept-totals.ensures.directory_2;
      refusal = search rules;
    }

pub returns-in_err-judge : goal.returns-in_err-judge
returns-in_err-judge c =
    let no = c.in_err-judge.ensures in
    let fed = fed_refused _ _ _ c.requires.book_value.0 c.submitted-trades.ensures no.value refl no.refusal in
    let gave = err_from_is_err_and c.from_residual.result c.from_residual.ensures.1 in
    rw (gave.1, gave.2) (record {
      status_value = fed.0;
      book_after = fed.1;
      answer_after = fed.2;
      directory_2 = c.requires.directory;
      refusal = no.refusal;
    })
