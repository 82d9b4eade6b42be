-- The calls on bytes: from any book, a call that is accepted leaves a sound one, S1 to S10. (Demand 1 is that one that
-- is refused leaves every byte; the model's `lookup_keeps` and `roll_back_keeps` are that a lookup and an order with
-- roll back do, accepted or not.)
use Rattle.std.specs.Prelude.{◌≡◌, Bool, ◌&&◌, List, ℕ, ◌*◌, ◌/◌, ◌%◌, ◌≤◌, eqb, leb, length}
use Rattle.std.proofs.Math.Path.{refl}
use Rattle.std.proofs.Common.{ap, ◌∙◌, arith, eqb-true, leb-true}
use Rattle.std.proofs.Math.Bool.{true, false}
use Rattle.std.proofs.lemmas.Bool.{false≢true}
use Rattle.laws.specs.Tests.{and_left, and_right}
use Rattle.record.specs.Grid.{decode}
use Rattle.record.specs.declared.row.Row.{Row}
use Rattle.model.specs.Status.{is_done}
use Rattle.model.specs.Call.{Call, Reply, a_feed, a_lookup, a_result, an_order, choose, decide_of, fields_of, lengths_of}
use Rattle.model.specs.Call.{replied, run, shell}
use Rattle.model.specs.Plan.{Outcome, pick, refused}
use Rattle.model.specs.Result.{result}
use Rattle.model.specs.Rows.{bytes, most_records, record_size, rows, whole_records}
use Rattle.model.specs.Sound.{sound}
use Rattle.model.proofs.Unposted.{lookup_rows}
use Rattle.model.specs.declared.Status.TheVariants.{BadBook, BadInput, BadLength, Unsound}
use Rattle.facts.specs.Rows.{length_rows}
use Rattle.facts.specs.Found.{sound_s1}
use Rattle.facts.specs.Posted.{writes}
use Rattle.preserved.specs.Bytes.{length_bytes, puts_length, rows_bytes}
use Rattle.preserved.specs.FeedDone.{feed_length}
use Rattle.preserved.specs.FeedSound.{feed_sound}
use Rattle.preserved.specs.OrderSound.{order_length, order_sound}
use Rattle.preserved.specs.ResultBase.{accepted_all, posting_of, result_writes}
use Rattle.preserved.specs.ResultSound.{result_sound}
use Rattle.preserved.specs.Calls.{Leaves, SoundBytes}
use Rattle.preserved.proofs.Shell.{shell_sound}

-- ---- the calls
result_length : (rs : List Row) (input : Row) → sound rs ≡ true → is_done (result rs input).status ≡ true
    → length (result rs input).rows ≡ length rs
result_length rs input good done =
    ap length (result_writes rs input good (accepted_all rs input done)) ∙ puts_length (writes (posting_of rs input)) rs

-- each decision that is accepted leaves sound rows
decision_leaves : (c : Call) (b input : List ℕ) → Leaves (fields_of c input) (rows b) (decide_of c input (rows b))
decision_leaves an_order b input few good right done =
    (order_sound (rows b) (decode input) good right done, order_length (rows b) (decode input) done)
decision_leaves a_result b input few good right done =
    (result_sound (rows b) (decode input) few good right done, result_length (rows b) (decode input) good done)
decision_leaves a_feed b input few good right done =
    (feed_sound (rows b) (rows input) good right done, feed_length (rows b) (rows input))
decision_leaves a_lookup b input few good right done =
    let same = lookup_rows (rows b) (rows input) in
    (ap sound same ∙ good, ap length same)

-- "An accepted call leaves a sound book."
pub call_leaves_sound : (c : Call) (b input answer : List ℕ) → is_done (run c b input answer).status ≡ true
    → SoundBytes (run c b input answer).book
unfolding run
call_leaves_sound c b input answer =
    shell_sound b answer (decide_of c input) (lengths_of c (length input) (length answer)) (fields_of c input)
    (decision_leaves c b input)

-- where the lengths are wrong nothing is read, and nothing is written
pub uncalled : (c : Call) (b input answer : List ℕ) → lengths_of c (length input) (length answer) ≡ false
    → run c b input answer ≡ record { status = BadLength; answer = answer; book = b }
unfolding run shell
uncalled c b input answer e = rw e
