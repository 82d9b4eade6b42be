-- The four calls on byte areas: the status, every byte of the answer and every byte of the book. "A refusal leaves
-- the book as found; all answer bytes are zero but the status, signed, in bytes 60-63 (-100 excepted)." Assumes
-- nothing.
use Rattle.std.specs.Prelude.{◌≡◌, Bool, true, false, ◌&&◌, List, ◌++◌, ℕ, ◌*◌, ◌-◌, eqb, ℤ, length, replicate}
use Rattle.std.proofs.Common.{of_z}
use Rattle.std.specs.Int.{w32}
use Rattle.laws.specs.Search.{every}
use Rattle.record.specs.Bytes.{bytes_of}
use Rattle.record.specs.Grid.{decode}
use Rattle.record.specs.declared.row.Row.{Row}
use Rattle.rules.specs.Rules.{feed_input, lookup_input, order_input, result_input}
use Rattle.model.specs.declared.Status.{Status}
use Rattle.model.specs.declared.Status.TheVariants.{BadBook, BadInput, BadLength, Unsound}
use Rattle.model.specs.Feed.{feed}
use Rattle.model.specs.Lookup.{lookup}
use Rattle.model.specs.Order.{order}
use Rattle.model.specs.Plan.{Outcome, pick, refused}
use Rattle.model.specs.Result.{result}
use Rattle.model.specs.Rows.{bytes, most_records, record_size, rows, whole_records}
use Rattle.model.specs.Sound.{sound}
use Rattle.model.specs.Status.{is_done, number}

-- what a call returns and leaves behind
pub record Reply : Type 0 where
  pub status : Status
  pub answer : List ℕ
  pub book : List ℕ

-- an area of n bytes with the status in bytes 60-63 and zeros elsewhere
unfoldable pub refusal_area : ℕ → Status → List ℕ
refusal_area n s = replicate 60 0 ++ bytes_of 4 (of_z w32 (number s)) ++ replicate (n - record_size) 0

abbrev pub either : Bool → List ℕ → List ℕ → List ℕ
either true a b = a
either false a b = b

unfoldable pub replied : Outcome → List ℕ → List ℕ → Reply
replied o b answer = record {
  status = o.status;
  answer = either (is_done o.status) (bytes o.answer) (refusal_area (length answer) o.status);
  book = either (is_done o.status) (bytes o.rows) b;
}

abbrev pub choose : Bool → Reply → Reply → Reply
choose true a b = a
choose false a b = b

-- the shell of every call: the lengths, the book's length, its soundness, the input's fields; then the call's own
-- decision
unfoldable pub shell : Bool → Bool → (List Row → Outcome) → List ℕ → List ℕ → Reply
shell lengths inputs decide b answer =
    let rs = rows b in
    choose lengths
    (replied
    (pick (whole_records most_records (length b))
    (pick (sound rs) (pick inputs (decide rs) (refused BadInput rs)) (refused Unsound rs))
    (refused BadBook rs))
    b
    answer)
    (record { status = BadLength; answer = answer; book = b })

-- "Input: 1 to 20 records"
abbrev pub most_inputs : ℕ
most_inputs = 20

-- ---- the four calls, as data: each has its lengths, the rule of its input's fields, and its decision
pub data Call : Type 0 where
  an_order a_result a_feed a_lookup : Call

-- the lengths of the input and of the answer area are those that the call takes
abbrev pub lengths_of : Call → ℕ → ℕ → Bool
lengths_of an_order input answer = eqb input record_size && eqb answer record_size
lengths_of a_result input answer = eqb input record_size && eqb answer record_size
lengths_of a_feed input answer = whole_records most_inputs input && eqb answer record_size
lengths_of a_lookup input answer = whole_records most_inputs input && eqb answer (2 * input)

abbrev pub fields_of : Call → List ℕ → Bool
fields_of an_order input = order_input (decode input)
fields_of a_result input = result_input (decode input)
fields_of a_feed input = every feed_input (rows input)
fields_of a_lookup input = every lookup_input (rows input)

abbrev pub decide_of : Call → List ℕ → List Row → Outcome
decide_of an_order input rs = order rs (decode input)
decide_of a_result input rs = result rs (decode input)
decide_of a_feed input rs = feed rs (rows input)
decide_of a_lookup input rs = lookup rs (rows input)

-- a call on a book, an input and an answer area
unfoldable pub run : Call → List ℕ → List ℕ → List ℕ → Reply
run c b input answer =
    shell (lengths_of c (length input) (length answer)) (fields_of c input) (decide_of c input) b answer

abbrev pub order_call : List ℕ → List ℕ → List ℕ → Reply
order_call b input answer = run an_order b input answer

abbrev pub result_call : List ℕ → List ℕ → List ℕ → Reply
result_call b input answer = run a_result b input answer

abbrev pub feed_call : List ℕ → List ℕ → List ℕ → Reply
feed_call b input answer = run a_feed b input answer

abbrev pub lookup_call : List ℕ → List ℕ → List ℕ → Reply
lookup_call b input answer = run a_lookup b input answer

-- ---- what a call promises: the number returned, the book and the answer area as they are left
pub record Promise (reply : Reply) (returned : ℤ) (book answer : List ℕ) : Type 0 where
  pub returns : returned ≡ number reply.status
  pub keeps : book ≡ reply.book
  pub says : answer ≡ reply.answer
