-- The shell of every call leaves a sound book, where its decision leaves sound rows.
use Rattle.std.specs.Prelude.{◌≡◌, Bool, ◌&&◌, List, ℕ, ◌*◌, ◌/◌, ◌%◌, ◌≤◌, eqb, leb, length}
use Rattle.std.proofs.Math.Path.{refl}
use Rattle.std.proofs.Common.{ap, ◌∙◌, arith, eqb-true, leb-true}
use Rattle.std.proofs.Math.Bool.{true, false}
use Rattle.std.proofs.lemmas.Bool.{false≢true}
use Rattle.laws.specs.Tests.{and_left, and_right}
use Rattle.record.specs.Grid.{decode}
use Rattle.record.specs.declared.row.Row.{Row}
use Rattle.model.specs.Status.{is_done}
use Rattle.model.specs.Call.{Call, Reply, a_feed, a_lookup, a_result, an_order, choose, decide_of, fields_of, lengths_of}
use Rattle.model.specs.Call.{replied, run, shell}
use Rattle.model.specs.Plan.{Outcome, pick, refused}
use Rattle.model.specs.Result.{result}
use Rattle.model.specs.Rows.{bytes, most_records, record_size, rows, whole_records}
use Rattle.model.specs.Sound.{sound}
use Rattle.model.proofs.Unposted.{lookup_rows}
use Rattle.model.specs.declared.Status.TheVariants.{BadBook, BadInput, BadLength, Unsound}
use Rattle.facts.specs.Rows.{length_rows}
use Rattle.facts.specs.Found.{sound_s1}
use Rattle.facts.specs.Posted.{writes}
use Rattle.preserved.specs.Bytes.{length_bytes, puts_length, rows_bytes}
use Rattle.preserved.specs.FeedDone.{feed_length}
use Rattle.preserved.specs.FeedSound.{feed_sound}
use Rattle.preserved.specs.OrderSound.{order_length, order_sound}
use Rattle.preserved.specs.ResultBase.{accepted_all, posting_of, result_writes}
use Rattle.preserved.specs.ResultSound.{result_sound}
use Rattle.preserved.specs.Calls.{Leaves, SoundBytes}

-- ---- the shell of every call
-- the book's length is told by its rows
whole_length : (n : ℕ) → whole_records most_records n ≡ true
    → (n / record_size * record_size ≡ n) × (n / record_size ≤ most_records)
unfolding whole_records
whole_length n e =
    let most = leb-true n (most_records * record_size) (and_right (leb 64 n && eqb (n % 64) 0) (leb n (4_096 * 64)) e) in
    let some = and_left (leb 64 n && eqb (n % 64) 0) (leb n (4_096 * 64)) e in
    let even = eqb-true (n % 64) 0 (and_right (leb 64 n) (eqb (n % 64) 0) some) in
    (omega arith, omega arith)

module _ (b answer : List ℕ) where
  -- what is written are the bytes of the rows that are left
  written : (rs : List Row) → whole_records most_records (length b) ≡ true → sound rs ≡ true → length rs ≡ length (rows b)
      → SoundBytes (bytes rs)
  written rs w good many =
      let n = (whole_length (length b) w).0 in
      let k = length_bytes rs in
      let l = length_rows b in
      let same : length (bytes rs) ≡ length b = omega arith in
      record {
        whole = ap (whole_records most_records) same ∙ w;
        right = ap sound (rows_bytes rs (sound_s1 rs good)) ∙ good;
      }

  -- the reply by what the shell tests: the lengths, the book's length, its soundness and the input's fields
  module _ (decide : List Row → Outcome) where
    abbrev outcome : Bool → Bool → Bool → Outcome
    outcome w s i =
        pick w (pick s (pick i (decide (rows b)) (refused BadInput (rows b))) (refused Unsound (rows b)))
        (refused BadBook (rows b))

    abbrev reply : Bool → Bool → Bool → Bool → Reply
    reply l w s i =
        choose l (replied (outcome w s i) b answer) (record { status = BadLength; answer = answer; book = b })

    module _ (lengths inputs : Bool) where
      pub shell_sound : Leaves inputs (rows b) (decide (rows b))
          → is_done (shell lengths inputs decide b answer).status ≡ true
          → SoundBytes (shell lengths inputs decide b answer).book
      unfolding shell replied
      shell_sound leaves = go lengths (whole_records most_records (length b)) (sound (rows b)) inputs refl refl refl
        where
          go : (l w s i : Bool) → whole_records most_records (length b) ≡ w → sound (rows b) ≡ s → inputs ≡ i
              → is_done (reply l w s i).status ≡ true → SoundBytes (reply l w s i).book
          go false w s i ew es ei d = absurd (false≢true d)
          go true false s i ew es ei d = absurd (false≢true d)
          go true true false i ew es ei d = absurd (false≢true d)
          go true true true false ew es ei d = absurd (false≢true d)
          go true true true true ew es ei d =
              let few = (whole_length (length b) ew).1 in
              let n = length_rows b in
              let left = leaves (omega arith) es ei d in
              rw d (written (decide (rows b)).rows ew left.0 left.1)
