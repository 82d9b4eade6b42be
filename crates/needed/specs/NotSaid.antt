-- What demand 3 does not say is false: rows need not end at the same places, and a result of a wrong length leaves its
-- answer area as it was, so that two runs need not leave equal ones. Two results in both orders show it, by
-- computation.
use Rattle.std.specs.Prelude.{◌≡◌, refl, true, List, ℕ, ◌<◌, eqb, length, get_or, replicate}
use Rattle.std.proofs.Common.{sym, ap, arith, ne_eqb}
use Rattle.laws.specs.Search.{place, seek}
use Rattle.record.specs.Grid.{encode}
use Rattle.record.specs.declared.row.Row.{Row}
use Rattle.model.specs.Status.{is_done}
use Rattle.model.specs.Call.{Reply}
use Rattle.model.specs.Evaluate.{result_opened}
use Rattle.model.specs.Rows.{rows, same_row}
use Rattle.witness.specs.Pair.{answered, apart, area, differ, ended, history, no_places, one, order_one}
use Rattle.witness.specs.Pair.{order_other, other, pass₁, pass₂, their_orders, theirs}
use Rattle.reorder.specs.Statement.{TwoRuns, account_of, ending, replies, reply_to}
use Rattle.witness.specs.Witness.{book, fine, two_runs, unhindered}

-- ---- "the same rows, each at the same place"
abbrev pub SamePlaces : Type 0
SamePlaces =
    (b : List ℕ) (list : List (List ℕ)) (area₁ area₂ : ℕ → List ℕ) (order₁ order₂ : List ℕ)
    → TwoRuns b list area₁ area₂ order₁ order₂ → (r : Row)
    → place (same_row r) (rows (ending list area₁ b order₁)) ≡ place (same_row r) (rows (ending list area₂ b order₂))

-- what is written of a trade stands further on if the other came first
abbrev pub spot : List Reply → ℕ
spot = ended (place (same_row history))

abbrev pub given : List ℕ → List Reply
given order = replies theirs area book order

-- ---- "the same answer, whatever the lengths"
abbrev pub SameAreas : Type 0
SameAreas =
    (b : List ℕ) (list : List (List ℕ)) (area₁ area₂ : ℕ → List ℕ) (order₁ order₂ : List ℕ)
    → TwoRuns b list area₁ area₂ order₁ order₂ → (i : ℕ) → i < length list
    → (reply_to list area₁ b order₁ i).answer ≡ (reply_to list area₂ b order₂ i).answer

-- 63 bytes of one value
abbrev pub short : ℕ → ℕ → List ℕ
short value i = replicate 63 value

abbrev pub first : List ℕ → ℕ
first answer = get_or answer 0 0

abbrev pub unwritten : ℕ → List ℕ → List Reply
unwritten value order = replies theirs (short value) book order
