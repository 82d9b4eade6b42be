-- A call views what it reads and works out what to post. The first of its checks that fails refuses it; where all pass,
-- limits and room last, the rows are posted. Assumes nothing.
use Rattle.std.specs.Prelude.{Bool, true, false, cond, not, ◌&&◌, List, [], ◌∷◌, ℕ, leb}
use Rattle.laws.specs.Search.{count, run}
use Rattle.laws.specs.Change.{written}
use Rattle.record.specs.Codes.{kind_free}
use Rattle.record.specs.declared.row.Row.{Row}
use Rattle.model.specs.declared.Status.{Status}
use Rattle.model.specs.declared.Status.TheVariants.{Done, NoRoom, OverLimit}
use Rattle.model.specs.Rows.{is, nothing, same_row}
use Rattle.model.specs.Status.{is_done}

-- what a call does to the rows, and what it answers. A refusal does nothing and answers nothing.
pub record Outcome : Type 0 where
  pub status : Status
  pub answer : List Row
  pub rows : List Row

abbrev pub refused : Status → List Row → Outcome
refused s rs = record { status = s; answer = []; rows = rs }

abbrev pub accepted : List Row → List Row → Outcome
accepted answer rs = record { status = Done; answer = answer; rows = rs }

-- what to post: rows changed in place, rows freed, rows added in this order, and the answer
pub record Posting : Type 0 where
  pub changes : List (Row × Row)
  pub freed : List Row
  pub added : List Row
  pub answer : Row

-- ---- the checks of a call, in order
pub record Check : Type 0 where
  pub passes : Bool
  pub else : Status

abbrev pub check : Bool → Status → Check
check b s = record { passes = b; else = s }

-- the status so far, and one more check
unfoldable pub also : Status → Bool → Status → Status
also s passes otherwise = cond (is_done s && not passes) otherwise s

-- the status of them all: the first that fails refuses
unfoldable pub verdict : List Check → Status
verdict cs = run (λ s c. also s c.passes c.else) Done cs

-- free places at entry
unfoldable pub room : List Row → ℕ
room rs = count (is kind_free) rs

-- the checks that come last for every call that adds rows: a limit left is -104, and then too few free places are -105
abbrev pub last_checks : Bool → ℕ → List Row → List Check
last_checks within more rs = check within OverLimit ∷ check (leb more (room rs)) NoRoom ∷ []

abbrev pub pick : Bool → Outcome → Outcome → Outcome
pick true a b = a
pick false a b = b

-- what a call comes to: a refusal, or what it does where every check passes
unfoldable pub decided : List Check → List Row → Outcome → Outcome
decided cs rs o = pick (is_done (verdict cs)) o (refused (verdict cs) rs)

unfoldable pub posted : Posting → List Row → List Row
posted p rs = written same_row nothing p.changes p.freed p.added rs
