-- What is printed with each status that a book can have. Assumes nothing.
use Rattle.std.specs.Prelude.{◌≡◌, Bool, List, [], ◌∷◌, ℕ, length}
use Rattle.std.proofs.Math.Path.{refl}
use Rattle.std.proofs.Math.Bool.{true, false}
use Rattle.model.specs.declared.Status.{Status}
use Rattle.model.specs.declared.Status.TheVariants.{BadBook, Done, Unsound}
use Rattle.model.specs.Rows.{rows, whole_records}
use Rattle.model.specs.Sound.{sound}
use Rattle.model.specs.Tally.{book_status, tally, tally_status}
use Rattle.tally.specs.Text.{answer, decimal, refused, square}

module _ (b : List ℕ) (s : Status) (e : s ≡ book_status 1024 b) where
  pub answer_square : (t : List (List ℕ)) → t ≡ tally (rows b) → s ≡ Done → square t ≡ answer b
  unfolding answer tally_status
  answer_square t f d = rw (f, ← e, d)

  pub answer_unsound : s ≡ Unsound → refused 102 ≡ answer b
  unfolding answer tally_status
  answer_unsound d = rw (← e, d)

  answer_bad : s ≡ BadBook → refused 101 ≡ answer b
  unfolding answer tally_status
  answer_bad d = rw (← e, d)

  -- a book has no other status
  pub answer_other : (s ≡ Done → ⊥) → (s ≡ Unsound → ⊥) → refused 101 ≡ answer b
  unfolding book_status
  answer_other n m = go (whole_records 1024 (length b)) (sound (rows b)) refl refl where
    go : (v w : Bool) → whole_records 1024 (length b) ≡ v → sound (rows b) ≡ w → refused 101 ≡ answer b
    go true true p q = absurd (n (rw (p, q) at e))
    go true false p q = absurd (m (rw (p, q) at e))
    go false w p q = answer_bad (rw p at e)

-- the lines that the program has as they are
abbrev refused101 : List ℕ
refused101 = 114 ∷ 101 ∷ 102 ∷ 117 ∷ 115 ∷ 101 ∷ 100 ∷ 32 ∷ 45 ∷ 49 ∷ 48 ∷ 49 ∷ 10 ∷ []

abbrev refused102 : List ℕ
refused102 = 114 ∷ 101 ∷ 102 ∷ 117 ∷ 115 ∷ 101 ∷ 100 ∷ 32 ∷ 45 ∷ 49 ∷ 48 ∷ 50 ∷ 10 ∷ []

pub bad_line : refused101 ≡ refused 101
unfolding refused decimal
bad_line = refl

pub unsound_line : refused102 ≡ refused 102
unfolding refused decimal
unsound_line = refl
