-- What a test answers at the places of a book, told of its rows. Assumes nothing.
use Rattle.std.specs.Prelude.{◌≡◌, Bool, List, ℕ, ◌<◌}
use Rattle.record.specs.declared.row.Row.{Row}
use Rattle.model.specs.Rows.{places}
use Rattle.places.specs.Rows.{row_at}

-- whatever the test answers at a place is p of the row there
abbrev pub Tells : (ℕ → Bool → Type 0) → List ℕ → (Row → Bool) → Type 0
Tells answers b p = (i : ℕ) (t : Bool) → i < places b → answers i t → t ≡ p (row_at b i)
