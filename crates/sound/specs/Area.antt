-- How many records a book of each size has at most. Assumes nothing.
use Rattle.std.specs.Prelude.{ℕ, ◌≤◌}
use Rattle.sound.specs.declared.area.Size.{Size}
use Rattle.sound.specs.declared.area.Size.TheVariants.{Large, Middle, Small}

-- the areas of a size hold so many records; those of the largest hold as many as any book has
abbrev pub Holds : Size → ℕ → Type 0
Holds Small n = n ≤ 127
Holds Middle n = n ≤ 1023
Holds Large n = Unit {0}
