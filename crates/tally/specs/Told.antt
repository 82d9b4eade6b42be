-- What the whole program does: it prints the answer to the bytes that it read.
use Rattle.std.specs.Prelude.{ℕ, List, Option}
use Rattle.std.specs.Io.KnownBytes.{Appends, Consumes}
use Rattle.tally.specs.Text.{answer}

-- The input before and after, the output before and after, where their bytes are known: the output grew by the answer to
-- what the input lost.
abbrev pub IsTold : Option (List ℕ) → Option (List ℕ) → Option (List ℕ) → Option (List ℕ) → Type 0
IsTold i j o p = (b : List ℕ) × Consumes i j b × Appends o p (answer b)
