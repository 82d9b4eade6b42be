-- The flags of a trade and of an order: cash 1, LIFO 2, roll back 4. Assumes nothing.
use Rattle.std.specs.Prelude.{Bool, ℕ, ◌/◌, ◌%◌, eqb}

abbrev pub cash : ℕ → Bool
cash flags = eqb (flags % 2) 1

abbrev pub lifo : ℕ → Bool
lifo flags = eqb (flags / 2 % 2) 1

abbrev pub roll_back : ℕ → Bool
roll_back flags = eqb (flags / 4 % 2) 1
