-- Money and counts of shares as the declared tuple structs, made of a number. Assumes nothing.
use Rattle.std.specs.Prelude.{ℕ, ◌%◌, ℤ}
use Rattle.std.specs.Int.{w64}
use Rattle.std.proofs.Common.{of_z}
use Rattle.units.specs.declared.Cents.{Cents}
use Rattle.units.specs.declared.Shares.{Shares}

abbrev pub cents : ℤ → Cents
cents z = record { 0 = z }

abbrev pub shares : ℤ → Shares
shares z = record { 0 = z }

-- the lower 32 bits of a signed number
abbrev pub low : ℤ → ℕ
low z = of_z w64 z % 4294967296

-- the most that a signed number of 64 bits holds
abbrev pub signed_most : ℕ
signed_most = 9_223_372_036_854_775_807
