-- Amounts that are not below zero, and their bounds. Assumes nothing.
use Rattle.std.specs.Prelude.{◌≡◌, refl, ℕ, ◌*◌, ◌≤◌, ℤ, pos, negsuc, nat_abs}
use Rattle.std.proofs.Common.{arith}
use Rattle.record.specs.Signed.{dn, up}
use Rattle.rules.specs.Ranges.{price_most, shares_most}

-- the most that shares are worth
abbrev pub value_most : ℕ
value_most = shares_most * price_most

-- z lies in 0 .. m
pub record UpTo (m : ℕ) (z : ℤ) : Type 0 where
  pub above : dn z ≡ 0
  pub size : nat_abs z ≡ up z
  pub most : up z ≤ m

pub up_to : (m n : ℕ) → n ≤ m → UpTo m (pos n)
up_to m n h = record { above = refl; size = refl; most = h }

pub above_is : (z : ℤ) → dn z ≡ 0 → z ≡ pos (up z)
above_is (pos n) e = refl
above_is (negsuc n) e = let z : ⊥ = omega arith in absurd z
