-- Sums and differences on either side of zero: their sizes, and that sums of money fit into 64 bits. Assumes nothing.
use Rattle.std.specs.Prelude.{◌≡◌, refl, ℕ, zero, suc, ◌+◌, ◌*◌, ◌≤◌, ℤ, pos, negsuc, neg_ℤ, nat_abs, ◌+ℤ◌, ◌-ℤ◌}
use Rattle.std.proofs.Common.{arith, SFits}
use Rattle.std.specs.Int.{w64}
use Rattle.record.specs.Signed.{dn, eq_parts, parts_add, up}
use Rattle.rules.specs.Ranges.{money_most}

-- ---- bounds
near_parts : (z : ℤ) (a b m : ℕ) → up z + b ≡ dn z + a → a ≤ m → b ≤ m → nat_abs z ≤ m
near_parts (pos n) a b m e h k = omega arith
near_parts (negsuc n) a b m e h k = omega arith

parts_near : (z : ℤ) (m : ℕ) → nat_abs z ≤ m → up z + dn z ≤ m
parts_near (pos n) m h = omega arith
parts_near (negsuc n) m h = omega arith

near_fits : (z : ℤ) → nat_abs z ≤ 2 * money_most → SFits w64 z
near_fits (pos n) h = record { sfits = omega arith }
near_fits (negsuc n) h = record { sfits = omega arith }

pub neg_up : (n : ℕ) → up (neg_ℤ (pos n)) ≡ 0
neg_up zero = refl
neg_up (suc n) = refl

pub neg_dn : (n : ℕ) → dn (neg_ℤ (pos n)) ≡ n
neg_dn zero = refl
neg_dn (suc n) = refl

-- z - n
pub parts_less : (z : ℤ) (n : ℕ) → up (z -ℤ pos n) + (dn z + n) ≡ dn (z -ℤ pos n) + up z
parts_less z n = omega (arith, parts_add z (neg_ℤ (pos n)), neg_up n, neg_dn n)

-- ---- a difference
pub difference_near : (a b : ℕ) → a ≤ money_most → b ≤ money_most → nat_abs (pos a -ℤ pos b) ≤ money_most
difference_near a b h k =
    near_parts (pos a -ℤ pos b) a b money_most (omega (arith, parts_less (pos a) b)) h k

pub difference_fits : (a b : ℕ) → a ≤ money_most → b ≤ money_most → SFits w64 (pos a -ℤ pos b)
difference_fits a b h k = near_fits (pos a -ℤ pos b) (omega (arith, difference_near a b h k))

-- ---- a sum
pub sum_fits : (a b : ℤ) → nat_abs a ≤ money_most → nat_abs b ≤ money_most → SFits w64 (a +ℤ b)
sum_fits a b h k =
    let p = parts_near a money_most h in
    let q = parts_near b money_most k in
    near_fits (a +ℤ b)
    (near_parts (a +ℤ b) (up a + up b) (dn a + dn b) (2 * money_most) (parts_add a b) (omega arith) (omega arith))

-- ---- counts of shares on either side of zero
pub below : (n : ℕ) → pos 0 -ℤ pos n ≡ neg_ℤ (pos n)
below n =
    eq_parts (pos 0 -ℤ pos n) (neg_ℤ (pos n)) (omega (arith, parts_less (pos 0) n, neg_up n, neg_dn n))

pub neg_near : (n : ℕ) → nat_abs (neg_ℤ (pos n)) ≡ n
neg_near zero = refl
neg_near (suc n) = refl

pub neg_neg : (n : ℕ) → neg_ℤ (neg_ℤ (pos n)) ≡ pos n
neg_neg zero = refl
neg_neg (suc n) = refl

-- ---- the size of a sum
size_parts : (z : ℤ) → nat_abs z ≡ up z + dn z
size_parts (pos n) = omega arith
size_parts (negsuc n) = omega arith

of_parts : (c a b : ℤ) → up c + (dn a + dn b) ≡ dn c + (up a + up b) → nat_abs c ≤ nat_abs a + nat_abs b
of_parts (pos n) a b e = omega (arith, size_parts a, size_parts b)
of_parts (negsuc n) a b e = omega (arith, size_parts a, size_parts b)

pub sum_size : (a b : ℤ) → nat_abs (a +ℤ b) ≤ nat_abs a + nat_abs b
sum_size a b = of_parts (a +ℤ b) a b (parts_add a b)
