-- Signed numbers by their two sides, and sums of them. Assumes nothing.
use Rattle.std.specs.Prelude.{◌≡◌, refl, Bool, true, false, cond, not, List, [], ◌∷◌, ℕ, zero, suc, ◌+◌, ◌≤◌, ℤ, pos, negsuc, neg_ℤ, nat_abs, ◌+ℤ◌}
use Rattle.std.proofs.Common.{sym, arith, le-ltb, ltb-true, to_z}
use Rattle.std.proofs.lemmas.Bool.{false≢true}
use Rattle.std.specs.Int.Signed.{lt_z}
use Rattle.std.specs.Int.{w64}
use Rattle.laws.specs.Search.{sum_z, total}
use Rattle.laws.specs.Tests.{◌⇔◌}
use Rattle.record.specs.Signed.{dn, eq_parts, got64, parts_add, up}
use Rattle.model.specs.Edit.{bits64}
use Rattle.facts.specs.Signed.{neg_dn, neg_near, neg_neg, neg_up}

-- the side of a trade that buys is above zero, that of one that sells below
abbrev pub part : Bool → ℤ → ℕ
part true z = up z
part false z = dn z

pub eq_sides : (d : Bool) (a b : ℤ) → part d a + part (not d) b ≡ part d b + part (not d) a → a ≡ b
eq_sides true a b e = eq_parts a b e
eq_sides false a b e = eq_parts a b (omega arith)

pub add_sides : (d : Bool) (a b : ℤ)
    → part d (a +ℤ b) + (part (not d) a + part (not d) b) ≡ part (not d) (a +ℤ b) + (part d a + part d b)
add_sides true a b = parts_add a b
add_sides false a b = sym (parts_add a b)

sum_parts : {A : Type 0} (f : A → ℤ) (l : List A)
    → up (sum_z f l) + total (λ x. dn (f x)) l ≡ dn (sum_z f l) + total (λ x. up (f x)) l
unfolding sum_z total
sum_parts f [] = refl
sum_parts f (x ∷ l) = omega (arith, parts_add (f x) (sum_z f l), sum_parts f l)

pub sum_sides : {A : Type 0} (d : Bool) (f : A → ℤ) (l : List A)
    → part d (sum_z f l) + total (λ x. part (not d) (f x)) l ≡ part (not d) (sum_z f l) + total (λ x. part d (f x)) l
sum_sides true f l = sum_parts f l
sum_sides false f l = sym (sum_parts f l)

pub zero_sides : (d : Bool) → part d (pos 0) ≡ 0
zero_sides true = refl
zero_sides false = refl

-- ---- shares of a trade
abbrev toward : Bool → ℕ → ℤ
toward d n = cond d (pos n) (neg_ℤ (pos n))

-- all of it is on the trade's side
pub signed_mine : (d : Bool) (n : ℕ) → part d (toward d n) ≡ n
signed_mine true n = refl
signed_mine false n = neg_dn n

pub signed_yours : (d : Bool) (n : ℕ) → part (not d) (toward d n) ≡ 0
signed_yours true n = refl
signed_yours false n = neg_up n

pub signed_size : (d : Bool) (n : ℕ) → nat_abs (toward d n) ≡ n
signed_size true n = refl
signed_size false n = neg_near n

-- and of what is left of a lot, on the other
pub left_mine : (d : Bool) (n : ℕ) → part d (neg_ℤ (toward d n)) ≡ 0
left_mine true n = neg_up n
left_mine false n = rw (neg_neg n)

pub left_yours : (d : Bool) (n : ℕ) → part (not d) (neg_ℤ (toward d n)) ≡ n
left_yours true n = neg_dn n
left_yours false n = rw (neg_neg n)

pub left_size : (d : Bool) (n : ℕ) → nat_abs (neg_ℤ (toward d n)) ≡ n
left_size true n = neg_near n
left_size false n = rw (neg_neg n)

neg_below : (n : ℕ) → 1 ≤ n → lt_z (neg_ℤ (pos n)) (pos 0) ≡ true
neg_below zero h = absurd (omega arith)
neg_below (suc n) h = refl

-- a trade's shares are below zero where it sells, and what is left of a lot where it buys
pub signed_short : (d : Bool) (n : ℕ) → 1 ≤ n → lt_z (toward d n) (pos 0) ≡ not d
signed_short true n h = le-ltb n 0 (omega arith)
signed_short false n h = neg_below n h

pub left_short : (d : Bool) (n : ℕ) → 1 ≤ n → lt_z (neg_ℤ (toward d n)) (pos 0) ≡ d
left_short true n h = neg_below n h
left_short false n h = rw (neg_neg n) (le-ltb n 0 (omega arith))

-- ---- a number of which the sign is known
not_below : (n : ℕ) → lt_z (pos n) (pos 0) ≡ true → ⊥
not_below n e = omega (arith, ltb-true n 0 e)

pub other_side : (d : Bool) (z : ℤ) → lt_z z (pos 0) ≡ d → (part d z ≡ 0) × (part (not d) z ≡ nat_abs z)
other_side true (pos n) e = absurd (not_below n e)
other_side true (negsuc n) e = (refl, refl)
other_side false (pos n) e = (refl, refl)
other_side false (negsuc n) e = absurd (false≢true (sym e))

-- ---- the bits of a number tell it
pub bits_tell : (z : ℤ) → nat_abs z ≤ 9_000_000_000_000_000_000 → to_z w64 (bits64 z) ≡ z
bits_tell (pos n) h = got64 (pos n) (omega arith)
bits_tell (negsuc n) h = got64 (negsuc n) (omega arith)

-- ---- signs that agree
pub iff_one : (a b : Bool) → (a ⇔ b) ≡ true → b ≡ a
iff_one true true e = refl
iff_one true false e = e
iff_one false true e = sym e
iff_one false false e = refl

pub iff_two : (a b : Bool) → (a ⇔ b) ≡ false → b ≡ not a
iff_two true true e = e
iff_two true false e = refl
iff_two false true e = refl
iff_two false false e = sym e

pub iff_same : (a b : Bool) → b ≡ a → (a ⇔ b) ≡ true
iff_same true b e = rw e
iff_same false b e = rw e

pub iff_other : (a b : Bool) → b ≡ not a → (a ⇔ b) ≡ false
iff_other true b e = rw e
iff_other false b e = rw e

pub iff_turned : (a b : Bool) → not (not a ⇔ b) ≡ (a ⇔ b)
iff_turned true true = refl
iff_turned true false = refl
iff_turned false true = refl
iff_turned false false = refl
