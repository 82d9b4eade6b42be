-- How far a signed number lies from zero: a sum lies no further than its terms together, a negation as far. What stays
-- below the half of 64 bits is what the machine works out. Assumes nothing.
use Rattle.std.specs.Prelude.{◌≡◌, refl, true, false, ℕ, zero, suc, ◌+◌, ◌^◌, ◌≤◌, ◌<◌, ℤ, pos, negsuc, neg_ℤ, nat_abs, ◌+ℤ◌, ◌-ℤ◌}
use Rattle.std.proofs.Common.{ap, ◌∙◌, arith, rules, ltb-true, SFits, of_z, to_z}
use Rattle.std.proofs.Math.IntN.{+ℤ_idl}
use Rattle.std.specs.Int.Signed.{lt_z, mag}
use Rattle.std.specs.Int.{w64}
use Rattle.record.specs.Signed.{dn, dn_sub, got64, up, up_sub}
use Rattle.units.specs.Units.{signed_most}

pub abs_parts : (z : ℤ) → nat_abs z ≡ up z + dn z
abs_parts (pos n) = omega arith
abs_parts (negsuc n) = omega arith

parts_most : (a b : ℤ) → (up (a +ℤ b) ≤ up a + up b) × (dn (a +ℤ b) ≤ dn a + dn b)
parts_most (pos a) (pos b) = omega arith
parts_most (pos a) (negsuc b) = omega (arith, up_sub a (suc b), dn_sub a (suc b))
parts_most (negsuc a) (pos b) = omega (arith, up_sub b (suc a), dn_sub b (suc a))
parts_most (negsuc a) (negsuc b) = omega arith

pub up_neg : (z : ℤ) → up (neg_ℤ z) ≡ dn z
up_neg (pos zero) = refl
up_neg (pos (suc n)) = refl
up_neg (negsuc n) = refl

pub dn_neg : (z : ℤ) → dn (neg_ℤ z) ≡ up z
dn_neg (pos zero) = refl
dn_neg (pos (suc n)) = refl
dn_neg (negsuc n) = refl

pub abs_add : (a b : ℤ) → nat_abs (a +ℤ b) ≤ nat_abs a + nat_abs b
abs_add a b = omega (arith, abs_parts a, abs_parts b, abs_parts (a +ℤ b), parts_most a b)

pub abs_neg : (z : ℤ) → nat_abs (neg_ℤ z) ≡ nat_abs z
abs_neg z = omega (arith, abs_parts z, abs_parts (neg_ℤ z), up_neg z, dn_neg z)

-- ---- in 64 bits
pub in_range_holds : {n : ℕ} → n < 2 ^ 62 → n ≤ signed_most
in_range_holds h = omega arith

pub near_fits : (z : ℤ) → nat_abs z ≤ signed_most → SFits w64 z
near_fits (pos n) h = record { sfits = omega arith }
near_fits (negsuc n) h = record { sfits = omega arith }

pub sum_fits : (a b : ℤ) → nat_abs a + nat_abs b ≤ signed_most → SFits w64 (a +ℤ b)
sum_fits a b h = near_fits (a +ℤ b) (omega (arith, abs_add a b))

pub below_zero : (z : ℤ) → pos 0 -ℤ z ≡ neg_ℤ z
below_zero z = +ℤ_idl (neg_ℤ z)

pub neg_fits : (z : ℤ) → nat_abs z ≤ signed_most → SFits w64 (pos 0 -ℤ z)
neg_fits z h = rw (below_zero z) (near_fits (neg_ℤ z) (omega (arith, abs_neg z)))

pub up_most : (z : ℤ) → mag z < 2 ^ 63 → up z ≤ signed_most
up_most (pos n) h = omega arith
up_most (negsuc n) h = omega arith

-- ---- the side of zero that a test tells
pub up_below : (z : ℤ) → lt_z z (pos 0) ≡ true → 0 ≡ up z
up_below (pos n) e = let h : ⊥ = omega (arith, ltb-true n 0 e) in absurd h
up_below (negsuc n) e = refl

pub up_above : (z : ℤ) → lt_z z (pos 0) ≡ false → nat_abs z ≡ up z
up_above (pos n) e = refl
up_above (negsuc n) e = let z : ◌≡◌ {A = ℕ} 0 1 = cc in absurd {A = nat_abs (negsuc n) ≡ 0} (omega arith)

pub abs_below : (z : ℤ) → lt_z z (pos 0) ≡ true → nat_abs z ≡ mag z + 1
abs_below (pos n) e = let h : ⊥ = omega (arith, ltb-true n 0 e) in absurd h
abs_below (negsuc n) e = omega arith

-- ---- what a function of plain numbers gives, of numbers that stand in a tuple struct and in a local: as bits
module _ (z s : ℤ) (h : mag z < 2 ^ 63) (k : mag s < 2 ^ 63) where
  pub same_held : s ≡ z → to_z w64 (of_z w64 s) ≡ z
  same_held e = got64 s k ∙ e

  pub up_held : {x : ℕ} → s ≡ pos x → up (to_z w64 (of_z w64 s)) ≡ x
  up_held e = ap up (got64 s k ∙ e)

  pub size_held : {x : ℕ} → s ≡ pos x → nat_abs (to_z w64 (of_z w64 s)) ≡ x
  size_held e = ap nat_abs (got64 s k ∙ e)

  pub negation_held : s ≡ neg_ℤ (to_z w64 (of_z w64 z)) → to_z w64 (of_z w64 s) ≡ neg_ℤ z
  negation_held e = got64 s k ∙ e ∙ ap neg_ℤ (got64 z h)

  pub negation_size : nat_abs s ≡ nat_abs (to_z w64 (of_z w64 z)) → nat_abs (to_z w64 (of_z w64 s)) ≡ nat_abs z
  negation_size e = ap nat_abs (got64 s k) ∙ e ∙ ap nat_abs (got64 z h)

module _ (a b s : ℤ) (h : mag a < 2 ^ 63) (g : mag b < 2 ^ 63) (k : mag s < 2 ^ 63) where
  pub sum_held : s ≡ to_z w64 (of_z w64 a) +ℤ to_z w64 (of_z w64 b) → to_z w64 (of_z w64 s) ≡ a +ℤ b
  sum_held e = rw (got64 a h, got64 b g) at (got64 s k ∙ e)

  pub sum_size : nat_abs s ≤ nat_abs (to_z w64 (of_z w64 a)) + nat_abs (to_z w64 (of_z w64 b))
      → nat_abs (to_z w64 (of_z w64 s)) ≤ nat_abs a + nat_abs b
  sum_size e = rw (got64 s k, ← got64 a h, ← got64 b g) e

module _ (z : ℤ) {x : ℕ} (h : mag z < 2 ^ 63) where
  pub bits_held : x ≡ of_z w64 (to_z w64 (of_z w64 z)) → x ≡ of_z w64 z
  bits_held e = e ∙ ap (of_z w64) (got64 z h)

  pub plain_held : x ≡ up (to_z w64 (of_z w64 z)) → x ≡ up z
  plain_held e = e ∙ ap up (got64 z h)

  pub plain_most : x ≡ up (to_z w64 (of_z w64 z)) → x ≤ signed_most
  plain_most e = rw (plain_held e) (up_most z h)

pub ruleset held = (
  rules,
  in_range_holds,
  same_held,
  up_held,
  size_held,
  negation_held,
  negation_size,
  sum_held,
  sum_size,
  bits_held,
  plain_held,
  plain_most,
)
