-- A signed number at most so far from zero. Assumes nothing.
use Rattle.std.specs.Prelude.{◌≡◌, refl, Bool, true, false, ◌||◌, leb, ltb, nat_abs}
use Prim.Native.Nat.{ℕ, suc, ◌+◌, ◌-◌, ◌^◌, ◌≤◌, ◌<◌}
use native.Mathlib.Omega.{arith}
use borrow.Author.Tests.{ltb-true, ltb-false, le-ltb, lt-leb}
use Rattle.std.specs.Int.{Width}
use mir.Val.{to_z, bits, hbits}
use Rattle.std.proofs.Math.Facts.{to_z_pos}
use Rattle.laws.specs.Tests.{Means, means_le, or_false}
use Rattle.record.specs.Signed.{to_z_high}

unfoldable pub near : Width → ℕ → ℕ → Bool
near w x most = leb (nat_abs (to_z w x)) most

pub means_near : (w : Width) (x most : ℕ) → Means (near w x most) (nat_abs (to_z w x) ≤ most)
unfolding near
means_near w x most = means_le (nat_abs (to_z w x)) most

-- as the bits have it: they are low, or their complement is
module _ (w : Width) (x m : ℕ) (whole : 2 ^ bits w ≡ 2 ^ hbits w + 2 ^ hbits w) (hx : x < 2 ^ bits w)
    (hm : m < 2 ^ hbits w) where
  low : x < 2 ^ hbits w → (leb x m || ltb (2 ^ bits w - 1 - x) m) ≡ near w x m
  unfolding near
  low h = rw (to_z_pos w h, le-ltb (2 ^ bits w - 1 - x) m (omega arith)) (or_false (leb x m))

  high : 2 ^ hbits w ≤ x → (leb x m || ltb (2 ^ bits w - 1 - x) m) ≡ near w x m
  unfolding near
  high h =
      let e : 2 ^ bits w - suc x ≡ 2 ^ bits w - 1 - x = omega arith in
      rw (to_z_high w x h, lt-leb x m (omega arith), e)

  pub near_is : (leb x m || ltb (2 ^ bits w - 1 - x) m) ≡ near w x m
  near_is = go (ltb x (2 ^ hbits w)) refl
    where
      go : (t : Bool) → ltb x (2 ^ hbits w) ≡ t → (leb x m || ltb (2 ^ bits w - 1 - x) m) ≡ near w x m
      go true e = low (ltb-true x (2 ^ hbits w) e)
      go false e = high (ltb-false x (2 ^ hbits w) e)
