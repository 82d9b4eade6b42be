-- A row whose fields are put one after the other lies in the ranges that are put with them; and the bits of signed
-- numbers that are not too large. Assumes nothing.
use Rattle.std.specs.Prelude.{◌≡◌, List, [], ◌∷◌, ℕ, zero, suc, ◌≤◌, ℤ, pos, negsuc, nat_abs, replicate, set}
use Rattle.std.proofs.Common.{sym, ap, ◌∙◌, arith, to_z}
use Rattle.std.specs.Int.{w32, w64}
use Rattle.record.specs.Signed.{got32}
use Rattle.rules.specs.Ranges.{Range, any32, any64, shares_most, unused, values}
use Rattle.model.specs.Edit.{bits32, bits64}
use Rattle.model.specs.Rows.{nothing}
use Rattle.preserved.specs.ResultLotsSides.{bits_tell}

-- ---- each value in its range
abbrev Bounds : List ℕ → List Range → Type 0
Bounds [] gs = Unit {0}
Bounds (x ∷ xs) [] = Unit {0}
Bounds (x ∷ xs) (g ∷ gs) = (g.low ≤ x) × (x ≤ g.high) × Bounds xs gs

bounds_set : (xs : List ℕ) (gs : List Range) (i x : ℕ) (g : Range) → Bounds xs gs → g.low ≤ x → x ≤ g.high
    → Bounds (set xs i x) (set gs i g)
bounds_set [] gs i x g h a b = tt
bounds_set (y ∷ ys) [] zero x g h a b = tt
bounds_set (y ∷ ys) [] (suc i) x g h a b = tt
bounds_set (y ∷ ys) (f ∷ gs) zero x g h a b = (a, b, h.2)
bounds_set (y ∷ ys) (f ∷ gs) (suc i) x g h a b = (h.0, h.1, bounds_set ys gs i x g h.2 a b)

bounds_none : (n : ℕ) → Bounds (replicate n 0) (replicate n unused)
bounds_none zero = tt
bounds_none (suc n) = (omega arith, omega arith, bounds_none n)

-- ---- a field that is put, in its range
pub record Field : Type 0 where
  pub place : ℕ
  pub value : ℕ
  pub range : Range
  pub least : range.low ≤ value
  pub most : value ≤ range.high

abbrev pub field : (i x : ℕ) (g : Range) → g.low ≤ x → x ≤ g.high → Field
field i x g a b = record { place = i; value = x; range = g; least = a; most = b }

abbrev values_put : List ℕ → List Field → List ℕ
values_put xs [] = xs
values_put xs (f ∷ fs) = values_put (set xs f.place f.value) fs

abbrev ranges_put : List Range → List Field → List Range
ranges_put gs [] = gs
ranges_put gs (f ∷ fs) = ranges_put (set gs f.place f.range) fs

pub all_put : (xs : List ℕ) (gs : List Range) → Bounds xs gs → (fs : List Field)
    → Bounds (values_put xs fs) (ranges_put gs fs)
all_put xs gs h [] = h
all_put xs gs h (f ∷ fs) =
    all_put (set xs f.place f.value) (set gs f.place f.range)
    (bounds_set xs gs f.place f.value f.range h f.least f.most) fs

-- of a new row
pub new_put : (fs : List Field) → Bounds (values_put (values nothing) fs) (ranges_put (replicate 15 unused) fs)
new_put fs = all_put (values nothing) (replicate 15 unused) (bounds_none 15) fs

-- ---- bits
pub bits_most : (z : ℤ) → nat_abs z ≤ 9_000_000_000_000_000_000 → bits64 z ≤ any64.high
bits_most (pos n) h = omega arith
bits_most (negsuc n) h = omega arith

pub bits_none : (z : ℤ) → nat_abs z ≤ 9_000_000_000_000_000_000 → 1 ≤ nat_abs z → bits64 z ≡ 0 → ⊥
bits_none z h k e =
    let q : nat_abs z ≡ 0 = ap nat_abs (sym (bits_tell z h) ∙ ap (to_z w64) e) in
    omega arith

pub low_most : (z : ℤ) → nat_abs z ≤ shares_most → bits32 z ≤ any32.high
low_most (pos n) h = omega arith
low_most (negsuc n) h = omega arith

pub low_tell : (z : ℤ) → nat_abs z ≤ shares_most → to_z w32 (bits32 z) ≡ z
low_tell (pos n) h = got32 (pos n) (omega arith)
low_tell (negsuc n) h = got32 (negsuc n) (omega arith)

pub low_apart : (a b : ℤ) → nat_abs a ≤ shares_most → nat_abs b ≤ shares_most → (nat_abs a ≡ nat_abs b → ⊥)
    → bits32 a ≡ bits32 b → ⊥
low_apart a b h k f e = f (ap nat_abs (sym (low_tell a h) ∙ ap (to_z w32) e ∙ low_tell b k))
