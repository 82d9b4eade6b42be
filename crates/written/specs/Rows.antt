-- The bits of a count of shares and of an amount, and the cash flag alone. Assumes nothing.
use Rattle.std.specs.Prelude.{◌≡◌, refl, Bool, true, false, cond, ℕ, ◌+◌, ◌%◌, ◌≤◌, ℤ, pos, negsuc, nat_abs, ◌+ℤ◌}
use Rattle.std.proofs.Common.{arith, eqb-true}
use Rattle.std.proofs.lemmas.Bool.{eqb-false}
use Rattle.record.specs.Signed.{up}
use Rattle.units.specs.Units.{low}
use Rattle.rules.specs.Ranges.{shares_most, time}
use Rattle.model.specs.Edit.{bits32, bits64}
use Rattle.model.specs.Flags.{cash}
use Rattle.money.specs.Amounts.{UpTo}

-- the latest time of an input
abbrev pub time_most : ℕ
time_most = time.high

-- ---- the bits of a count of shares
pub low_bits : (z : ℤ) → nat_abs z ≤ shares_most → low z ≡ bits32 z
low_bits (pos n) h = omega arith
low_bits (negsuc n) h = omega arith

-- ---- and of amounts that are not below zero
abbrev small : ℕ
small = 9_223_372_036_854_775_807

pub amount_bits : {m : ℕ} (z : ℤ) → UpTo m z → m ≤ small → bits64 z ≡ up z
amount_bits (pos n) u h = let k = u.most in omega arith
amount_bits (negsuc n) u h = let k = u.above in let z : ⊥ = omega arith in absurd z

pub sum_bits : {m k : ℕ} (x y : ℤ) → UpTo m x → UpTo k y → m + k ≤ small → bits64 (x +ℤ y) ≡ bits64 x + up y
sum_bits (pos n) (pos l) u v h = let a = u.most in let b = v.most in omega arith
sum_bits (pos n) (negsuc l) u v h = let k = v.above in let z : ⊥ = omega arith in absurd z
sum_bits (negsuc n) y u v h = let k = u.above in let z : ⊥ = omega arith in absurd z

-- ---- the cash flag alone
pub cash_flag_holds : (x : ℕ) → x % 2 ≡ cond (cash x) 1 0
cash_flag_holds x = go (cash x) refl
  where
    go : (t : Bool) → cash x ≡ t → x % 2 ≡ cond t 1 0
    go true e = eqb-true (x % 2) 1 e
    go false e = let h = eqb-false (x % 2) 1 e in omega arith
