-- A test that passes or not: what follows in either case. Assumes nothing.
use Rattle.std.specs.Prelude.{◌≡◌, refl, Bool, true, false, cond, ℕ, ◌≤◌}
use Rattle.std.proofs.Common.{sym, ap, ◌∙◌, arith}
use Rattle.std.proofs.lemmas.Bool.{false≢true}
use mathlib.Core.List.{List, Memᴰ}
use Rattle.laws.specs.Keep.{count_has}
use Rattle.laws.specs.Search.{bit, count}
use Rattle.keys.specs.Key.{among}

pub by_cases : {X : Type 0} (b : Bool) → (b ≡ true → X) → (b ≡ false → X) → X
by_cases true f g = f refl
by_cases false f g = g refl

pub no : {X : Type 0} {b : Bool} → b ≡ false → b ≡ true → X
no e h = absurd (false≢true (sym e ∙ h))

pub not_so : (b : Bool) → (b ≡ true → ⊥) → b ≡ false
not_so true h = absurd (h refl)
not_so false h = refl

pub cond_no : {X : Type 0} {b : Bool} (x y : X) → b ≡ false → cond b x y ≡ y
cond_no x y e = rw e refl

pub cond_yes : {X : Type 0} {b : Bool} (x y : X) → b ≡ true → cond b x y ≡ x
cond_yes x y e = rw e refl

-- ---- kinds that are not in a list, and lists of which none passes
pub not_among : (l : List ℕ) (k j : ℕ) → among k l ≡ false → among j l ≡ true → j ≡ k → ⊥
not_among l k j n y q = no n (ap (λ (x : ℕ). among x l) (sym q) ∙ y)

pub none_passes : {A : Type 0} (p : A → Bool) (l : List A) → count p l ≡ 0 → (x : A) → Memᴰ x l → p x ≡ false
none_passes p l e x m = not_so (p x) (λ h. let k = count_has p x l m h in omega arith)

pub one_bit : (b : Bool) → bit b ≤ 1
one_bit true = omega arith
one_bit false = omega arith
