-- A sum and a largest when one element of a list gives way to another. Assumes nothing.
use Rattle.std.specs.Prelude.{◌≡◌, refl, length, get_or, set}
use Rattle.std.proofs.Common.{sym, ap, ◌∙◌}
use mathlib.Core.List.{List, [], ◌∷◌}
use Prim.Native.Nat.{ℕ, zero, suc, ◌+◌, ◌<◌, max}
use native.Mathlib.Omega.{arith}
use Rattle.laws.specs.Search.{largest, total}

module _ {A : Type 0} (f : A → ℕ) (d v : A) where
  pub total_set : (l : List A) (p : ℕ) → p < length l → total f (set l p v) + f (get_or l p d) ≡ total f l + f v
  unfolding total
  total_set [] p h = absurd (omega arith)
  total_set (x ∷ l) zero h = omega arith
  total_set (x ∷ l) (suc p) h = let ih = total_set l p (omega arith) in omega arith

  pub largest_set : (l : List A) (p : ℕ) → p < length l
      → max (f (get_or l p d)) (largest f (set l p v)) ≡ max (f v) (largest f l)
  unfolding largest
  largest_set [] p h = absurd (omega arith)
  largest_set (x ∷ l) zero h = omega arith
  largest_set (x ∷ l) (suc p) h = let ih = largest_set l p (omega arith) in omega arith

  -- another of which f gives the same: what is joined of all is the same, in whichever way
  joined_alike : (g : List A → ℕ) (join : ℕ → ℕ → ℕ) → ((x : A) (l : List A) → g (x ∷ l) ≡ join (f x) (g l))
      → (l : List A) (p : ℕ) → f v ≡ f (get_or l p d) → g (set l p v) ≡ g l
  joined_alike g join on [] zero e = refl
  joined_alike g join on [] (suc p) e = refl
  joined_alike g join on (x ∷ l) zero e = on v l ∙ ap (λ (y : ℕ). join y (g l)) e ∙ sym (on x l)
  joined_alike g join on (x ∷ l) (suc p) e =
      on x (set l p v) ∙ ap (join (f x)) (joined_alike g join on l p e) ∙ sym (on x l)

  pub largest_alike : (l : List A) (p : ℕ) → f v ≡ f (get_or l p d) → largest f (set l p v) ≡ largest f l
  unfolding largest
  largest_alike = joined_alike (largest f) max (λ x l. refl)

  pub total_alike : (l : List A) (p : ℕ) → f v ≡ f (get_or l p d) → total f (set l p v) ≡ total f l
  unfolding total
  total_alike = joined_alike (total f) (λ x y. x + y) (λ x l. refl)
