-- Totals over lists that are joined, mapped or parted. Assumes nothing.
use Rattle.std.specs.Prelude.{◌≡◌, Bool, cond, ℕ, ◌+◌}
use Rattle.std.proofs.Math.Path.{refl}
use Rattle.std.proofs.Math.Bool.{true, false, not}
use mathlib.Core.List.{List, [], ◌∷◌, ◌++◌, map, Memᴰ}
use native.Mathlib.Omega.{arith}
use Rattle.laws.specs.Search.{keep, total}

module _ {A : Type 0} (μ : A → ℕ) where
  pub total_append : (k l : List A) → total μ (k ++ l) ≡ total μ k + total μ l
  unfolding total
  total_append [] l = omega arith
  total_append (x ∷ k) l = let ih = total_append k l in omega arith

  pub total_map : {B : Type 0} (f : B → A) (l : List B) → total μ (map f l) ≡ total (λ x. μ (f x)) l
  unfolding total
  total_map f [] = refl
  total_map f (x ∷ l) = let ih = total_map f l in omega arith

  pub total_parts : (p : A → Bool) (l : List A)
      → total μ (keep p l) + total μ (keep (λ x. not (p x)) l) ≡ total μ l
  unfolding total keep
  total_parts p [] = refl
  total_parts p (x ∷ l) = go (total_parts p l) (p x) refl
    where
      go : total μ (keep p l) + total μ (keep (λ x. not (p x)) l) ≡ total μ l → (b : Bool) → p x ≡ b
          → total μ (keep p (x ∷ l)) + total μ (keep (λ x. not (p x)) (x ∷ l)) ≡ total μ (x ∷ l)
      go ih true e = rw e (omega arith)
      go ih false e = rw e (omega arith)

  pub total_single : (x : A) → total μ (x ∷ []) ≡ μ x
  unfolding total
  total_single x = omega arith

  pub total_cond : (b : Bool) (x : A) → total μ (cond b (x ∷ []) []) ≡ cond b (μ x) 0
  unfolding total
  total_cond true x = omega arith
  total_cond false x = refl

pub total_on : {A : Type 0} (μ ν : A → ℕ) (l : List A) → ((x : A) → Memᴰ x l → μ x ≡ ν x)
    → total μ l ≡ total ν l
unfolding total
total_on μ ν [] h = refl
total_on μ ν (x ∷ l) h =
    let a = h x (Memᴰ.head refl) in
    let ih = total_on μ ν l (λ y m. h y (Memᴰ.tail m)) in
    omega arith

pub total_zero : {A : Type 0} (μ : A → ℕ) (l : List A) → ((x : A) → Memᴰ x l → μ x ≡ 0) → total μ l ≡ 0
unfolding total
total_zero μ [] h = refl
total_zero μ (x ∷ l) h =
    let a = h x (Memᴰ.head refl) in
    let ih = total_zero μ l (λ y m. h y (Memᴰ.tail m)) in
    omega arith
