-- Searches, tests, counts and sums over a list: each rule of the book is one of these. Assumes nothing.
use Rattle.std.specs.Prelude.{◌≡◌, Bool, cond, ◌&&◌, ℤ, pos, ◌+ℤ◌}
use Rattle.std.proofs.Math.Path.{refl, sym, ap}
use Rattle.std.proofs.Common.{◌∙◌, zero-add, one-add}
use Rattle.std.proofs.Math.Bool.{true, false}
use mathlib.Core.List.Memᴰ
use mathlib.Core.List.{List, [], ◌∷◌, Memᴰ}
use Prim.Native.Nat.{ℕ, suc, ◌+◌, max}
use Rattle.std.proofs.Math.ListN.{length}
use Rattle.laws.specs.Tests.{Means, and_left, and_right, and_both}

-- 1 where a test passes
abbrev pub bit : Bool → ℕ
bit true = 1
bit false = 0

module _ {A : Type 0} where
  -- the first that passes, and d where none does
  unfoldable pub the : (A → Bool) → A → List A → A
  the p d [] = d
  the p d (x ∷ l) = cond (p x) x (the p d l)

  -- the place of the first that passes, places counted from i; the end where none does
  unfoldable pub seek : (A → Bool) → ℕ → List A → ℕ
  seek p i [] = i
  seek p i (x ∷ l) = cond (p x) i (seek p (i + 1) l)

  abbrev pub place : (A → Bool) → List A → ℕ
  place p l = seek p 0 l

  -- every one passes
  unfoldable pub every : (A → Bool) → List A → Bool
  every p [] = true
  every p (x ∷ l) = p x && every p l

  -- those that pass, in their order
  unfoldable pub keep : (A → Bool) → List A → List A
  keep p [] = []
  keep p (x ∷ l) = cond (p x) (x ∷ keep p l) (keep p l)

  -- the sum of what f counts of each
  unfoldable pub total : (A → ℕ) → List A → ℕ
  total f [] = 0
  total f (x ∷ l) = f x + total f l

  -- how many pass
  unfoldable pub count : (A → Bool) → List A → ℕ
  count p l = total (λ x. bit (p x)) l

  -- the sum of signed numbers
  unfoldable pub sum_z : (A → ℤ) → List A → ℤ
  sum_z f [] = pos 0
  sum_z f (x ∷ l) = f x +ℤ sum_z f l

  -- the largest, 0 where there is none
  unfoldable pub largest : (A → ℕ) → List A → ℕ
  largest f [] = 0
  largest f (x ∷ l) = max (f x) (largest f l)

  -- the state after a step for each in turn
  unfoldable pub run : {S : Type 0} → (S → A → S) → S → List A → S
  run f s [] = s
  run f s (x ∷ l) = run f (f s x) l

  pub length_keep : (p : A → Bool) (l : List A) → length (keep p l) ≡ count p l
  unfolding keep count total
  length_keep p [] = refl
  length_keep p (x ∷ l) = go (p x) (length_keep p l)
    where
      go : (t : Bool) → length (keep p l) ≡ count p l
          → length (cond t (x ∷ keep p l) (keep p l)) ≡ bit t + count p l
      go true ih = ap suc ih ∙ sym (one-add (count p l))
      go false ih = ih ∙ sym (zero-add (count p l))

  -- ---- what `every` means
  every_shows : (p : A → Bool) (l : List A) → every p l ≡ true → (x : A) → Memᴰ x l → p x ≡ true
  unfolding every
  every_shows p [] e x m = absurd (Memᴰ.not-nil m)
  every_shows p (y ∷ l) e x (Memᴰ.head q) = ap p q ∙ and_left (p y) (every p l) e
  every_shows p (y ∷ l) e x (Memᴰ.tail m) = every_shows p l (and_right (p y) (every p l) e) x m

  every_holds : (p : A → Bool) (l : List A) → ((x : A) → Memᴰ x l → p x ≡ true) → every p l ≡ true
  unfolding every
  every_holds p [] h = refl
  every_holds p (y ∷ l) h =
      and_both (p y) (every p l) (h y (Memᴰ.head refl)) (every_holds p l (λ x m. h x (Memᴰ.tail m)))

  pub means_every : {p : A → Bool} {P : A → Type 0} (l : List A) → ((x : A) → Means (p x) (P x))
      → Means (every p l) ((x : A) → Memᴰ x l → P x)
  means_every {p} l m = record {
    shows = λ e x i. (m x).shows (every_shows p l e x i);
    holds = λ h. every_holds p l (λ x i. (m x).holds (h x i));
  }
