-- One row in the place of another, and rows that a map changes: what is made of each row, found and summed where
-- neither changes what is looked at. Assumes nothing.
use Rattle.std.specs.Prelude.{◌≡◌, Bool, cond, ◌≤◌, ℤ, ◌+ℤ◌}
use Rattle.std.proofs.Math.Path.{refl, ap}
use Rattle.std.proofs.Common.{◌∙◌, arith}
use Rattle.std.proofs.Math.Bool.{true, false}
use mathlib.Core.List.{List, [], ◌∷◌, map, Memᴰ}
use Rattle.laws.specs.All.{All, all_more, all_none}
use Rattle.laws.specs.Change.{put}
use Rattle.laws.specs.Search.{bit, count, sum_z, the, total}
use Rattle.preserved.specs.Cases.{by_cases}

module _ {A X : Type 0} (f : A → X) where
  pub map_map_same : (g : A → A) → ((x : A) → f (g x) ≡ f x) → (l : List A) → map f (map g l) ≡ map f l
  map_map_same g h [] = refl
  map_map_same g h (x ∷ l) = rw (h x, map_map_same g h l)

  pub the_map : (p : A → Bool) (d : A) (g : A → A) → ((x : A) → p (g x) ≡ p x)
      → ((x : A) → p x ≡ true → f (g x) ≡ f x) → (l : List A) → f (the p d (map g l)) ≡ f (the p d l)
  unfolding the
  the_map p d g same h [] = refl
  the_map p d g same h (x ∷ l) =
      by_cases (p x) (λ e. rw (same x, e) (h x e)) (λ e. rw (same x, e) (the_map p d g same h l))

-- ---- one in the place of another
module _ {A : Type 0} (same : A → A → Bool) (tells : (a b : A) → same a b ≡ true → a ≡ b) (o n : A) where
  pub map_put : {X : Type 0} (f : A → X) → f n ≡ f o → (l : List A) → map f (put same o n l) ≡ map f l
  unfolding put
  map_put f h [] = refl
  map_put f h (x ∷ l) =
      by_cases (same o x) (λ e. let q : f n ≡ f x = h ∙ ap f (tells o x e) in rw (e, q)) (λ e. rw (e, map_put f h l))

  pub the_put : {X : Type 0} (f : A → X) (p : A → Bool) (d : A) → p n ≡ p o → (p o ≡ true → f n ≡ f o) → (l : List A)
      → f (the p d (put same o n l)) ≡ f (the p d l)
  unfolding put the
  the_put f p d alike h [] = refl
  the_put f p d alike h (x ∷ l) = go (the_put f p d alike h l) (same o x) (p x) refl refl
    where
      go : f (the p d (put same o n l)) ≡ f (the p d l) → (t u : Bool) → same o x ≡ t → p x ≡ u
          → f (the p d (put same o n (x ∷ l))) ≡ f (the p d (x ∷ l))
      go ih true true e u =
          let q = tells o x e in
          let a : p n ≡ true = alike ∙ ap p q ∙ u in
          rw (e, a, u) (h (ap p q ∙ u) ∙ ap f q)
      go ih true false e u =
          let a : p n ≡ false = alike ∙ ap p (tells o x e) ∙ u in
          rw (e, a, u)
      go ih false true e u = rw (e, u)
      go ih false false e u = rw (e, u) ih

  pub all_put : (P : A → Type 0) → P n → (l : List A) → All P l → All P (put same o n l)
  unfolding put
  all_put P h [] a = all_none P
  all_put P h (x ∷ l) a =
      go (same o x) (all_put P h l (λ y m. a y (Memᴰ.tail m))) (λ y m. a y (Memᴰ.tail m))
    where
      go : (t : Bool) → All P (put same o n l) → All P l → All P (cond t (n ∷ l) (x ∷ put same o n l))
      go true ih rest = all_more P n l h rest
      go false ih rest = all_more P x (put same o n l) (a x (Memᴰ.head refl)) ih

  pub put_has : (l : List A) → 1 ≤ count (same o) l → Memᴰ n (put same o n l)
  unfolding put count total
  put_has [] h = absurd (omega arith)
  put_has (x ∷ l) h =
      by_cases (same o x) (λ e. rw e (Memᴰ.head refl))
      (λ e. let z = ap bit e in rw e (Memᴰ.tail (put_has l (omega arith))))

-- ---- sums of what is made of each
pub sum_map : {A : Type 0} (f : A → ℤ) (l : List A) → sum_z (λ (x : ℤ). x) (map f l) ≡ sum_z f l
unfolding sum_z
sum_map f [] = refl
sum_map f (x ∷ l) = ap (λ (n : ℤ). f x +ℤ n) (sum_map f l)
