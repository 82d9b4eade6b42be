-- What every member of a list is. Assumes nothing.
use Rattle.std.specs.Prelude.{◌≡◌, refl, Bool, true, false, cond, ℕ, zero, suc, ◌<◌, length, get_or}
use Rattle.std.proofs.Common.{sym, subst, ⊎_elim, arith}
use mathlib.Core.List.Memᴰ
use mathlib.Core.List.{List, [], ◌∷◌, ◌++◌, map, Memᴰ}
use Rattle.laws.specs.Keep.{keep_from}
use Rattle.laws.specs.Search.{keep}

module _ {A : Type 0} (P : A → Type 0) where
  abbrev pub All : List A → Type 0
  All l = (x : A) → Memᴰ x l → P x

  pub all_none : All []
  all_none x m = absurd (Memᴰ.not-nil m)

  pub all_more : (a : A) (l : List A) → P a → All l → All (a ∷ l)
  all_more a l h f x m = ⊎_elim (λ e. subst P (sym e) h) (f x) (Memᴰ.cases_cons m)

  pub all_one : (a : A) → P a → All (a ∷ [])
  all_one a h = all_more a [] h all_none

  pub all_append : (k l : List A) → All k → All l → All (k ++ l)
  all_append k l f g x m = ⊎_elim (f x) (g x) (Memᴰ.append_cases k m)

  pub all_cond : (t : Bool) (k l : List A) → (t ≡ true → All k) → (t ≡ false → All l) → All (cond t k l)
  all_cond true k l f g = f refl
  all_cond false k l f g = g refl

  pub all_keep : (p : A → Bool) (l : List A) → All l → All (keep p l)
  all_keep p l h x m = h x (keep_from p x l m).0

  -- the same by place
  pub all_of_each : (d : A) (l : List A) → ((i : ℕ) → i < length l → P (get_or l i d)) → All l
  all_of_each d [] h = all_none
  all_of_each d (a ∷ l) h = all_more a l (h 0 (omega arith)) (all_of_each d l (λ i m. h (suc i) (omega arith)))

  pub each_of_all : (d : A) (l : List A) → All l → (i : ℕ) → i < length l → P (get_or l i d)
  each_of_all d [] h i m = absurd (omega arith)
  each_of_all d (a ∷ l) h zero m = h a (Memᴰ.head refl)
  each_of_all d (a ∷ l) h (suc i) m = each_of_all d l (λ x k. h x (Memᴰ.tail k)) i (omega arith)

pub all_map : {A B : Type 0} (f : A → B) (P : B → Type 0) (l : List A) → All (λ x. P (f x)) l → All P (map f l)
all_map f P [] h = all_none P
all_map f P (y ∷ l) h =
    all_more P (f y) (map f l) (h y (Memᴰ.head refl)) (all_map f P l (λ z k. h z (Memᴰ.tail k)))
