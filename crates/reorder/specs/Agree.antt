-- Lists that hold the same, each as often: what is found, summed and sorted of them is the same. Assumes nothing.
use Rattle.std.specs.Prelude.{◌≡◌, Bool, true, cond, ℕ, ◌+◌, ◌≤◌, leb}
use Rattle.std.proofs.Math.Path.{refl, sym, ap}
use Rattle.std.proofs.Common.{◌∙◌, le-leb}
use Rattle.std.proofs.Math.Bool.{false}
use mathlib.Core.List.{List, [], ◌∷◌, Memᴰ}
use native.Mathlib.Omega.{arith}
use Rattle.laws.specs.Keep.{count_has, count_one, the_has}
use Rattle.laws.specs.Place.{the_none, the_passes}
use Rattle.laws.specs.Search.{bit, count, the, total}
use Rattle.laws.specs.Puts.{is_counted, member}
use Rattle.preserved.specs.Cases.{by_cases, cond_no, cond_yes, no, none_passes}
use Rattle.laws.specs.Total.{total_zero}

module _ {A : Type 0} (same : A → A → Bool) where
  -- those that pass are there equally often
  abbrev pub Agree : (A → Bool) → List A → List A → Type 0
  Agree p s t = (x : A) → p x ≡ true → count (same x) s ≡ count (same x) t

  -- the list with the first x taken out
  unfoldable without : A → List A → List A
  without x [] = []
  without x (y ∷ l) = cond (same x y) l (y ∷ without x l)

-- those that pass, taken in one after the other
module _ {A B : Type 0} (p : A → Bool) (f : A → B → B) (z : B) where
  unfoldable pub gathered : List A → B
  gathered [] = z
  gathered (x ∷ l) = cond (p x) (f x (gathered l)) (gathered l)

module _ {A : Type 0} (same : A → A → Bool) (tells : (a b : A) → same a b ≡ true → a ≡ b)
    (itself : (a : A) → same a a ≡ true) where
  without_total : (μ : A → ℕ) (x : A) (l : List A) → 1 ≤ count (same x) l
      → total μ l ≡ μ x + total μ (without same x l)
  unfolding without total count
  without_total μ x [] h = absurd (omega arith)
  without_total μ x (y ∷ l) h = by_cases (same x y)
      (λ e. rw e (ap (λ (w : A). μ w + total μ l) (sym (tells x y e))))
      (λ e.
      let k : 1 ≤ bit false + count (same x) l = rw e at h in
      let r = without_total μ x l (omega arith) in
      rw e (omega arith))

  more : {x y : A} {k l : List A} → (Memᴰ y k → Memᴰ y l) → Memᴰ y (x ∷ k) → Memᴰ y (x ∷ l)
  more h (Memᴰ.head q) = Memᴰ.head q
  more h (Memᴰ.tail n) = Memᴰ.tail (h n)

  without_from : (x : A) (l : List A) (y : A) → Memᴰ y (without same x l) → Memᴰ y l
  unfolding without
  without_from x [] y m = m
  without_from x (w ∷ l) y m = by_cases (same x w)
      (λ e. Memᴰ.tail (rw e at m))
      (λ e. more (without_from x l y) (rw e at m))

  module _ {B : Type 0} (p : A → Bool) (f : A → B → B) (z : B) where
    -- it is one which of two comes first
    abbrev Swaps : A → A → Type 0
    Swaps x y = (b : B) → f x (f y b) ≡ f y (f x b)

    abbrev pub all : List A → B
    all l = gathered p f z l

    first_out : (x : A) (l : List A) → p x ≡ true → 1 ≤ count (same x) l
        → ((y : A) → Memᴰ y l → p y ≡ true → Swaps x y) → all l ≡ f x (all (without same x l))
    unfolding without gathered count total
    first_out x [] e h s = absurd (omega arith)
    first_out x (y ∷ l) e h s = by_cases (same x y)
        (λ u.
        let q = tells x y u in
        cond_yes _ _ (ap p (sym q) ∙ e) ∙ ap (λ (w : A). f w (all l)) (sym q)
        ∙ ap (λ (k : List A). f x (all k)) (sym (cond_yes l (y ∷ without same x l) u)))
        (λ u.
        let k : 1 ≤ bit false + count (same x) l = rw u at h in
        let ih = first_out x l e (omega arith) (λ w m. s w (Memᴰ.tail m)) in
        by_cases (p y)
        (λ v.
        cond_yes _ _ v ∙ ap (f y) ih ∙ sym (s y (Memᴰ.head refl) v (all (without same x l)))
        ∙ ap (f x) (sym (cond_yes _ _ v)) ∙ ap (λ (k : List A). f x (all k)) (sym (cond_no l (y ∷ without same x l) u)))
        (λ v.
        cond_no _ _ v ∙ ih ∙ ap (f x) (sym (cond_no _ _ v))
        ∙ ap (λ (k : List A). f x (all k)) (sym (cond_no l (y ∷ without same x l) u))))

    none_left : (t : List A) → Agree same p [] t → all t ≡ z
    unfolding gathered count total
    none_left [] h = refl
    none_left (y ∷ t) h = by_cases (p y)
        (λ v. let k = h y v in let o = ap bit (itself y) in absurd (omega arith))
        (λ v. cond_no _ _ v ∙ none_left t (λ x e. let k = h x e in omega arith))

    -- what is gathered is decided by the counts
    pub gathered_agree : (s t : List A)
        → ((x y : A) → Memᴰ x t → Memᴰ y t → p x ≡ true → p y ≡ true → Swaps x y) → Agree same p s t
        → all s ≡ all t
    unfolding gathered count total
    gathered_agree [] t c h = sym (none_left t h)
    gathered_agree (x ∷ s) t c h = by_cases (p x)
        (λ v.
        let o = ap bit (itself x) in
        let hx = h x v in
        let one : 1 ≤ count (same x) t = omega arith in
        let here = member same tells itself x t one in
        cond_yes _ _ v
        ∙ ap (f x)
        (gathered_agree s (without same x t)
        (λ y w m n. c y w (without_from x t y m) (without_from x t w n))
        (λ y e. let k = h y e in let d = without_total (λ (w : A). bit (same y w)) x t one in omega arith))
        ∙ sym (first_out x t v one (λ y m e. c x y here m v e)))
        (λ v.
        cond_no _ _ v
        ∙ gathered_agree s t c
        (λ y e.
        let k = h y e in
        let d = by_cases (same y x) (λ u. no v (ap p (sym (tells y x u)) ∙ e)) (λ u. ap bit u) in
        omega arith))

  -- ---- sums
  module _ (p : A → Bool) (μ : A → ℕ) (off : (x : A) → p x ≡ false → μ x ≡ 0) where
    total_gathered : (l : List A) → total μ l ≡ gathered p (λ x n. μ x + n) 0 l
    unfolding total gathered
    total_gathered [] = refl
    total_gathered (x ∷ l) = by_cases (p x)
        (λ v. ap (λ (n : ℕ). μ x + n) (total_gathered l) ∙ sym (cond_yes _ _ v))
        (λ v. let ih = total_gathered l in let o = off x v in
        let e : μ x + total μ l ≡ gathered p (λ x n. μ x + n) 0 l = omega arith in
        e ∙ sym (cond_no _ _ v))

    pub total_agree : (s t : List A) → Agree same p s t → total μ s ≡ total μ t
    total_agree s t h =
        total_gathered s
        ∙ gathered_agree p (λ (x : A) (n : ℕ). μ x + n) 0 s t (λ x y m n d e b. omega arith) h
        ∙ sym (total_gathered t)

  -- ---- a search that at most one row passes
  module _ (p q : A → Bool) (d : A) (within : (x : A) → p x ≡ true → q x ≡ true) where
    there_agree : (s t : List A) → Agree same q s t → (x : A) → Memᴰ x s → q x ≡ true → Memᴰ x t
    there_agree s t h x m e =
        let k = is_counted same tells itself x s m in
        let a = h x e in
        member same tells itself x t (omega arith)

    pub the_agree : (s t : List A) → Agree same q s t → count p t ≤ 1 → the p d s ≡ the p d t
    the_agree s t h u = by_cases (leb 1 (count p s))
        (λ a.
        let m = there_agree s t h (the p d s) (the_has p d s a) (within _ (the_passes p d s a)) in
        let b = le-leb 1 (count p t) (count_has p (the p d s) t m (the_passes p d s a)) in
        count_one p (the p d s) (the p d t) t u m (the_has p d t b) (the_passes p d s a) (the_passes p d t b))
        (λ a. by_cases (leb 1 (count p t))
        (λ b.
        let m =
        there_agree t s (λ x e. sym (h x e)) (the p d t) (the_has p d t b) (within _ (the_passes p d t b)) in
        let c = le-leb 1 (count p s) (count_has p (the p d t) s m (the_passes p d t b)) in
        no a c)
        (λ b. the_none p d s a ∙ sym (the_none p d t b)))

-- ---- a value of the one that passes, as a sum
module _ {A : Type 0} (p : A → Bool) (f : A → ℕ) (d : A) where
  abbrev pub only : A → ℕ
  only x = cond (p x) (f x) 0

  only_none : (l : List A) → count p l ≡ 0 → total only l ≡ 0
  only_none l h = total_zero only l (λ x m. cond_no (f x) 0 (none_passes p l h x m))

  pub the_total : (l : List A) → f d ≡ 0 → count p l ≤ 1 → f (the p d l) ≡ total only l
  unfolding the count total
  the_total [] z h = z
  the_total (x ∷ l) z h = by_cases (p x)
      (λ v.
      let k : 1 + count p l ≤ 1 = rw v at h in
      let ih = only_none l (omega arith) in
      rw v (omega arith))
      (λ v.
      let k : 0 + count p l ≤ 1 = rw v at h in
      let ih = the_total l z (omega arith) in
      rw v (omega arith))
