-- What a test keeps of a list: what is found, counted and tested there, and what two tests that agree on the list's
-- members do alike. Assumes nothing.
use Rattle.std.specs.Prelude.{◌≡◌, Bool, cond, ◌&&◌, ◌||◌, ◌+◌, ◌≤◌, leb}
use Rattle.std.proofs.Math.Path.{refl, sym, ap}
use Rattle.std.proofs.Common.{◌∙◌}
use Rattle.std.proofs.Math.Bool.{true, false, not}
use Rattle.std.proofs.lemmas.Bool.{false≢true}
use mathlib.Core.List.Memᴰ
use mathlib.Core.List.{List, [], ◌∷◌, ◌++◌, map, Memᴰ}
use Rattle.std.proofs.Math.Nat.{zero-add}
use native.Mathlib.Omega.{arith}
use Rattle.laws.specs.Search.{bit, count, every, keep, run, the, total}
use Rattle.laws.specs.Total.{total_append, total_map, total_parts}
use Rattle.laws.specs.Tests.{and_left, and_right}

module _ {A : Type 0} where
  -- ---- finds and counts see no more than what is kept
  pub the_kept : (p : A → Bool) (d : A) (l : List A) → the p d l ≡ the p d (keep p l)
  unfolding the keep
  the_kept p d [] = refl
  the_kept p d (x ∷ l) = go (the_kept p d l) (p x) refl
    where
      go : the p d l ≡ the p d (keep p l) → (t : Bool) → p x ≡ t → the p d (x ∷ l) ≡ the p d (keep p (x ∷ l))
      go ih true e = rw (e, e)
      go ih false e = rw e ih

  pub count_kept : (p : A → Bool) (l : List A) → count p l ≡ count p (keep p l)
  unfolding count total keep
  count_kept p [] = refl
  count_kept p (x ∷ l) = go (count_kept p l) (p x) refl
    where
      go : count p l ≡ count p (keep p l) → (t : Bool) → p x ≡ t → count p (x ∷ l) ≡ count p (keep p (x ∷ l))
      go ih true e = rw (e, e, ← ih)
      go ih false e = rw (e, zero-add (count p l)) ih

  -- ---- two tests, one after the other
  module _ (p q : A → Bool) where
    pub keep_keep : (l : List A) → keep (λ x. p x && q x) l ≡ keep q (keep p l)
    unfolding keep
    keep_keep [] = refl
    keep_keep (x ∷ l) = go (keep_keep l) (p x) (q x) refl refl
      where
        go : keep (λ x. p x && q x) l ≡ keep q (keep p l) → (t u : Bool) → p x ≡ t → q x ≡ u
            → keep (λ x. p x && q x) (x ∷ l) ≡ keep q (keep p (x ∷ l))
        go ih true true e f = rw (e, f, ih)
        go ih true false e f = rw (e, f, ih)
        go ih false u e f = rw (e, ih)

    pub count_keep : (l : List A) → count q (keep p l) ≡ count (λ x. p x && q x) l
    unfolding count total keep
    count_keep [] = refl
    count_keep (x ∷ l) = go (count_keep l) (p x) refl
      where
        go : count q (keep p l) ≡ count (λ x. p x && q x) l → (t : Bool) → p x ≡ t
            → count q (keep p (x ∷ l)) ≡ count (λ x. p x && q x) (x ∷ l)
        go ih true e = rw (e, ih)
        go ih false e = rw (e, ih, zero-add)

    pub every_keep : (l : List A) → every q (keep p l) ≡ every (λ x. not (p x) || q x) l
    unfolding every keep
    every_keep [] = refl
    every_keep (x ∷ l) = go (every_keep l) (p x) refl
      where
        go : every q (keep p l) ≡ every (λ x. not (p x) || q x) l → (t : Bool) → p x ≡ t
            → every q (keep p (x ∷ l)) ≡ every (λ x. not (p x) || q x) (x ∷ l)
        go ih true e = rw (e, ih)
        go ih false e = rw (e, ih)

  -- ---- members
  pub keep_has : (p : A → Bool) (x : A) (l : List A) → Memᴰ x l → p x ≡ true → Memᴰ x (keep p l)
  unfolding keep
  keep_has p x [] m e = absurd (Memᴰ.not-nil m)
  keep_has p x (y ∷ l) (Memᴰ.head q) e = let h : p y ≡ true = ap p (sym q) ∙ e in rw h (Memᴰ.head q)
  keep_has p x (y ∷ l) (Memᴰ.tail m) e = go (keep_has p x l m e) (p y) refl
    where
      go : Memᴰ x (keep p l) → (t : Bool) → p y ≡ t → Memᴰ x (keep p (y ∷ l))
      go ih true h = rw h (Memᴰ.tail ih)
      go ih false h = rw h ih

  pub keep_from : (p : A → Bool) (x : A) (l : List A) → Memᴰ x (keep p l) → Memᴰ x l × (p x ≡ true)
  unfolding keep
  keep_from p x [] m = absurd (Memᴰ.not-nil m)
  keep_from p x (y ∷ l) m = go (keep_from p x l) (p y) refl
    where
      more : Memᴰ x l × (p x ≡ true) → Memᴰ x (y ∷ l) × (p x ≡ true)
      more h = (Memᴰ.tail h.0, h.1)

      first : (Memᴰ x (keep p l) → Memᴰ x l × (p x ≡ true)) → p y ≡ true → Memᴰ x (y ∷ keep p l)
          → Memᴰ x (y ∷ l) × (p x ≡ true)
      first ih h (Memᴰ.head q) = (Memᴰ.head q, ap p q ∙ h)
      first ih h (Memᴰ.tail k) = more (ih k)

      go : (Memᴰ x (keep p l) → Memᴰ x l × (p x ≡ true)) → (t : Bool) → p y ≡ t
          → Memᴰ x (y ∷ l) × (p x ≡ true)
      go ih true h = first ih h (rw h at m)
      go ih false h = more (ih (rw h at m))

  pub the_has : (p : A → Bool) (d : A) (l : List A) → leb 1 (count p l) ≡ true → Memᴰ (the p d l) l
  unfolding the count total
  the_has p d [] h = absurd (false≢true h)
  the_has p d (x ∷ l) h = go (the_has p d l) (p x) refl
    where
      go : (leb 1 (count p l) ≡ true → Memᴰ (the p d l) l) → (t : Bool) → p x ≡ t
          → Memᴰ (the p d (x ∷ l)) (x ∷ l)
      go ih true e = rw e (Memᴰ.head refl)
      go ih false e = rw e (Memᴰ.tail (ih (rw (e, zero-add (count p l)) at h)))

  pub count_has : (p : A → Bool) (x : A) (l : List A) → Memᴰ x l → p x ≡ true → 1 ≤ count p l
  unfolding count total
  count_has p x [] m e = absurd (Memᴰ.not-nil m)
  count_has p x (y ∷ l) (Memᴰ.head q) e = let h : p y ≡ true = ap p (sym q) ∙ e in rw h (omega arith)
  count_has p x (y ∷ l) (Memᴰ.tail m) e = let h = count_has p x l m e in omega arith

  -- where at most one passes, any two that do are one
  pub count_one : (p : A → Bool) (x y : A) (l : List A) → count p l ≤ 1 → Memᴰ x l → Memᴰ y l → p x ≡ true
      → p y ≡ true → x ≡ y
  unfolding count total
  count_one p x y [] c m n e f = absurd (Memᴰ.not-nil m)
  count_one p x y (z ∷ l) c (Memᴰ.head q) (Memᴰ.head r) e f = q ∙ sym r
  count_one p x y (z ∷ l) c (Memᴰ.head q) (Memᴰ.tail n) e f =
      let h : p z ≡ true = ap p (sym q) ∙ e in
      let k = count_has p y l n f in
      absurd (let b : 1 + count p l ≤ 1 = rw h at c in omega arith)
  count_one p x y (z ∷ l) c (Memᴰ.tail m) (Memᴰ.head r) e f =
      let h : p z ≡ true = ap p (sym r) ∙ f in
      let k = count_has p x l m e in
      absurd (let b : 1 + count p l ≤ 1 = rw h at c in omega arith)
  count_one p x y (z ∷ l) c (Memᴰ.tail m) (Memᴰ.tail n) e f =
      count_one p x y l (omega arith) m n e f

  -- ---- what agrees on the members
  pub count_on : (p q : A → Bool) (l : List A) → ((x : A) → Memᴰ x l → p x ≡ q x) → count p l ≡ count q l
  unfolding count total
  count_on p q [] h = refl
  count_on p q (x ∷ l) h = rw (h x (Memᴰ.head refl), count_on p q l (λ y m. h y (Memᴰ.tail m)))

  pub count_none : (p : A → Bool) (l : List A) → ((x : A) → p x ≡ false) → count p l ≡ 0
  unfolding count total
  count_none p [] h = refl
  count_none p (x ∷ l) h = rw (h x, count_none p l h)

  pub count_split : (p q s : A → Bool) (l : List A) → ((x : A) → bit (p x) + bit (q x) ≡ bit (s x))
      → count p l + count q l ≡ count s l
  unfolding count total
  count_split p q s [] h = refl
  count_split p q s (x ∷ l) h = let a = h x in let ih = count_split p q s l h in omega arith

  pub map_on : (f g : A → A) (l : List A) → ((x : A) → Memᴰ x l → f x ≡ g x) → map f l ≡ map g l
  map_on f g [] h = refl
  map_on f g (x ∷ l) h = rw (h x (Memᴰ.head refl), map_on f g l (λ y m. h y (Memᴰ.tail m)))

  pub every_on : (s p q : A → Bool) (l : List A) → every s l ≡ true → ((x : A) → s x ≡ true → p x ≡ q x)
      → every p l ≡ every q l
  unfolding every
  every_on s p q [] e h = refl
  every_on s p q (x ∷ l) e h =
      rw (h x (and_left (s x) (every s l) e), every_on s p q l (and_right (s x) (every s l) e) h)

  pub every_alike : (p q : A → Bool) → ((x : A) → p x ≡ q x) → (l : List A) → every p l ≡ every q l
  unfolding every
  every_alike p q h [] = refl
  every_alike p q h (x ∷ l) = rw (h x, every_alike p q h l)

  pub keep_every : (p q : A → Bool) → ((x : A) → p x ≡ true → q x ≡ true) → (l : List A) → every q (keep p l) ≡ true
  unfolding keep every
  keep_every p q h [] = refl
  keep_every p q h (x ∷ l) = go (keep_every p q h l) (p x) refl
    where
      go : every q (keep p l) ≡ true → (t : Bool) → p x ≡ t → every q (keep p (x ∷ l)) ≡ true
      go ih true e = rw (e, h x e, ih)
      go ih false e = rw (e, ih)

-- ---- a list of what f makes of each
module _ {A B : Type 0} (f : A → B) where
  pub every_map : (p : B → Bool) (l : List A) → every p (map f l) ≡ every (λ x. p (f x)) l
  unfolding every
  every_map p [] = refl
  every_map p (x ∷ l) = rw (every_map p l)

  pub run_map : {S : Type 0} (step : S → B → S) (s : S) (l : List A)
      → run step s (map f l) ≡ run (λ t x. step t (f x)) s l
  unfolding run
  run_map step s [] = refl
  run_map step s (x ∷ l) = run_map step (step s (f x)) l

-- ---- counts of joined, mapped and parted lists
module _ {A : Type 0} (p : A → Bool) where
  pub count_append : (k l : List A) → count p (k ++ l) ≡ count p k + count p l
  unfolding count
  count_append k l = total_append (λ x. bit (p x)) k l

  pub count_map : {B : Type 0} (f : B → A) (l : List B) → count p (map f l) ≡ count (λ x. p (f x)) l
  unfolding count
  count_map f l = total_map (λ x. bit (p x)) f l

  -- of a list that is parted
  pub count_parts : (r : A → Bool) (l : List A) → count p (keep r l) + count p (keep (λ x. not (r x)) l) ≡ count p l
  unfolding count
  count_parts r l = total_parts (λ x. bit (p x)) r l

  pub count_fewer : (r : A → Bool) (l : List A) → count p (keep r l) ≤ count p l
  count_fewer r l = let h = count_parts r l in omega arith

  pub count_single : (x : A) → count p (x ∷ []) ≡ bit (p x)
  unfolding count total
  count_single x = omega arith

  pub count_cond : (t : Bool) (x : A) → count p (cond t (x ∷ []) []) ≤ bit (p x)
  unfolding count total
  count_cond true x = omega arith
  count_cond false x = omega arith
