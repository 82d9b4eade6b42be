-- What a walk over a list knows at place i: what is left there, and the place that it comes to when it skips what does
-- not concern it. Assumes nothing.
use Rattle.std.specs.Prelude.{◌≡◌, Bool, ltb, drop, get_or, set}
use Rattle.std.proofs.Math.Path.{refl, ap}
use Rattle.std.proofs.Common.{sym, ◌∙◌, add-one, add-zero, drop_of_length-le, drop-cons, drop-drop, get_or-drop, ltb-true, ltb-false}
use Rattle.std.proofs.Math.Bool.{true, false}
use Rattle.std.proofs.lemmas.Bool.{false≢true}
use mathlib.Core.List.{List, [], ◌∷◌, map}
use Prim.Native.Nat.{ℕ, zero, suc, ◌+◌, ◌-◌, ◌≤◌, ◌<◌}
use native.Mathlib.Omega.{arith}
use Rattle.std.proofs.Math.ListN.{length, length-drop}
use Rattle.std.proofs.Math.Seq.{map-set_same, set_out}
use Rattle.laws.specs.Search.{seek}

module _ {A : Type 0} where
  pub left_next : (l : List A) (i : ℕ) (d : A) → i < length l → drop i l ≡ get_or l i d ∷ drop (i + 1) l
  left_next l i d h = rw add-one (drop-cons l i d h)

  pub left_none : (l : List A) (i : ℕ) → length l ≤ i → drop i l ≡ []
  left_none l i h = drop_of_length-le l {i = i} h

  -- ---- a search
  pub seek_end : (q : A → Bool) (i : ℕ) (l : List A) → length l ≤ i → seek q i (drop i l) ≡ i
  unfolding seek
  seek_end q i l h = rw (left_none l i h)

  pub seek_here : (q : A → Bool) (i : ℕ) (l : List A) (d : A) → i < length l → q (get_or l i d) ≡ true
      → seek q i (drop i l) ≡ i
  unfolding seek
  seek_here q i l d h e = rw (left_next l i d h, e)

  pub seek_later : (q : A → Bool) (i : ℕ) (l : List A) (d : A) → i < length l → q (get_or l i d) ≡ false
      → seek q i (drop i l) ≡ seek q (i + 1) (drop (i + 1) l)
  unfolding seek
  seek_later q i l d h e = rw (left_next l i d h, e)

  seek_within : (q : A → Bool) (m : List A) (i : ℕ) → (i ≤ seek q i m) × (seek q i m ≤ i + length m)
  unfolding seek
  seek_within q [] i = (omega arith, omega arith)
  seek_within q (x ∷ m) i = go (seek_within q m (i + 1)) (q x) refl
    where
      go : (i + 1 ≤ seek q (i + 1) m) × (seek q (i + 1) m ≤ i + 1 + length m) → (t : Bool) → q x ≡ t
          → (i ≤ seek q i (x ∷ m)) × (seek q i (x ∷ m) ≤ i + suc (length m))
      go ih true e = rw e (omega arith, omega arith)
      go ih false e = let a = ih.0 in let b = ih.1 in rw e (omega arith, omega arith)

  head : (i : ℕ) (l m : List A) (x d : A) → drop i l ≡ x ∷ m → get_or l i d ≡ x
  head i l m x d e =
      let a : get_or (drop i l) 0 d ≡ get_or l (i + 0) d = get_or-drop i l 0 d in
      rw add-zero at (sym a) ∙ rw e

  tail : (i : ℕ) (l m : List A) (x : A) → drop i l ≡ x ∷ m → drop (i + 1) l ≡ m
  tail i l m x e = sym (drop-drop 1 i l) ∙ rw e

  module _ (q : A → Bool) (d : A) (l : List A) where
    sought : (m : List A) (i : ℕ) → drop i l ≡ m → seek q i m < length l → q (get_or l (seek q i m) d) ≡ true
    unfolding seek
    sought [] i e h = absurd (let z : length (drop i l) ≡ 0 = ap length e in let y = length-drop i l in omega arith)
    sought (x ∷ m) i e h = go (sought m (i + 1) (tail i l m x e)) (q x) refl
      where
        go : (seek q (i + 1) m < length l → q (get_or l (seek q (i + 1) m) d) ≡ true) → (t : Bool) → q x ≡ t
            → q (get_or l (seek q i (x ∷ m)) d) ≡ true
        go ih true k = rw k (rw (head i l m x d e) k)
        go ih false k = rw k (ih (rw k at h))

  module _ (p q : A → Bool) (l : List A) (imp : (r : A) → p r ≡ true → q r ≡ true) where
    skipped : (m : List A) (i : ℕ) → drop i l ≡ m → seek p i m ≡ seek p (seek q i m) (drop (seek q i m) l)
    unfolding seek
    skipped [] i e = rw e
    skipped (x ∷ m) i e = go (skipped m (i + 1) (tail i l m x e)) (q x) (p x) refl refl
      where
        go : seek p (i + 1) m ≡ seek p (seek q (i + 1) m) (drop (seek q (i + 1) m) l) → (t u : Bool) → q x ≡ t
            → p x ≡ u → seek p i (x ∷ m) ≡ seek p (seek q i (x ∷ m)) (drop (seek q i (x ∷ m)) l)
        go ih true u k n = rw (k, e)
        go ih false false k n = rw (k, n) ih
        go ih false true k n = absurd (false≢true (sym k ∙ imp x n))

  module _ {M : Type 0} (F : List A → M) (q : A → Bool) (l : List A)
      (none : (x : A) (m : List A) → q x ≡ false → F (x ∷ m) ≡ F m) where
    passed : (m : List A) (i : ℕ) → drop i l ≡ m → F m ≡ F (drop (seek q i m) l)
    unfolding seek
    passed [] i e = rw e
    passed (x ∷ m) i e = go (passed m (i + 1) (tail i l m x e)) (q x) refl
      where
        go : F m ≡ F (drop (seek q (i + 1) m) l) → (t : Bool) → q x ≡ t → F (x ∷ m) ≡ F (drop (seek q i (x ∷ m)) l)
        go ih true k = rw (k, e)
        go ih false k = rw k (none x m k ∙ ih)

  -- ---- the place that is sought from i on
  abbrev pub from : (A → Bool) → List A → ℕ → ℕ
  from q l i = seek q i (drop i l)

  module _ (q : A → Bool) (l : List A) (i : ℕ) where
    pub from_low : i ≤ from q l i
    from_low = (seek_within q (drop i l) i).0

    pub from_high : i ≤ length l → from q l i ≤ length l
    from_high h = let a = (seek_within q (drop i l) i).1 in let b = length-drop i l in omega arith

    pub from_holds : (d : A) → from q l i < length l → q (get_or l (from q l i) d) ≡ true
    from_holds d h = sought q d l (drop i l) i refl h

    -- a search for p may go on at the next q where p implies q
    pub from_skips : (p : A → Bool) → ((r : A) → p r ≡ true → q r ≡ true)
        → seek p i (drop i l) ≡ seek p (from q l i) (drop (from q l i) l)
    from_skips p imp = skipped p q l imp (drop i l) i refl

    -- and so may what gathers nothing of the others
    pub from_passes : {M : Type 0} (F : List A → M) → ((x : A) (m : List A) → q x ≡ false → F (x ∷ m) ≡ F m)
        → F (drop i l) ≡ F (drop (from q l i) l)
    from_passes F none = passed F q l none (drop i l) i refl

module _ {A : Type 0} (q : A → Bool) (d : A) (l : List A) where
  not_past : (n s i : ℕ) → s + n ≡ i → i < length l → q (get_or l i d) ≡ true → from q l s ≤ i
  not_past zero s i e h t =
      let z : s ≡ i = sym (add-zero s) ∙ e in
      let y = seek_here q i l d h t in
      rw z (omega arith)
  not_past (suc n) s i e h t = go (not_past n (s + 1) i (omega arith) h t) (q (get_or l s d)) refl
    where
      go : from q l (s + 1) ≤ i → (u : Bool) → q (get_or l s d) ≡ u → from q l s ≤ i
      go ih true k = let y = seek_here q s l d (omega arith) k in omega arith
      go ih false k = let y = seek_later q s l d (omega arith) k in omega arith

  -- a search from s on does not go past what it looks for
  pub from_most : (s i : ℕ) → s ≤ i → i < length l → q (get_or l i d) ≡ true → from q l s ≤ i
  from_most s i a h t = not_past (i - s) s i (omega arith) h t

  -- and so finds nothing where it goes by
  pub from_clear : (s i : ℕ) → s ≤ i → i < from q l s → i < length l → q (get_or l i d) ≡ false
  from_clear s i a b h = go (q (get_or l i d)) refl
    where
      go : (u : Bool) → q (get_or l i d) ≡ u → q (get_or l i d) ≡ false
      go true k = let y = from_most s i a h k in absurd (omega arith)
      go false k = k

-- ---- what a walk sees of each element
module _ {A B : Type 0} (g : A → B) where
  pub drop_map : (i : ℕ) (l : List A) → drop i (map g l) ≡ map g (drop i l)
  drop_map zero l = refl
  drop_map (suc i) [] = refl
  drop_map (suc i) (x ∷ l) = drop_map i l

  pub seek_map : (p : B → Bool) (i : ℕ) (l : List A) → seek (λ x. p (g x)) i l ≡ seek p i (map g l)
  unfolding seek
  seek_map p i [] = refl
  seek_map p i (x ∷ l) = go (seek_map p (i + 1) l) (p (g x)) refl
    where
      go : seek (λ x. p (g x)) (i + 1) l ≡ seek p (i + 1) (map g l) → (t : Bool) → p (g x) ≡ t
          → seek (λ x. p (g x)) i (x ∷ l) ≡ seek p i (map g (x ∷ l))
      go ih true e = rw e
      go ih false e = rw e ih

  -- where it sees the same of another, that may be put
  pub map_alike : (d : A) (l : List A) (j : ℕ) (r : A) → (j < length l → g r ≡ g (get_or l j d))
      → map g (set l j r) ≡ map g l
  map_alike d l j r k = go (ltb j (length l)) refl
    where
      go : (t : Bool) → ltb j (length l) ≡ t → map g (set l j r) ≡ map g l
      go true e = map-set_same g l j r d (k (ltb-true j (length l) e))
      go false e = rw (set_out l j r (ltb-false j (length l) e))

pub from_alike : {A : Type 0} (q : A → Bool) (d : A) (l : List A) (j : ℕ) (r : A)
    → (j < length l → q r ≡ q (get_or l j d)) → (i : ℕ) → from q (set l j r) i ≡ from q l i
from_alike q d l j r h i =
    let truth : (m : List _) → from q m i ≡ seek (λ t. t) i (drop i (map q m)) =
    λ m. seek_map q (λ t. t) i (drop i m) ∙ rw (drop_map q i m)
    in
    truth (set l j r) ∙ rw (map_alike q d l j r h) (sym (truth l))
