-- The next place of a list that passes a test, when one element gives way to another. Assumes nothing.
use Rattle.std.specs.Prelude.{◌≡◌, Bool, ℕ, ◌+◌, ◌≤◌, ◌<◌, ltb, length, drop, get_or, set}
use Rattle.std.proofs.Math.Path.{refl}
use Rattle.std.proofs.Common.{sym, ap, ◌∙◌, add-zero, arith, length-set, drop-drop, drop-set-lt, get_or-drop, get_or-set_same, get_or-set_other}
use Rattle.std.proofs.Math.Bool.{true, false}
use Rattle.std.proofs.lemmas.Bool.{false≢true}
use mathlib.Core.List.{List, [], ◌∷◌}
use Rattle.std.proofs.Math.Dec.{eqb}
use borrow.Author.Tests.{eqb-true, eqb-false, ltb-true, ltb-false}
use Rattle.laws.specs.Search.{seek}
use Rattle.laws.specs.Walk.{from, from_high, from_holds, from_low}

module _ {A : Type 0} (q : A → Bool) (d : A) (l : List A) where
  head : (i : ℕ) (m : List A) (x : A) → drop i l ≡ x ∷ m → get_or l i d ≡ x
  head i m x e =
      let a : get_or (drop i l) 0 d ≡ get_or l (i + 0) d = get_or-drop i l 0 d in
      rw add-zero at (sym a) ∙ rw e

  tail : (i : ℕ) (m : List A) (x : A) → drop i l ≡ x ∷ m → drop (i + 1) l ≡ m
  tail i m x e = sym (drop-drop 1 i l) ∙ rw e

  clear : (m : List A) (s : ℕ) → drop s l ≡ m → (i : ℕ) → s ≤ i → i < seek q s m → q (get_or l i d) ≡ false
  unfolding seek
  clear [] s e i a b = absurd (omega arith)
  clear (x ∷ m) s e i a b = go (clear m (s + 1) (tail s m x e) i) (q x) (eqb i s) refl refl
    where
      go : (s + 1 ≤ i → i < seek q (s + 1) m → q (get_or l i d) ≡ false) → (t u : Bool) → q x ≡ t → eqb i s ≡ u
          → q (get_or l i d) ≡ false
      go ih true u k n = absurd (let z : i < s = rw k at b in omega arith)
      go ih false true k n = rw (eqb-true i s n, head s m x e) k
      go ih false false k n = let f = eqb-false i s n in ih (omega arith) (rw k at b)

  -- none before it passes
  pub from_clear : (s i : ℕ) → s ≤ i → i < from q l s → q (get_or l i d) ≡ false
  from_clear s i a b = clear (drop s l) s refl i a b

  -- and this tells it
  from_is : (s c : ℕ) → s ≤ c → c ≤ length l → (c < length l → q (get_or l c d) ≡ true)
      → ((i : ℕ) → s ≤ i → i < c → q (get_or l i d) ≡ false) → from q l s ≡ c
  from_is s c a b here none =
      let f = from q l s in
      let low : s ≤ f = from_low q l s in
      let high : f ≤ length l = from_high q l s (omega arith) in
      let one : (f < c → ⊥) = λ h. false≢true (sym (none f low h) ∙ from_holds q l s d (omega arith)) in
      let two : (c < f → ⊥) = λ h. false≢true (sym (from_clear s c a h) ∙ here (omega arith)) in
      omega arith

-- ---- v is put at p
module _ {A : Type 0} (q : A → Bool) (d : A) (l : List A) (p : ℕ) (v : A) where
  -- a search that begins behind p
  pub next_behind : (s : ℕ) → p < s → from q (set l p v) s ≡ from q l s
  next_behind s h = rw (drop-set-lt s l p v h)

  other : (i : ℕ) (t : Bool) → (i ≡ p → ⊥) → q (get_or l i d) ≡ t → q (get_or (set l p v) i d) ≡ t
  other i t n e = ap q (get_or-set_other l p i v d n) ∙ e

  module _ (inside : p < length l) where
    same : (t : Bool) → q v ≡ t → q (get_or (set l p v) p d) ≡ t
    same t e = ap q (get_or-set_same l p v d inside) ∙ e

    high : (s : ℕ) → s ≤ p → from q l s ≤ length (set l p v)
    high s h = rw length-set (from_high q l s (omega arith))

    -- one that ends before p
    pub next_before : (s : ℕ) → from q l s < p → from q (set l p v) s ≡ from q l s
    next_before s h =
        let low = from_low q l s in
        from_is q d (set l p v) s (from q l s) low (high s (omega arith))
        (λ z. other (from q l s) true (λ e. omega arith) (from_holds q l s d (omega arith)))
        (λ i a b. other i false (λ e. omega arith) (from_clear q d l s i a b))

    -- v passes, and none before it does
    pub next_put : (s : ℕ) → q v ≡ true → s ≤ p → p ≤ from q l s → from q (set l p v) s ≡ p
    next_put s e a h =
        from_is q d (set l p v) s p a (rw length-set (omega arith)) (λ z. same true e)
        (λ i a b. other i false (λ e. omega arith) (from_clear q d l s i a (omega arith)))

    -- v does not pass, and p was found: the search goes on
    pub next_taken : (s : ℕ) → q v ≡ false → from q l s ≡ p → from q (set l p v) s ≡ from q l (p + 1)
    next_taken s e h =
        let low = from_low q l s in
        let low' = from_low q l (p + 1) in
        let next = from q l (p + 1) in
        from_is q d (set l p v) s next (omega arith) (rw length-set (from_high q l (p + 1) (omega arith)))
        (λ z. other next true (λ e. omega arith)
        (from_holds q l (p + 1) d (let y : next < length l = rw length-set at z in y)))
        (λ i a b. taken i a b (ltb i p) (eqb i p) refl refl)
      where
        taken : (i : ℕ) → s ≤ i → i < from q l (p + 1) → (t u : Bool) → ltb i p ≡ t → eqb i p ≡ u
            → q (get_or (set l p v) i d) ≡ false
        taken i a b t true k n = rw (eqb-true i p n) (same false e)
        taken i a b true false k n =
            let f = ltb-true i p k in
            other i false (eqb-false i p n) (from_clear q d l s i a (omega arith))
        taken i a b false false k n =
            let f = ltb-false i p k in
            let g : (i ≡ p → ⊥) = eqb-false i p n in
            other i false g (from_clear q d l (p + 1) i (omega arith) b)

-- what is found behind p is found from behind p
pub next_over : {A : Type 0} (q : A → Bool) (d : A) (l : List A) (p s : ℕ) → s ≤ p → p < length l → p < from q l s
    → from q l (p + 1) ≡ from q l s
next_over q d l p s a z h =
    from_is q d l (p + 1) (from q l s) (omega arith) (from_high q l s (omega arith))
    (λ z. from_holds q l s d z)
    (λ i b c. from_clear q d l s i (omega arith) c)

-- two tests that agree find the same
pub seek_same : {A : Type 0} (p q : A → Bool) → ((x : A) → p x ≡ q x) → (i : ℕ) (l : List A) → seek p i l ≡ seek q i l
unfolding seek
seek_same p q e i [] = refl
seek_same p q e i (x ∷ l) = rw (e x, seek_same p q e (i + 1) l)
