-- The places of a list, chained by a number of each element, in one array: the heads, `size` of them, and then a link
-- for each place. The places are put in from the last to the first, so a chain runs by rising place, and each entry is
-- one equation: the next place from here on with this number, the list's end where there is none. Assumes nothing.
use Rattle.std.specs.Prelude.{◌≡◌, refl, Bool, List, map, ℕ, ◌+◌, ◌≤◌, ◌<◌, length, drop, get_or, set}
use Rattle.std.proofs.Math.Path.{sym}
use Rattle.std.proofs.Common.{◌∙◌, get_or-set_same}
use Rattle.std.proofs.Math.Bool.{true, false}
use native.Mathlib.Omega.{arith}
use Rattle.std.proofs.Math.Dec.{eqb}
use Rattle.std.proofs.Math.ListN.{length-set, get_or-map}
use Rattle.std.proofs.Math.Seq.{get_or-set_other}
use borrow.Author.Tests.{eq-eqb, ne_eqb, eqb-true, eqb-false}
use Rattle.laws.specs.Walk.{drop_map, from, map_alike, seek_end, seek_here, seek_later, seek_map}

-- the elements of number h
unfoldable pub numbered : {A : Type 0} → (A → ℕ) → ℕ → A → Bool
numbered g h r = eqb (g r) h

pub record Chained {A : Type 0} (g : A → ℕ) (d : A) (size : ℕ) (l : List A) (t : List ℕ) (i : ℕ) : Type 0 where
  pub heads : (h : ℕ) → h < size → get_or t h 0 ≡ from (numbered g h) l i
  pub links : (j : ℕ) → i ≤ j → j < length l → get_or t (size + j) 0 ≡ from (numbered g (g (get_or l j d))) l (j + 1)

module _ {A : Type 0} (g : A → ℕ) (d : A) (size : ℕ) (l : List A) where
  pub chain_start : (t : List ℕ) (i : ℕ) → length l ≡ i → ((h : ℕ) → h < size → get_or t h 0 ≡ i)
      → Chained g d size l t i
  chain_start t i e a = record {
    heads = λ h k. a h k ∙ sym (seek_end (numbered g h) i l (omega arith));
    links = λ j a b. absurd (omega arith);
  }

  has : (r : A) (h : ℕ) → h ≡ g r → numbered g h r ≡ true
  unfolding numbered
  has r h e = eq-eqb (g r) h (sym e)

  lacks : (r : A) (h : ℕ) → (h ≡ g r → ⊥) → numbered g h r ≡ false
  unfolding numbered
  lacks r h e = ne_eqb (g r) h (λ q. e (sym q))

  module _ (t : List ℕ) (j h : ℕ) (s : Chained g d size l t (j + 1)) (inside : j < length l) (mine : h ≡ g (get_or l j d))
      (z : h < size) (room : size + j < length t) where
    linked : List ℕ
    linked = set t (size + j) (get_or t h 0)

    more_heads : (k : ℕ) → k < size → (b : Bool) → eqb k h ≡ b → get_or (set linked h j) k 0 ≡ from (numbered g k) l j
    unfolding linked
    more_heads k a true e =
        let m = eqb-true k h e in
        rw m (get_or-set_same linked h j 0 (rw length-set (omega arith))
        ∙ sym (seek_here (numbered g h) j l d inside (has (get_or l j d) h mine)))
    more_heads k a false e =
        let m = eqb-false k h e in
        get_or-set_other linked h k j 0 m ∙ get_or-set_other t (size + j) k (get_or t h 0) 0 (λ q. omega arith) ∙ s.heads k a
        ∙ sym (seek_later (numbered g k) j l d inside (lacks (get_or l j d) k (λ q. m (q ∙ sym mine))))

    more_links : (k : ℕ) → j ≤ k → k < length l → (b : Bool) → eqb k j ≡ b
        → get_or (set linked h j) (size + k) 0 ≡ from (numbered g (g (get_or l k d))) l (k + 1)
    unfolding linked
    more_links k a b true e =
        let m = eqb-true k j e in
        get_or-set_other linked h (size + k) j 0 (λ q. omega arith)
        ∙ rw (m, ← mine) (get_or-set_same t (size + j) (get_or t h 0) 0 room ∙ s.heads h z)
    more_links k a b false e =
        let m = eqb-false k j e in
        let o : j + 1 ≤ k = let f : (k ≡ j → ⊥) = m in omega arith in
        get_or-set_other linked h (size + k) j 0 (λ q. omega arith)
        ∙ get_or-set_other t (size + j) (size + k) (get_or t h 0) 0 (λ q. omega arith) ∙ s.links k o b

    pub chain_more : Chained g d size l (set (set t (size + j) (get_or t h 0)) h j) j
    unfolding linked
    chain_more = record {
      heads = λ k a. more_heads k a (eqb k h) refl;
      links = λ k a b. more_links k a b (eqb k j) refl;
    }

-- ---- a chain knows the elements by their numbers alone
module _ {A : Type 0} (g : A → ℕ) (d : A) (size : ℕ) (l : List A) where
  from_numbers : (h i : ℕ) (m : List A) → from (numbered g h) m i ≡ from (λ n. eqb n h) (map g m) i
  unfolding numbered
  from_numbers h i m = seek_map g (λ n. eqb n h) i (drop i m) ∙ rw (drop_map g i m)

  -- an element may give way to another of its number
  pub chain_put : {t : List ℕ} {i : ℕ} → Chained g d size l t i → (j : ℕ) (r : A)
      → (j < length l → g r ≡ g (get_or l j d)) → Chained g d size (set l j r) t i
  chain_put {t} {i} s j r k =
      let same = map_alike g d l j r k in
      let next : (h c : ℕ) → from (numbered g h) l c ≡ from (numbered g h) (set l j r) c =
      λ h c. from_numbers h c l ∙ rw (← same) (sym (from_numbers h c (set l j r)))
      in
      let number : (c : ℕ) → g (get_or l c d) ≡ g (get_or (set l j r) c d) =
      λ c. sym (get_or-map g l c d) ∙ rw (← same) (get_or-map g (set l j r) c d)
      in
      record {
        heads = λ h z. s.heads h z ∙ next h i;
        links = λ c a b. s.links c a (rw length-set at b) ∙ rw (number c) (next (g (get_or (set l j r) c d)) (c + 1));
      }
