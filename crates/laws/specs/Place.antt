-- Finds and counts by the place of the first that passes. Assumes nothing.
use Rattle.std.specs.Prelude.{◌≡◌, Bool, length}
use Rattle.std.proofs.Math.Path.{refl, sym}
use Rattle.std.proofs.Common.{◌∙◌, arith}
use Rattle.std.proofs.Math.Bool.{true, false}
use Rattle.std.proofs.lemmas.Bool.{false≢true}
use mathlib.Core.List.{List, [], ◌∷◌}
use Prim.Native.Nat.{ℕ, zero, suc, ◌+◌, ◌<◌}
use Rattle.std.proofs.Math.Nat.{zero-add}
use Rattle.std.proofs.Math.Numerals.{add-one}
use Rattle.std.proofs.Math.Dec.{leb, ltb, leb-suc-suc}
use Rattle.std.proofs.Math.ListN.{get_or}
use borrow.Author.Tests.{le-leb, lt-ltb}
use Rattle.laws.specs.Search.{count, every, place, seek, the, total}
use Rattle.laws.specs.Tests.{and_both, and_left, and_right}

module _ {A : Type 0} where
  pub seek_suc : (p : A → Bool) (i : ℕ) (l : List A) → seek p (suc i) l ≡ suc (seek p i l)
  unfolding seek
  seek_suc p i [] = refl
  seek_suc p i (x ∷ l) = go (p x) refl (seek_suc p (suc i) l)
    where
      go : (t : Bool) → p x ≡ t → seek p (suc (suc i)) l ≡ suc (seek p (suc i) l)
          → seek p (suc i) (x ∷ l) ≡ suc (seek p i (x ∷ l))
      go true e ih = rw e
      go false e ih = rw (e, add-one i, add-one (suc i)) ih

  -- the first that passes stands at its place
  pub the_place : (p : A → Bool) (d : A) (l : List A) → the p d l ≡ get_or l (place p l) d
  unfolding the seek
  the_place p d [] = refl
  the_place p d (x ∷ l) = go (p x) refl (the_place p d l)
    where
      go : (t : Bool) → p x ≡ t → the p d l ≡ get_or l (place p l) d
          → the p d (x ∷ l) ≡ get_or (x ∷ l) (place p (x ∷ l)) d
      go true e ih = rw e
      go false e ih = rw (e, seek_suc p 0 l) ih

  pub the_passes : (p : A → Bool) (d : A) (l : List A) → leb 1 (count p l) ≡ true → p (the p d l) ≡ true
  unfolding the count total
  the_passes p d [] h = absurd (false≢true h)
  the_passes p d (x ∷ l) h = go (the_passes p d l) (p x) refl
    where
      go : (leb 1 (count p l) ≡ true → p (the p d l) ≡ true) → (t : Bool) → p x ≡ t → p (the p d (x ∷ l)) ≡ true
      go ih true e = rw e e
      go ih false e = rw e (ih (rw (e, zero-add (count p l)) at h))

  pub the_none : (p : A → Bool) (d : A) (l : List A) → leb 1 (count p l) ≡ false → the p d l ≡ d
  unfolding the count total
  the_none p d [] h = refl
  the_none p d (x ∷ l) h = go (the_none p d l) (p x) refl
    where
      go : (leb 1 (count p l) ≡ false → the p d l ≡ d) → (t : Bool) → p x ≡ t → the p d (x ∷ l) ≡ d
      go ih true e = absurd (false≢true (sym (rw e at h) ∙ le-leb 1 (1 + count p l) (omega arith)))
      go ih false e = rw e (ih (rw (e, zero-add (count p l)) at h))

  -- some pass where the place is not the end
  pub some_place : (p : A → Bool) (l : List A) → leb 1 (count p l) ≡ ltb (place p l) (length l)
  unfolding count total seek
  some_place p [] = refl
  some_place p (x ∷ l) = go (p x) refl (some_place p l)
    where
      go : (t : Bool) → p x ≡ t → leb 1 (count p l) ≡ ltb (place p l) (length l)
          → leb 1 (count p (x ∷ l)) ≡ ltb (place p (x ∷ l)) (length (x ∷ l))
      go true e ih =
          rw e (le-leb 1 (1 + count p l) (omega arith) ∙ sym (lt-ltb 0 (suc (length l)) (omega arith)))
      go false e ih = rw (e, seek_suc p 0 l, zero-add) (ih ∙ sym (leb-suc-suc (suc (place p l)) (length l)))

  pub every_at : (p : A → Bool) (d : A) (l : List A) (i : ℕ) → every p l ≡ true → i < length l → p (get_or l i d) ≡ true
  unfolding every
  every_at p d [] i e h = absurd (omega arith)
  every_at p d (x ∷ l) zero e h = and_left (p x) (every p l) e
  every_at p d (x ∷ l) (suc i) e h = every_at p d l i (and_right (p x) (every p l) e) (omega arith)

  pub every_place : (p : A → Bool) (d : A) (l : List A) → ((j : ℕ) → j < length l → p (get_or l j d) ≡ true)
      → every p l ≡ true
  unfolding every
  every_place p d [] h = refl
  every_place p d (x ∷ l) h =
      and_both (p x) (every p l) (h 0 (omega arith)) (every_place p d l (λ j k. h (suc j) (omega arith)))
