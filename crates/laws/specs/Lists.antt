-- A list of known length, written out; a list copied from the front. Assumes nothing.
use Rattle.std.specs.Prelude.{◌≡◌, List, [], ◌∷◌, ℕ, zero, suc, ◌+◌, ◌≤◌, ◌<◌, length, get_or, set, take, drop}
use Rattle.std.proofs.Common.{sym, ap, ◌∙◌, add-one, arith, drop_of_length-le, drop-cons, take-suc, take-suc-set, take_all}

module _ {A : Type 0} (d : A) where
  -- the k elements from a on; at a numeral it computes
  abbrev pub listed : ℕ → ℕ → List A → List A
  listed zero a l = []
  listed (suc k) a l = get_or l a d ∷ listed k (suc a) l

  listed_drop : (k a : ℕ) (l : List A) → a + k ≡ length l → drop a l ≡ listed k a l
  listed_drop zero a l h = drop_of_length-le l {i = a} (omega arith)
  listed_drop (suc k) a l h =
      drop-cons l a d (omega arith) ∙ ap (λ (r : List A). get_or l a d ∷ r) (listed_drop k (suc a) l (omega arith))

  pub listed_is : (k : ℕ) (l : List A) → length l ≡ k → l ≡ listed k 0 l
  listed_is k l h = listed_drop k 0 l (omega arith)

module _ {A : Type 0} where
  -- a copy that has come to place i: one more element is copied, or all are
  pub copy_step : (t f : List A) (i : ℕ) (d : A) → i < length t → i < length f → take i t ≡ take i f
      → take (i + 1) (set t i (get_or f i d)) ≡ take (i + 1) f
  copy_step t f i d h k e = rw (add-one, take-suc-set t i (get_or f i d) h, take-suc f i d k, e)

  pub copy_done : (t f : List A) (i : ℕ) → length t ≤ i → length f ≤ i → take i t ≡ take i f → t ≡ f
  copy_done t f i h k e = sym (take_all i t h) ∙ e ∙ take_all i f k
