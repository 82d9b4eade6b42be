-- A list as parts of k elements; a part read, and a part written. Assumes nothing.
use Rattle.std.specs.Prelude.{◌≡◌, List, [], ◌∷◌, ◌++◌, map, take, drop, get_or, set}
use Rattle.std.proofs.Math.Path.{refl, ap}
use Rattle.std.proofs.Common.{◌∙◌, append_assoc, add_comm, le_of_suc-le-suc, not-suc-le-zero, arith, length-append, length-take, drop-drop, take-add}
use Prim.Native.Nat.{ℕ, zero, suc, ◌+◌, ◌*◌, ◌≤◌, ◌<◌}
use Rattle.std.proofs.Math.Nat.{zero-mul, suc-mul}
use Rattle.std.proofs.Math.ListN.{length, length-drop}
use Rattle.std.proofs.Math.Seq.{take_at, drop_at, length-take-le}

module _ {A : Type 0} where
  -- the first n parts of k elements
  unfoldable pub chunk : ℕ → ℕ → List A → List (List A)
  chunk k zero b = []
  chunk k (suc n) b = take k b ∷ chunk k n (drop k b)

  unfoldable pub joined : List (List A) → List A
  joined [] = []
  joined (x ∷ xs) = x ++ joined xs

  pub length_chunk : (k n : ℕ) (b : List A) → length (chunk k n b) ≡ n
  unfolding chunk
  length_chunk k zero b = refl
  length_chunk k (suc n) b = ap suc (length_chunk k n (drop k b))

  -- part number i
  abbrev pub part : ℕ → ℕ → List A → List A
  part k i b = take k (drop (i * k) b)

  part_suc : (k i : ℕ) (b : List A) → part k i (drop k b) ≡ part k (suc i) b
  part_suc k i b = rw (drop-drop, suc-mul, add_comm (i * k) k)

  pub chunk_at : (k n i : ℕ) (b : List A) → i < n → get_or (chunk k n b) i [] ≡ part k i b
  unfolding chunk
  chunk_at k zero i b h = absurd (not-suc-le-zero h)
  chunk_at k (suc n) zero b h = rw zero-mul
  chunk_at k (suc n) (suc i) b h = chunk_at k n i (drop k b) (le_of_suc-le-suc h) ∙ part_suc k i b

  -- b with v in the place of the k elements from a on, as a part that was lent comes back
  abbrev pub splice : ℕ → ℕ → List A → List A → List A
  splice a k v b = take a b ++ (v ++ drop k (drop a b))

  pub length_splice : (a k : ℕ) (v b : List A) → length v ≡ k → a + k ≤ length b → length (splice a k v b) ≡ length b
  length_splice a k v b e h = simp (length-append, length-take, length-drop) (omega arith)

  splice_suc : (k i : ℕ) (v b : List A) → splice (suc i * k) k v b ≡ take k b ++ splice (i * k) k v (drop k b)
  splice_suc k i v b = rw (suc-mul, add_comm (i * k) k, take-add, append_assoc, drop-drop (i * k) k b)

  pub chunk_splice : (k n i : ℕ) (v b : List A) → length v ≡ k → i < n → n * k ≤ length b
      → chunk k n (splice (i * k) k v b) ≡ set (chunk k n b) i v
  unfolding chunk
  chunk_splice k zero i v b e h l = absurd (not-suc-le-zero h)
  chunk_splice k (suc n) zero v b e h l = rw (zero-mul, take_at v (drop k b) k e, drop_at v (drop k b) k e)
  chunk_splice k (suc n) (suc i) v b e h l =
      let room : n * k + k ≤ length b = rw suc-mul at l in
      let t : length (take k b) ≡ k = length-take-le k b (omega arith) in
      let ih = chunk_splice k n i v (drop k b) e (le_of_suc-le-suc h) (simp length-drop (omega arith)) in
      let rest = splice (i * k) k v (drop k b) in
      rw (splice_suc k i v b, take_at (take k b) rest k t, drop_at (take k b) rest k t, ih)

pub map_set : {A B : Type 0} (f : A → B) (l : List A) (i : ℕ) (v : A) → map f (set l i v) ≡ set (map f l) i (f v)
map_set f [] i v = refl
map_set f (x ∷ l) zero v = refl
map_set {B = B} f (x ∷ l) (suc i) v = ap {B = List B} (λ r. f x ∷ r) (map_set f l i v)
