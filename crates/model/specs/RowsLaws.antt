-- A book's bytes are those of its rows: a call that is accepted and posts nothing leaves every byte of the book.
-- Assumes nothing.
use Rattle.std.specs.Prelude.{◌≡◌, true, ◌&&◌, List, [], ◌∷◌, ◌++◌, map, ℕ, zero, suc, ◌+◌, ◌*◌, ◌%◌, eqb, leb, length, take, drop}
use Rattle.std.proofs.Common.{sym, ap₂, ◌∙◌, zero-mul, suc-mul, arith, lit<, length-take, length-drop, take-append-drop, get_or-drop, eqb-true}
use Rattle.laws.specs.Chunk.{chunk, joined}
use Rattle.laws.specs.Lists.{listed_is}
use Rattle.laws.specs.Tests.{and_left, and_right}
use Rattle.record.specs.Bytes.{Bytes}
use Rattle.record.specs.Grid.{decode, encode, encode_decode}
use Rattle.model.specs.Rows.{bytes, places, rows, whole_records}

bytes_take : (n : ℕ) (b : List ℕ) → Bytes b → Bytes (take n b)
bytes_take zero b h i = lit< tt
bytes_take (suc n) [] h i = lit< tt
bytes_take (suc n) (x ∷ b) h zero = h 0
bytes_take (suc n) (x ∷ b) h (suc i) = bytes_take n b (λ j. h (suc j)) i

parts_back : (n : ℕ) (b : List ℕ) → length b ≡ n * 64 → Bytes b
    → joined (map encode (map decode (chunk 64 n b))) ≡ b
unfolding chunk joined
parts_back zero b l h = sym (listed_is 0 0 b (l ∙ zero-mul 64))
parts_back (suc n) b l h =
    let k : length b ≡ n * 64 + 64 = l ∙ suc-mul n 64 in
    let one = encode_decode (take 64 b) (simp length-take (omega arith)) (bytes_take 64 b h) in
    let rest = parts_back n (drop 64 b) (simp length-drop (omega arith)) (λ i. rw get_or-drop (h (64 + i))) in
    ap₂ (λ (x y : List ℕ). x ++ y) one rest ∙ take-append-drop 64 b

pub bytes_rows : (most : ℕ) (b : List ℕ) → whole_records most (length b) ≡ true → Bytes b → bytes (rows b) ≡ b
unfolding rows bytes whole_records
bytes_rows most b e h =
    let n = length b in
    let whole = and_left (leb 64 n && eqb (n % 64) 0) (leb n (most * 64)) e in
    let even = eqb-true (n % 64) 0 (and_right (leb 64 n) (eqb (n % 64) 0) whole) in
    parts_back (places b) b (omega arith) h
