-- A book's rows by place: the row read at a place, the rows after a row is put at one, and the lowest free place.
-- Assumes nothing.
use Rattle.std.specs.Prelude.{◌≡◌, refl, Bool, true, false, cond, List, [], ◌∷◌, ◌++◌, ◌⊎◌, ℕ, zero, suc, ◌+◌, ◌*◌, ◌/◌, ◌≤◌, ◌<◌, ltb, length, drop, take, get_or, set, replicate}
use Rattle.std.proofs.Common.{sym, ap, ◌∙◌, inl, inr, ⊎_elim, arith, lt-ltb, le-ltb, ltb-true, ltb-false, lit<}
use Rattle.std.proofs.Math.ListN.{get_or-map, get_or-eq_default}
use Rattle.std.proofs.Math.Seq.{set_out}
use Rattle.laws.specs.Chunk.{chunk, part, splice, chunk_at, chunk_splice, length_splice, map_set}
use Rattle.laws.specs.Search.{seek}
use Rattle.record.specs.Codes.{kind_free}
use Rattle.record.specs.Bytes.{Bytes}
use Rattle.record.specs.Grid.{decode, encode, decode_encode, encode_decode, length_encode, Sized}
use Rattle.record.specs.declared.row.Row.{Row}
use Rattle.model.specs.Rows.{is, nothing, places, record_size, rows}
use Rattle.facts.specs.Rows.{length_rows}

-- the row at a place, nothing past the end
abbrev pub row_at : List ℕ → ℕ → Row
row_at b i = get_or (rows b) i nothing

pub rows_at : (b : List ℕ) (i : ℕ) → i < length b / 64 → row_at b i ≡ decode (part 64 i b)
unfolding rows decode
rows_at b i h =
    get_or-map decode (chunk 64 (length b / 64) b) i [] ∙ ap decode (chunk_at 64 (length b / 64) i b h)

pub rows_past : (b : List ℕ) (i : ℕ) → length b / 64 ≤ i → row_at b i ≡ nothing
rows_past b i h = get_or-eq_default (rows b) nothing (rw length_rows h)

-- past the end a row is that of zeros
pub past_row : (b : List ℕ) (i : ℕ) → places b ≤ i → decode (replicate record_size 0) ≡ row_at b i
unfolding decode
past_row b i h = sym (rows_past b i h)

in_or_past : (i n : ℕ) → (i < n) ⊎ (n ≤ i)
in_or_past i n = go (ltb i n) refl
  where
    go : (t : Bool) → ltb i n ≡ t → (i < n) ⊎ (n ≤ i)
    go true e = inl (ltb-true i n e)
    go false e = inr (ltb-false i n e)

-- the book with a row put at a place; past the end nothing is put
unfoldable pub put_at : List ℕ → ℕ → Row → List ℕ
put_at b i r = cond (ltb i (length b / 64)) (splice (i * 64) 64 (encode r) b) b

pub put_at_in : (b : List ℕ) (i : ℕ) (r : Row) → i < length b / 64 → put_at b i r ≡ splice (i * 64) 64 (encode r) b
unfolding put_at
put_at_in b i r h = rw (lt-ltb i (length b / 64) h)

pub put_at_past : (b : List ℕ) (i : ℕ) (r : Row) → length b / 64 ≤ i → put_at b i r ≡ b
unfolding put_at
put_at_past b i r h = rw (le-ltb i (length b / 64) h)

length_in : (b : List ℕ) (i : ℕ) (r : Row) → i < length b / 64 → length (put_at b i r) ≡ length b
length_in b i r h = rw (put_at_in b i r h) (length_splice (i * 64) 64 (encode r) b (length_encode r) (omega arith))

pub length_put_at : (b : List ℕ) (i : ℕ) (r : Row) → length (put_at b i r) ≡ length b
length_put_at b i r = ⊎_elim (length_in b i r) (λ h. ap length (put_at_past b i r h)) (in_or_past i (length b / 64))

-- the rows after a record's bytes are put
rows_splice : (b : List ℕ) (i : ℕ) (l : List ℕ) → length l ≡ 64 → i < length b / 64
    → rows (splice (i * 64) 64 l b) ≡ set (rows b) i (decode l)
unfolding rows
rows_splice b i l z h =
    let parts = chunk 64 (length b / 64) b in
    let e = chunk_splice 64 (length b / 64) i l b z h (omega arith) in
    rw (length_splice (i * 64) 64 l b z (omega arith), e, map_set decode parts i l)

rows_in : (b : List ℕ) (i : ℕ) (r : Row) → Sized r → i < length b / 64 → rows (put_at b i r) ≡ set (rows b) i r
rows_in b i r z h =
    rw (put_at_in b i r h, rows_splice b i (encode r) (length_encode r) h, decode_encode r z)

rows_out : (b : List ℕ) (i : ℕ) (r : Row) → length b / 64 ≤ i → rows (put_at b i r) ≡ set (rows b) i r
rows_out b i r h = rw (put_at_past b i r h, set_out (rows b) i r (rw length_rows h))

rows_put : (b : List ℕ) (i : ℕ) (r : Row) → Sized r → rows (put_at b i r) ≡ set (rows b) i r
rows_put b i r z = ⊎_elim (rows_in b i r z) (rows_out b i r) (in_or_past i (length b / 64))

-- what a put promises of the bytes that it leaves
pub puts : {v : List ℕ} (b : List ℕ) (i : ℕ) (r : Row) → Sized r → v ≡ put_at b i r
    → (v ≡ put_at b i r) × (rows v ≡ set (rows b) i r)
puts b i r z e = (e, ap rows e ∙ rows_put b i r z)

-- what is put into a run of bytes are bytes
bytes_front : (l ys : List ℕ) → Bytes (l ++ ys) → Bytes l
bytes_front [] ys h i = lit< tt
bytes_front (x ∷ l) ys h zero = h 0
bytes_front (x ∷ l) ys h (suc i) = bytes_front l ys (λ j. h (suc j)) i

bytes_middle : (xs l ys : List ℕ) → Bytes (xs ++ (l ++ ys)) → Bytes l
bytes_middle [] l ys h = bytes_front l ys h
bytes_middle (x ∷ xs) l ys h = bytes_middle xs l ys (λ j. h (suc j))

pub bytes_put : (a k : ℕ) (l b : List ℕ) → Bytes (splice a k l b) → Bytes l
bytes_put a k l b h = bytes_middle (take a b) l (drop k (drop a b)) h

-- the same of a record's bytes, whose row this is
pub puts_record : {v : List ℕ} (b : List ℕ) (i : ℕ) {r : Row} (l : List ℕ) → i < length b / 64 → length l ≡ 64 → Bytes l
    → decode l ≡ r → v ≡ splice (i * 64) 64 l b → (v ≡ put_at b i r) × (rows v ≡ set (rows b) i r)
puts_record b i {r} l h z y e q =
    let same : encode r ≡ l = ap encode (sym e) ∙ encode_decode l z y in (
      q ∙ ap (λ x. splice (i * 64) 64 x b) (sym same) ∙ sym (put_at_in b i r h),
      ap rows q ∙ rows_splice b i l z h ∙ ap (set (rows b) i) e,
    )

-- the lowest free place from a place on; where there is none, the end, or that place if it is past the end
abbrev pub free_from : List Row → ℕ → ℕ
free_from rs i = seek (is kind_free) i (drop i rs)

-- the place after a place; past the end the place itself
unfoldable pub after : List Row → ℕ → ℕ
after rs i = cond (ltb i (length rs)) (i + 1) i

pub after_in : (b : List ℕ) (i : ℕ) → i < length b / 64 → i + 1 ≡ after (rows b) i
unfolding after
after_in b i h = rw (length_rows, lt-ltb i (length b / 64) h)

pub after_past : (b : List ℕ) (i : ℕ) → length b / 64 ≤ i → i ≡ after (rows b) i
unfolding after
after_past b i h = rw (length_rows, le-ltb i (length b / 64) h)
