-- "From byte 0, one byte each: kind, type, status, flags. Party 4 (four bytes), id 8, symbol 16 (eight each), n1 24,
-- n2 28, n3 32, n4 36 (four each), m1 40, m2 48 (eight each), time 56, n5 60 (four each)." Assumes nothing.
use Rattle.std.specs.Prelude.{◌≡◌, refl, List, [], ◌∷◌, ◌++◌, ℕ, ◌/◌, ◌^◌, ◌<◌, length, get_or}
use Rattle.std.proofs.Common.{sym, ap, ◌∙◌, mod-eq_of_lt}
use Rattle.std.proofs.lemmas.List.Edits.{sets}
use Rattle.laws.specs.Lists.{listed_is}
use Rattle.record.specs.Bytes.{le, bytes_of, stored, Bytes, low_first_holds, high_first_holds, bytes_le, spelt_be}
use Rattle.record.specs.Symbol.{numbered, symbol_at, symbol_base, symbol_bytes, symbol_long, symbol_number}
use Rattle.record.specs.declared.row.Row.{Row}

abbrev pub record_size : ℕ
record_size = 64

-- how many records a run of bytes holds
abbrev pub places : List ℕ → ℕ
places b = length b / record_size

-- the row of a record's bytes
unfoldable pub decode : List ℕ → Row
decode l = record {
  kind = get_or l 0 0;
  form = get_or l 1 0;
  status = get_or l 2 0;
  flags = get_or l 3 0;
  party = le 4 l 4;
  id = le 8 l 8;
  symbol = symbol_at l 16;
  n1 = le 4 l 24;
  n2 = le 4 l 28;
  n3 = le 4 l 32;
  n4 = le 4 l 36;
  m1 = le 8 l 40;
  m2 = le 8 l 48;
  time = le 4 l 56;
  n5 = le 4 l 60;
}

-- the record of a row
unfoldable pub encode : Row → List ℕ
encode r =
    bytes_of 1 r.kind ++ bytes_of 1 r.form ++ bytes_of 1 r.status ++ bytes_of 1 r.flags
    ++ bytes_of 4 r.party ++ bytes_of 8 r.id ++ symbol_bytes r.symbol
    ++ bytes_of 4 r.n1 ++ bytes_of 4 r.n2 ++ bytes_of 4 r.n3 ++ bytes_of 4 r.n4
    ++ bytes_of 8 r.m1 ++ bytes_of 8 r.m2 ++ bytes_of 4 r.time ++ bytes_of 4 r.n5

pub length_encode : (r : Row) → length (encode r) ≡ 64
unfolding encode
length_encode r = refl

-- the fields written in turn over any 64 elements
unfoldable pub written : List ℕ → Row → List ℕ
written l r =
    let a = stored (stored (stored (stored l 0 1 r.kind) 1 1 r.form) 2 1 r.status) 3 1 r.flags in
    let b = sets (stored (stored a 4 4 r.party) 8 8 r.id) 16 (symbol_bytes r.symbol) in
    let c = stored (stored (stored (stored b 24 4 r.n1) 28 4 r.n2) 32 4 r.n3) 36 4 r.n4 in
    stored (stored (stored (stored c 40 8 r.m1) 48 8 r.m2) 56 4 r.time) 60 4 r.n5

pub written_is : (l : List ℕ) (r : Row) → length l ≡ 64 → written l r ≡ encode r
unfolding written encode stored
written_is l r h = rw (listed_is 0 64 l h)

-- ---- both round trips
-- each field is of its width
pub record Sized (r : Row) : Type 0 where
  pub kind : r.kind < 2 ^ 8
  pub form : r.form < 2 ^ 8
  pub status : r.status < 2 ^ 8
  pub flags : r.flags < 2 ^ 8
  pub party : r.party < 2 ^ 32
  pub id : r.id < 2 ^ 64
  pub symbol : symbol_number r.symbol < symbol_base
  pub n1 : r.n1 < 2 ^ 32
  pub n2 : r.n2 < 2 ^ 32
  pub n3 : r.n3 < 2 ^ 32
  pub n4 : r.n4 < 2 ^ 32
  pub m1 : r.m1 < 2 ^ 64
  pub m2 : r.m2 < 2 ^ 64
  pub time : r.time < 2 ^ 32
  pub n5 : r.n5 < 2 ^ 32

pub row_eq : {a b : Row}
    → a.kind ≡ b.kind
    → a.form ≡ b.form
    → a.status ≡ b.status
    → a.flags ≡ b.flags
    → a.party ≡ b.party
    → a.id ≡ b.id
    → a.symbol ≡ b.symbol
    → a.n1 ≡ b.n1
    → a.n2 ≡ b.n2
    → a.n3 ≡ b.n3
    → a.n4 ≡ b.n4
    → a.m1 ≡ b.m1
    → a.m2 ≡ b.m2
    → a.time ≡ b.time
    → a.n5 ≡ b.n5
    → a ≡ b
row_eq e0 e1 e2 e3 e4 e5 e6 e7 e8 e9 e10 e11 e12 e13 e14 = λ i. record {
  kind = e0 i;
  form = e1 i;
  status = e2 i;
  flags = e3 i;
  party = e4 i;
  id = e5 i;
  symbol = e6 i;
  n1 = e7 i;
  n2 = e8 i;
  n3 = e9 i;
  n4 = e10 i;
  m1 = e11 i;
  m2 = e12 i;
  time = e13 i;
  n5 = e14 i;
}

-- what was written is read
pub decode_encode : (r : Row) → Sized r → decode (encode r) ≡ r
unfolding decode encode
decode_encode r f =
    row_eq
    (mod-eq_of_lt f.kind)
    (mod-eq_of_lt f.form)
    (mod-eq_of_lt f.status)
    (mod-eq_of_lt f.flags)
    (low_first_holds 4 r.party f.party)
    (low_first_holds 8 r.id f.id)
    (ap numbered (high_first_holds symbol_long (symbol_number r.symbol) f.symbol))
    (low_first_holds 4 r.n1 f.n1)
    (low_first_holds 4 r.n2 f.n2)
    (low_first_holds 4 r.n3 f.n3)
    (low_first_holds 4 r.n4 f.n4)
    (low_first_holds 8 r.m1 f.m1)
    (low_first_holds 8 r.m2 f.m2)
    (low_first_holds 4 r.time f.time)
    (low_first_holds 4 r.n5 f.n5)

one_byte : (x : ℕ) → x < 256 → bytes_of 1 x ≡ x ∷ []
one_byte x h = ap (λ (y : ℕ). y ∷ []) (mod-eq_of_lt h)

-- what was read is written
pub encode_decode : (l : List ℕ) → length l ≡ 64 → Bytes l → encode (decode l) ≡ l
unfolding encode decode
encode_decode l h b =
    let e0 = one_byte (get_or l 0 0) (b 0) in
    let e1 = one_byte (get_or l 1 0) (b 1) in
    let e2 = one_byte (get_or l 2 0) (b 2) in
    let e3 = one_byte (get_or l 3 0) (b 3) in
    let e4 = bytes_le 4 4 l b in
    let e5 = bytes_le 8 8 l b in
    let e6 = spelt_be symbol_long 16 l b in
    let e7 = bytes_le 4 24 l b in
    let e8 = bytes_le 4 28 l b in
    let e9 = bytes_le 4 32 l b in
    let e10 = bytes_le 4 36 l b in
    let e11 = bytes_le 8 40 l b in
    let e12 = bytes_le 8 48 l b in
    let e13 = bytes_le 4 56 l b in
    let e14 = bytes_le 4 60 l b in
    (λ i. e0 i ++ e1 i ++ e2 i ++ e3 i ++ e4 i ++ e5 i ++ e6 i ++ e7 i ++ e8 i ++ e9 i ++ e10 i ++ e11 i ++ e12 i
    ++ e13 i ++ e14 i)
    ∙ sym (listed_is 0 64 l h)
