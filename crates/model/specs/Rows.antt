-- "A book is a run of 64-byte records without a header, 1 to 4,096 of them. A record of 64 zeros is free." A book is
-- read as its rows, place by place, free ones too. Assumes nothing.
use Rattle.std.specs.Prelude.{Bool, ◌&&◌, List, map, ℕ, ◌*◌, ◌%◌, eqb, leb}
use Rattle.laws.specs.Chunk.{chunk, joined}
use Rattle.laws.specs.Search.{the, count}
use Rattle.record.specs.Grid.{decode, encode}
pub use Rattle.record.specs.Grid.{places, record_size}
use Rattle.keys.specs.Key.{key_of, same_key}
use Rattle.record.specs.Symbol.{no_symbol, same_symbol}
use Rattle.record.specs.declared.row.Row.{Row}
use Rattle.keys.specs.declared.Key.{Key}

abbrev pub most_records : ℕ
most_records = 4_096

unfoldable pub rows : List ℕ → List Row
rows b = map decode (chunk record_size (places b) b)

unfoldable pub bytes : List Row → List ℕ
bytes rs = joined (map encode rs)

-- 1 to `most` whole records
unfoldable pub whole_records : ℕ → ℕ → Bool
whole_records most n = leb record_size n && eqb (n % record_size) 0 && leb n (most * record_size)

-- the row of a free record
abbrev pub nothing : Row
nothing = record {
  kind = 0;
  form = 0;
  status = 0;
  flags = 0;
  party = 0;
  id = 0;
  symbol = no_symbol;
  n1 = 0;
  n2 = 0;
  n3 = 0;
  n4 = 0;
  m1 = 0;
  m2 = 0;
  time = 0;
  n5 = 0;
}

unfoldable pub same_row : Row → Row → Bool
same_row a b =
    eqb a.kind b.kind && eqb a.form b.form && eqb a.status b.status && eqb a.flags b.flags
    && eqb a.party b.party && eqb a.id b.id && same_symbol a.symbol b.symbol && eqb a.n1 b.n1
    && eqb a.n2 b.n2 && eqb a.n3 b.n3 && eqb a.n4 b.n4 && eqb a.m1 b.m1 && eqb a.m2 b.m2
    && eqb a.time b.time && eqb a.n5 b.n5

-- the row is of this kind
abbrev pub is : ℕ → Row → Bool
is k r = eqb r.kind k

-- the row has this key
unfoldable pub has_key : Key → Row → Bool
has_key k r = same_key (key_of r) k

-- the row of a key, nothing where there is none
unfoldable pub found : Key → List Row → Row
found k rs = the (has_key k) nothing rs

unfoldable pub there : Key → List Row → Bool
there k rs = leb 1 (count (has_key k) rs)
