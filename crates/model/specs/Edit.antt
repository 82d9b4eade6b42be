-- A row made or changed field by field, those that are not named zero or as they were. Assumes nothing.
use Rattle.std.specs.Prelude.{List, [], ◌∷◌, ℕ, ℤ, get_or, set}
use Rattle.std.specs.Int.{w32, w64}
use Rattle.std.proofs.Common.{of_z}
use Rattle.record.specs.Symbol.{holding, numbered, symbol_number}
use Rattle.record.specs.declared.row.Row.{Row}
use Rattle.rules.specs.Ranges.{values}
use Rattle.model.specs.Rows.{nothing}

pub record Put : Type 0 where
  pub field : ℕ
  pub value : ℕ

infix 75 ◌≔◌
abbrev pub ◌≔◌ : ℕ → ℕ → Put
i ≔ x = record { field = i; value = x }

abbrev row_of : List ℕ → Row
row_of l = record {
  kind = get_or l 0 0;
  form = get_or l 1 0;
  status = get_or l 2 0;
  flags = get_or l 3 0;
  party = get_or l 4 0;
  id = get_or l 5 0;
  symbol = numbered (get_or l 6 0);
  n1 = get_or l 7 0;
  n2 = get_or l 8 0;
  n3 = get_or l 9 0;
  n4 = get_or l 10 0;
  m1 = get_or l 11 0;
  m2 = get_or l 12 0;
  time = get_or l 13 0;
  n5 = get_or l 14 0;
}

abbrev put_all : List ℕ → List Put → List ℕ
put_all l [] = l
put_all l (p ∷ ps) = put_all (set l p.field p.value) ps

abbrev pub changed : Row → List Put → Row
changed r ps = row_of (put_all (values r) ps)

abbrev pub new : List Put → Row
new ps = changed nothing ps

-- a signed number's bits
abbrev pub bits64 : ℤ → ℕ
bits64 z = of_z w64 z

abbrev pub bits32 : ℤ → ℕ
bits32 z = of_z w32 z

-- a number that an answer has in the bytes of the symbol
abbrev pub in_symbol : ℕ → ℕ
in_symbol x = symbol_number (holding x)
