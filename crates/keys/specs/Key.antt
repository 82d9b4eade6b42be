-- A row's key. The table of the kinds marks which fields are the key's; "the rows by kind and then key, its fields in
-- grid order as numbers, symbols byte by byte". That order is the order of one number. Assumes nothing.
use Rattle.std.specs.Prelude.{Bool, true, false, cond, ◌&&◌, ◌||◌, List, [], ◌∷◌, ℕ, ◌+◌, ◌*◌, ◌^◌, eqb}
use Rattle.record.specs.Symbol.{no_symbol, same_symbol, symbol_base, symbol_number}
use Rattle.record.specs.declared.row.Row.{Row}
use Rattle.rules.specs.Ranges.{flags, form, id, m2, n1, party, status, symbol}
use Rattle.rules.specs.Rules.{Kind, kinds}
use Rattle.keys.specs.declared.Key.{Key}

abbrev pub among_from : Bool → ℕ → List ℕ → Bool
among_from b k [] = b
among_from b k (j ∷ js) = among_from (b || eqb k j) k js

-- k is one of these
abbrev pub among : ℕ → List ℕ → Bool
among k [] = false
among k (j ∷ js) = among_from (eqb k j) k js

-- the kinds whose key has the field, read off the table
abbrev kept : Bool → ℕ → List ℕ → List ℕ
kept true k ks = k ∷ ks
kept false k ks = ks

abbrev kinds_by : ℕ → List Kind → List ℕ
kinds_by f [] = []
kinds_by f (k ∷ ks) = kept (among f k.key) k.number (kinds_by f ks)

abbrev pub by_form : List ℕ
by_form = kinds_by form kinds

abbrev pub by_status : List ℕ
by_status = kinds_by status kinds

abbrev pub by_flags : List ℕ
by_flags = kinds_by flags kinds

abbrev pub by_party : List ℕ
by_party = kinds_by party kinds

abbrev pub by_id : List ℕ
by_id = kinds_by id kinds

abbrev pub by_symbol : List ℕ
by_symbol = kinds_by symbol kinds

abbrev pub by_n1 : List ℕ
by_n1 = kinds_by n1 kinds

abbrev pub by_m2 : List ℕ
by_m2 = kinds_by m2 kinds

unfoldable pub key_of : Row → Key
key_of r = record {
  kind = r.kind;
  form = cond (among r.kind by_form) r.form 0;
  status = cond (among r.kind by_status) r.status 0;
  flags = cond (among r.kind by_flags) r.flags 0;
  party = cond (among r.kind by_party) r.party 0;
  id = cond (among r.kind by_id) r.id 0;
  symbol = cond (among r.kind by_symbol) r.symbol no_symbol;
  n1 = cond (among r.kind by_n1) r.n1 0;
  m2 = cond (among r.kind by_m2) r.m2 0;
}

unfoldable pub same_key : Key → Key → Bool
same_key a b =
    eqb a.kind b.kind && eqb a.form b.form && eqb a.status b.status && eqb a.flags b.flags
    && eqb a.party b.party && eqb a.id b.id && same_symbol a.symbol b.symbol && eqb a.n1 b.n1
    && eqb a.m2 b.m2

-- the key as one number: its fields as digits, each in the base of its width
unfoldable pub key_number : Key → ℕ
key_number k =
    (((((((k.kind * 2 ^ 8 + k.form) * 2 ^ 8 + k.status) * 2 ^ 8 + k.flags) * 2 ^ 32 + k.party) * 2 ^ 64 + k.id)
    * symbol_base + symbol_number k.symbol) * 2 ^ 32 + k.n1) * 2 ^ 64 + k.m2
