-- The key of each kind of row that another names, and what a row names, read off the table of the kinds. Assumes
-- nothing.
use Rattle.std.specs.Prelude.{cond, List, [], ◌∷◌, map, ℕ, get_or}
use Rattle.record.specs.Codes.{kind_account, kind_broker, kind_cash, kind_charge, kind_customer, kind_lot, kind_permission}
use Rattle.record.specs.Codes.{kind_request, kind_security, kind_settlement, kind_summary, kind_tax_rate, kind_trade}
use Rattle.record.specs.Codes.{kind_trade_history}
use Rattle.record.specs.Symbol.{no_symbol}
use Rattle.record.specs.declared.row.Row.{Row}
use Rattle.keys.specs.Key as Table
use Rattle.keys.specs.Key.{among}
use Rattle.rules.specs.Ranges.{values}
use Rattle.rules.specs.Rules.{Kind, Name, kinds}
use Rattle.keys.specs.declared.Key.{Key}
use Rattle.record.specs.declared.symbol.Symbol.{Symbol}

abbrev pub key : ℕ → ℕ → ℕ → ℕ → ℕ → Symbol → ℕ → Key
key k f s p i y n = record {
  kind = k;
  form = f;
  status = s;
  flags = 0;
  party = p;
  id = i;
  symbol = y;
  n1 = n;
  m2 = 0;
}

abbrev pub by_party : ℕ → ℕ → Key
by_party k p = key k 0 0 p 0 no_symbol 0

abbrev pub by_id : ℕ → ℕ → Key
by_id k i = key k 0 0 0 i no_symbol 0

abbrev by_symbol : ℕ → Symbol → Key
by_symbol k s = key k 0 0 0 0 s 0

abbrev pub a_broker : ℕ → Key
a_broker n = by_party kind_broker n

abbrev pub a_customer : ℕ → Key
a_customer n = by_party kind_customer n

abbrev pub a_tax_rate : ℕ → Key
a_tax_rate n = by_party kind_tax_rate n

abbrev pub an_account : ℕ → Key
an_account n = by_party kind_account n

abbrev pub a_security : Symbol → Key
a_security s = by_symbol kind_security s

abbrev pub a_charge : ℕ → ℕ → Key
a_charge form tier = key kind_charge form tier 0 0 no_symbol 0

abbrev pub a_trade : ℕ → Key
a_trade i = by_id kind_trade i

abbrev pub a_request : ℕ → Key
a_request i = by_id kind_request i

abbrev pub a_history : ℕ → ℕ → Key
a_history i status = key kind_trade_history 0 status 0 i no_symbol 0

abbrev pub a_lot : ℕ → Key
a_lot i = by_id kind_lot i

abbrev pub a_summary : ℕ → Symbol → Key
a_summary account symbol = key kind_summary 0 0 account 0 symbol 0

abbrev pub a_settlement : ℕ → Key
a_settlement i = by_id kind_settlement i

abbrev pub a_cash : ℕ → Key
a_cash i = by_id kind_cash i

abbrev pub a_permission : ℕ → ℕ → Key
a_permission account executor = key kind_permission 0 0 account 0 no_symbol executor

-- the key of a row that is named, by the field that its kind's key has: the table says which
abbrev key_named : Row → Name → Key
key_named r n =
    let x = get_or (values r) n.field 0 in
    cond (among n.kind Table.by_party) (by_party n.kind x)
    (cond (among n.kind Table.by_id) (by_id n.kind x) (by_symbol n.kind r.symbol))

abbrev named_by : Row → List Name → List Key
named_by r [] = []
named_by r (n ∷ ns) = key_named r n ∷ named_by r ns

-- what a row of each kind names, by the kind's number
abbrev pub names : List (Row → List Key)
names = map (λ (k : Kind) (r : Row). named_by r k.names) kinds

unfoldable pub named : Row → List Key
named r = get_or names r.kind (λ (s : Row). []) r
