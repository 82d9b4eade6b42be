-- The rows that hang on a trade (request, trade history, lot, settlement, cash) are decided at their trade, and a trade
-- by how many of each hang on it. Assumes nothing.
use Rattle.std.specs.Prelude.{Bool, not, ◌&&◌, ◌||◌, List, ℕ, ◌+◌, ◌*◌, eqb, leb}
use Rattle.laws.specs.Search.{bit, count, place}
use Rattle.record.specs.Codes.{completed, kind_trade, pending, tlb}
use Rattle.record.specs.declared.row.Row.{Row}
use Rattle.model.specs.Flags.{cash}
use Rattle.model.specs.Names.{a_cash, a_history, a_request, a_trade}
use Rattle.model.specs.Rows.{found, has_key, there}
use Rattle.model.specs.Sound.{each, settled}
use Rattle.clauses.specs.Hung.{fits_trade, hangs, offset}
use Rattle.clauses.specs.Own.{own_well}

-- its trade is there, and it fits that
unfoldable pub hung_well : List Row → Row → Bool
hung_well rs r = there (a_trade r.id) rs && fits_trade rs (found (a_trade r.id) rs) r

-- what a trade asks of the rows that hang on it
abbrev pub hung : List Row → Row → Bool
hung rs t =
    eqb (count (has_key (a_request t.id)) rs) (bit (eqb t.status pending))
    && (not (eqb t.status pending) || leb tlb t.form) && there (a_history t.id t.status) rs
    && settled rs t && eqb (count (has_key (a_cash t.id)) rs) (bit (eqb t.status completed && cash t.flags))

-- a row's rules, all but what a trade asks of the rows that hang on it
unfoldable pub first_well : List Row → Row → Bool
first_well rs r = own_well rs r && (not (hangs r) || hung_well rs r)

unfoldable pub row_well : List Row → Row → Bool
row_well rs r = first_well rs r && each kind_trade (hung rs) r

-- ---- the slot of a row that hangs on a trade
unfoldable pub home : List Row → Row → ℕ
home rs r = place (has_key (a_trade r.id)) rs

abbrev pub slot : List Row → Row → ℕ
slot rs r = home rs r * 8 + offset r
