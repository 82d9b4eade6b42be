-- S8 as the code decides it: that lots of one account and symbol have one sign is told at their summary, where nothing
-- is held or nothing is owed, and not at each lot. Assumes nothing.
use Rattle.std.specs.Prelude.{Bool, true, false, ◌&&◌, ◌||◌, List, ℕ, eqb, leb, ℤ}
use Rattle.laws.specs.Search.{count, sum_z, total}
use Rattle.record.specs.Codes.{completed}
use Rattle.record.specs.Symbol.{same_symbol}
use Rattle.record.specs.declared.row.Row.{Row}
use Rattle.record.specs.declared.symbol.Symbol.{Symbol}
use Rattle.model.specs.Names.{a_summary, a_trade}
use Rattle.model.specs.Rows.{found, there}
use Rattle.model.specs.Sound.{equal_z, lot_of, shares_of, summary_right}
use Rattle.groups.specs.Sums.{shares_part}

-- "a completed trade of its account and symbol"
abbrev pub trade_agrees : List Row → Row → Bool
trade_agrees rs l =
    eqb (found (a_trade l.id) rs).status completed && eqb (found (a_trade l.id) rs).party l.party
    && same_symbol (found (a_trade l.id) rs).symbol l.symbol

abbrev pub lot_kept : List Row → Row → Bool
lot_kept rs l = trade_agrees rs l && there (a_summary l.party l.symbol) rs

abbrev pub one_sided : List Row → ℕ → Symbol → Bool
one_sided rs account symbol =
    eqb (total (shares_part false account symbol) rs) 0 || eqb (total (shares_part true account symbol) rs) 0

abbrev pub summary_kept : List Row → Row → Bool
summary_kept rs s = summary_right rs s && one_sided rs s.party s.symbol

-- the same of an account, a symbol and a count of shares
abbrev pub comes_to : List Row → ℕ → Symbol → ℤ → Bool
comes_to rs account symbol shares =
    leb 1 (count (lot_of account symbol) rs) && equal_z (sum_z (shares_of account symbol) rs) shares
    && one_sided rs account symbol
