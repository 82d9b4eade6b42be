-- A row that fits its kind is the row of its typed value: the kind and the unused fields are as the rule has them, and
-- both ways of two's complement cancel. Assumes nothing.
use Rattle.std.specs.Prelude.{◌≡◌, ℕ, ◌≤◌, T, leb, pos}
use Rattle.std.proofs.Common.{ap, le_trans, arith, leb→le, of_z, to_z}
use Rattle.std.specs.Int.{w64}
use Rattle.record.specs.Grid.{row_eq}
use Rattle.record.specs.Symbol.{no_symbol, numbered, symbol_number}
use Rattle.record.specs.declared.row.Row.{Row}
use Rattle.record.specs.declared.symbol.Symbol.{Symbol}
use Rattle.kinds.specs.Kinds.{account_of, broker_of, cash_of, lot_history_of, lot_of, request_of, security_of, settlement_of}
use Rattle.kinds.specs.Kinds.{summary_of, trade_history_of, trade_of}
use Rattle.kinds.specs.Typed.{back64, low_back, low_nat}
use Rattle.units.specs.Units.{low}
use Rattle.kinds.specs.Written.{account_row, broker_row, cash_row, lot_history_row, lot_row, request_row, security_row}
use Rattle.kinds.specs.Written.{settlement_row, summary_row, trade_history_row, trade_row}
use Rattle.rules.specs.Meaning.{Account, Broker, Cash, Lot, LotHistory, Request, Security, Settlement, Summary}
use Rattle.rules.specs.Meaning.{Trade, TradeHistory}

pub none : (x : ℕ) → x ≤ 0 → 0 ≡ x
none x h = omega arith

pub only : (k x : ℕ) → k ≤ x → x ≤ k → k ≡ x
only k x h g = omega arith

pub no_symbol_holds : (s : Symbol) → symbol_number s ≤ 0 → no_symbol ≡ s
no_symbol_holds s h = ap numbered (none (symbol_number s) h)

pub whole64 : (x n : ℕ) → x ≤ n → T (leb n 18446744073709551615) → of_z w64 (to_z w64 x) ≡ x
whole64 x n h k = back64 x (le_trans h (leb→le n 18446744073709551615 k))

pub whole32 : (x n : ℕ) → x ≤ n → T (leb n 4294967295) → low (pos x) ≡ x
whole32 x n h k = low_nat x (le_trans h (leb→le n 4294967295 k))

-- for the row of a typed value, field by field
pub ruleset written = (row_eq, none, only, no_symbol_holds, whole64, whole32, low_back)

pub broker_written : (r : Row) → Broker r → broker_row (broker_of r) ≡ r
unfolding broker_row broker_of
broker_written r h = search written

pub account_written : (r : Row) → Account r → account_row (account_of r) ≡ r
unfolding account_row account_of
account_written r h = search written

pub security_written : (r : Row) → Security r → security_row (security_of r) ≡ r
unfolding security_row security_of
security_written r h = search written

pub trade_written : (r : Row) → Trade r → trade_row (trade_of r) ≡ r
unfolding trade_row trade_of
trade_written r h = search written

pub request_written : (r : Row) → Request r → request_row (request_of r) ≡ r
unfolding request_row request_of
request_written r h = search written

pub trade_history_written : (r : Row) → TradeHistory r → trade_history_row (trade_history_of r) ≡ r
unfolding trade_history_row trade_history_of
trade_history_written r h = search written

pub lot_written : (r : Row) → Lot r → lot_row (lot_of r) ≡ r
unfolding lot_row lot_of
lot_written r h = search written

pub summary_written : (r : Row) → Summary r → summary_row (summary_of r) ≡ r
unfolding summary_row summary_of
summary_written r h = search written

pub lot_history_written : (r : Row) → LotHistory r → lot_history_row (lot_history_of r) ≡ r
unfolding lot_history_row lot_history_of
lot_history_written r h = search written

pub settlement_written : (r : Row) → Settlement r → settlement_row (settlement_of r) ≡ r
unfolding settlement_row settlement_of
settlement_written r h = search written

pub cash_written : (r : Row) → Cash r → cash_row (cash_of r) ≡ r
unfolding cash_row cash_of
cash_written r h = search written
