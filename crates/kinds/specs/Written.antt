-- The row of a typed value: each field as the grid has it, signed numbers in two's complement, unused fields zero.
-- Assumes nothing.
use Rattle.std.specs.Prelude.{ℕ}
use Rattle.std.specs.Int.{w64}
use Rattle.std.proofs.Common.{of_z}
use Rattle.record.specs.Codes.{kind_broker, kind_account, kind_security, kind_trade, kind_request, kind_trade_history}
use Rattle.record.specs.Codes.{kind_lot, kind_summary, kind_lot_history, kind_settlement, kind_cash}
use Rattle.record.specs.Symbol.{no_symbol}
use Rattle.record.specs.declared.row.Row.{Row}
use Rattle.record.specs.declared.symbol.Symbol.{Symbol}
use Rattle.units.specs.Units.{low}
use Rattle.kinds.specs.declared.rows.Broker.{Broker}
use Rattle.kinds.specs.declared.rows.Account.{Account}
use Rattle.kinds.specs.declared.rows.Security.{Security}
use Rattle.kinds.specs.declared.rows.Trade.{Trade}
use Rattle.kinds.specs.declared.rows.Request.{Request}
use Rattle.kinds.specs.declared.rows.TradeHistory.{TradeHistory}
use Rattle.kinds.specs.declared.rows.Lot.{Lot}
use Rattle.kinds.specs.declared.rows.Summary.{Summary}
use Rattle.kinds.specs.declared.rows.LotHistory.{LotHistory}
use Rattle.kinds.specs.declared.rows.Settlement.{Settlement}
use Rattle.kinds.specs.declared.rows.Cash.{Cash}

-- the row of its fields, in the order of the grid; the last one is unused in every kind
abbrev pub grid_row : ℕ → ℕ → ℕ → ℕ → ℕ → ℕ → Symbol → ℕ → ℕ → ℕ → ℕ → ℕ → ℕ → ℕ → Row
grid_row kind form status flags party id symbol n1 n2 n3 n4 m1 m2 time = record {
  kind = kind;
  form = form;
  status = status;
  flags = flags;
  party = party;
  id = id;
  symbol = symbol;
  n1 = n1;
  n2 = n2;
  n3 = n3;
  n4 = n4;
  m1 = m1;
  m2 = m2;
  time = time;
  n5 = 0;
}

unfoldable pub broker_row : Broker → Row
broker_row x = grid_row kind_broker 0 0 0 x.no.0 0 no_symbol x.trades 0 0 0 (of_z w64 x.commission.0) 0 0

unfoldable pub account_row : Account → Row
account_row x =
    grid_row kind_account x.tax_status 0 0 x.no.0 0 no_symbol x.broker.0 x.customer.0 0 0
    (of_z w64 x.balance.0) 0 0

unfoldable pub security_row : Security → Row
security_row x =
    grid_row kind_security x.exchange 0 0 0 0 x.symbol x.last_price.0 0 0 0 (of_z w64 x.volume.0) 0
    x.time.0

unfoldable pub trade_row : Trade → Row
trade_row x =
    grid_row kind_trade x.trade_type x.status x.flags x.account.0 x.no.0 x.symbol
    (low x.shares.0) x.bid.0 x.price.0 (low x.charge.0) (of_z w64 x.commission.0)
    (of_z w64 x.tax.0) x.time.0

unfoldable pub request_row : Request → Row
request_row x =
    grid_row kind_request x.trade_type 0 0 x.broker.0 x.no.0 x.symbol (low x.shares.0) x.bid.0 0
    0 0 0 0

unfoldable pub trade_history_row : TradeHistory → Row
trade_history_row x = grid_row kind_trade_history 0 x.status 0 0 x.no.0 no_symbol 0 0 0 0 0 0 x.time.0

unfoldable pub lot_row : Lot → Row
lot_row x =
    grid_row kind_lot 0 0 0 x.account.0 x.no.0 x.symbol x.price.0 0 0 0 (of_z w64 x.shares.0) 0
    x.time.0

unfoldable pub summary_row : Summary → Row
summary_row x = grid_row kind_summary 0 0 0 x.account.0 0 x.symbol 0 0 0 0 (of_z w64 x.shares.0) 0 0

unfoldable pub lot_history_row : LotHistory → Row
lot_history_row x =
    grid_row kind_lot_history 0 0 0 0 x.lot.0 no_symbol (low x.before.0) (low x.after.0) 0 0 0 x.by.0 0

unfoldable pub settlement_row : Settlement → Row
settlement_row x =
    grid_row kind_settlement 0 0 x.cash 0 x.no.0 no_symbol 0 0 0 0 (of_z w64 x.amount.0) 0 x.due.0

unfoldable pub cash_row : Cash → Row
cash_row x = grid_row kind_cash 0 0 0 0 x.no.0 no_symbol 0 0 0 0 (of_z w64 x.amount.0) 0 x.time.0
