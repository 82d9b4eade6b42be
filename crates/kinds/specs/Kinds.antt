-- Each kind of row as the values that its fields mean: "Balances, lots and settlements are i64, .. read
-- from and written to two's complement bytes"; counts of shares and of cents that are never below zero are read as
-- they stand. Assumes nothing.
use Rattle.std.specs.Prelude.{pos}
use Rattle.std.specs.Int.{w32, w64}
use Rattle.std.proofs.Common.{to_z}
use Rattle.units.specs.Units.{cents, shares}
use Rattle.record.specs.declared.row.Row.{Row}
use Rattle.kinds.specs.declared.rows.Broker.{Broker}
use Rattle.kinds.specs.declared.rows.Customer.{Customer}
use Rattle.kinds.specs.declared.rows.TaxRate.{TaxRate}
use Rattle.kinds.specs.declared.rows.CustomerRate.{CustomerRate}
use Rattle.kinds.specs.declared.rows.Account.{Account}
use Rattle.kinds.specs.declared.rows.Security.{Security}
use Rattle.kinds.specs.declared.rows.Band.{Band}
use Rattle.kinds.specs.declared.rows.Charge.{Charge}
use Rattle.kinds.specs.declared.rows.Trade.{Trade}
use Rattle.kinds.specs.declared.rows.Request.{Request}
use Rattle.kinds.specs.declared.rows.TradeHistory.{TradeHistory}
use Rattle.kinds.specs.declared.rows.Lot.{Lot}
use Rattle.kinds.specs.declared.rows.Summary.{Summary}
use Rattle.kinds.specs.declared.rows.LotHistory.{LotHistory}
use Rattle.kinds.specs.declared.rows.Settlement.{Settlement}
use Rattle.kinds.specs.declared.rows.Cash.{Cash}
use Rattle.kinds.specs.declared.rows.Permission.{Permission}

unfoldable pub broker_of : Row → Broker
broker_of r = record {
  no = record { 0 = r.party };
  trades = r.n1;
  commission = cents (to_z w64 r.m1);
}

unfoldable pub customer_of : Row → Customer
customer_of r = record {
  no = record { 0 = r.party };
  tier = r.form;
}

unfoldable pub tax_rate_of : Row → TaxRate
tax_rate_of r = record {
  no = record { 0 = r.party };
  rate = record { 0 = r.n1 };
}

unfoldable pub customer_rate_of : Row → CustomerRate
customer_rate_of r = record {
  customer = record { 0 = r.party };
  rate = record { 0 = r.n1 };
}

unfoldable pub account_of : Row → Account
account_of r = record {
  no = record { 0 = r.party };
  tax_status = r.form;
  broker = record { 0 = r.n1 };
  customer = record { 0 = r.n2 };
  balance = cents (to_z w64 r.m1);
}

unfoldable pub security_of : Row → Security
security_of r = record {
  symbol = r.symbol;
  exchange = r.form;
  last_price = record { 0 = r.n1 };
  volume = shares (to_z w64 r.m1);
  time = record { 0 = r.time };
}

unfoldable pub band_of : Row → Band
band_of r = record {
  trade_type = r.form;
  tier = r.status;
  exchange = r.flags;
  from = shares (pos r.n1);
  to = shares (pos r.n2);
  rate = record { 0 = r.n3 };
}

unfoldable pub charge_of : Row → Charge
charge_of r = record {
  trade_type = r.form;
  tier = r.status;
  amount = cents (pos r.n1);
}

unfoldable pub trade_of : Row → Trade
trade_of r = record {
  no = record { 0 = r.id };
  trade_type = r.form;
  status = r.status;
  flags = r.flags;
  account = record { 0 = r.party };
  symbol = r.symbol;
  shares = shares (pos r.n1);
  bid = record { 0 = r.n2 };
  price = record { 0 = r.n3 };
  charge = cents (pos r.n4);
  commission = cents (to_z w64 r.m1);
  tax = cents (to_z w64 r.m2);
  time = record { 0 = r.time };
}

unfoldable pub request_of : Row → Request
request_of r = record {
  no = record { 0 = r.id };
  trade_type = r.form;
  broker = record { 0 = r.party };
  symbol = r.symbol;
  shares = shares (pos r.n1);
  bid = record { 0 = r.n2 };
}

unfoldable pub trade_history_of : Row → TradeHistory
trade_history_of r = record {
  no = record { 0 = r.id };
  status = r.status;
  time = record { 0 = r.time };
}

unfoldable pub lot_of : Row → Lot
lot_of r = record {
  no = record { 0 = r.id };
  account = record { 0 = r.party };
  symbol = r.symbol;
  price = record { 0 = r.n1 };
  shares = shares (to_z w64 r.m1);
  time = record { 0 = r.time };
}

unfoldable pub summary_of : Row → Summary
summary_of r = record {
  account = record { 0 = r.party };
  symbol = r.symbol;
  shares = shares (to_z w64 r.m1);
}

unfoldable pub lot_history_of : Row → LotHistory
lot_history_of r = record {
  lot = record { 0 = r.id };
  by = record { 0 = r.m2 };
  before = shares (to_z w32 r.n1);
  after = shares (to_z w32 r.n2);
}

unfoldable pub settlement_of : Row → Settlement
settlement_of r = record {
  no = record { 0 = r.id };
  cash = r.flags;
  amount = cents (to_z w64 r.m1);
  due = record { 0 = r.time };
}

unfoldable pub cash_of : Row → Cash
cash_of r = record {
  no = record { 0 = r.id };
  amount = cents (to_z w64 r.m1);
  time = record { 0 = r.time };
}

unfoldable pub permission_of : Row → Permission
permission_of r = record {
  account = record { 0 = r.party };
  executor = record { 0 = r.n1 };
}
