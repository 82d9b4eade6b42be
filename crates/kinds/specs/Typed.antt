-- A typed value that is written and read again is itself where its numbers fit: both ways of two's complement cancel.
-- Assumes nothing.
use Rattle.std.specs.Prelude.{◌≡◌, ℕ, ◌^◌, ◌<◌, ◌≤◌, ℤ, pos, negsuc, nat_abs}
use Rattle.std.proofs.Common.{ap, ◌∙◌, mod-eq_of_lt, arith, to_z, of_z}
use Rattle.std.specs.Int.Signed.{mag}
use Rattle.std.specs.Int.{w32, w64}
use Rattle.std.proofs.Math.Facts.{of_z-to_z}
use Rattle.record.specs.Signed.{dn, got32, got64, up}
use Rattle.kinds.specs.Kinds.{account_of, broker_of, cash_of, lot_history_of, lot_of, request_of, security_of}
use Rattle.kinds.specs.Kinds.{settlement_of, summary_of, trade_history_of, trade_of}
use Rattle.units.specs.Units.{low}
use Rattle.kinds.specs.Written.{account_row, broker_row, cash_row, lot_history_row, lot_row, request_row, security_row}
use Rattle.kinds.specs.Written.{settlement_row, summary_row, trade_history_row, trade_row}
use Rattle.kinds.specs.declared.rows.Broker.{Broker}
use Rattle.kinds.specs.declared.rows.Account.{Account}
use Rattle.kinds.specs.declared.rows.Security.{Security}
use Rattle.kinds.specs.declared.rows.Trade.{Trade}
use Rattle.kinds.specs.declared.rows.Request.{Request}
use Rattle.kinds.specs.declared.rows.TradeHistory.{TradeHistory}
use Rattle.kinds.specs.declared.rows.Lot.{Lot}
use Rattle.kinds.specs.declared.rows.Summary.{Summary}
use Rattle.kinds.specs.declared.rows.LotHistory.{LotHistory}
use Rattle.kinds.specs.declared.rows.Settlement.{Settlement}
use Rattle.kinds.specs.declared.rows.Cash.{Cash}

-- a number that is not below zero, of four bytes
pub record Plain (z : ℤ) : Type 0 where
  pub below : up z < 4294967296
  pub above : dn z ≡ 0

low_plain : (z : ℤ) → Plain z → pos (low z) ≡ z
low_plain (pos n) p = ap pos (mod-eq_of_lt p.below)
low_plain (negsuc n) p = absurd (omega (arith, p.above))

low_bits : (z : ℤ) → mag z < 2 ^ 31 → low z ≡ of_z w32 z
low_bits (pos n) h = omega arith
low_bits (negsuc n) h = omega arith

low_signed : (z : ℤ) → mag z < 2 ^ 31 → to_z w32 (low z) ≡ z
low_signed z h = ap (to_z w32) (low_bits z h) ∙ got32 z h

-- ---- the other way, of a field's number
pub back64 : (x : ℕ) → x ≤ 18446744073709551615 → of_z w64 (to_z w64 x) ≡ x
back64 x h = of_z-to_z {w = w64} {n = x} (record { fits = omega arith })

pub low_nat : (x : ℕ) → x ≤ 4294967295 → low (pos x) ≡ x
low_nat x h = mod-eq_of_lt (omega arith)

small : (z : ℤ) → nat_abs z ≤ 999999 → mag z < 2 ^ 31
small (pos n) h = omega arith
small (negsuc n) h = omega arith

pub low_back : (x : ℕ) → x ≤ 4294967295 → nat_abs (to_z w32 x) ≤ 999999 → low (to_z w32 x) ≡ x
low_back x h k = low_bits (to_z w32 x) (small (to_z w32 x) k) ∙ of_z-to_z {w = w32} {n = x} (record { fits = omega arith })

pub broker_read_holds : (x : Broker) → mag x.commission.0 < 2 ^ 63 → broker_of (broker_row x) ≡ x
unfolding broker_of broker_row
broker_read_holds x h1 = λ i. record {
  no = x.no;
  trades = x.trades;
  commission = record { 0 = got64 x.commission.0 h1 i };
}

pub account_read : (x : Account) → mag x.balance.0 < 2 ^ 63 → account_of (account_row x) ≡ x
unfolding account_of account_row
account_read x h1 = λ i. record {
  no = x.no;
  tax_status = x.tax_status;
  broker = x.broker;
  customer = x.customer;
  balance = record { 0 = got64 x.balance.0 h1 i };
}

pub security_read : (x : Security) → mag x.volume.0 < 2 ^ 63 → security_of (security_row x) ≡ x
unfolding security_of security_row
security_read x h1 = λ i. record {
  symbol = x.symbol;
  exchange = x.exchange;
  last_price = x.last_price;
  volume = record { 0 = got64 x.volume.0 h1 i };
  time = x.time;
}

pub trade_read : (x : Trade) → Plain x.shares.0 → Plain x.charge.0 → mag x.commission.0 < 2 ^ 63
    → mag x.tax.0 < 2 ^ 63
    → trade_of (trade_row x) ≡ x
unfolding trade_of trade_row
trade_read x h1 h2 h3 h4 = λ i. record {
  no = x.no;
  trade_type = x.trade_type;
  status = x.status;
  flags = x.flags;
  account = x.account;
  symbol = x.symbol;
  shares = record { 0 = low_plain x.shares.0 h1 i };
  bid = x.bid;
  price = x.price;
  charge = record { 0 = low_plain x.charge.0 h2 i };
  commission = record { 0 = got64 x.commission.0 h3 i };
  tax = record { 0 = got64 x.tax.0 h4 i };
  time = x.time;
}

pub request_read : (x : Request) → Plain x.shares.0 → request_of (request_row x) ≡ x
unfolding request_of request_row
request_read x h1 = λ i. record {
  no = x.no;
  trade_type = x.trade_type;
  broker = x.broker;
  symbol = x.symbol;
  shares = record { 0 = low_plain x.shares.0 h1 i };
  bid = x.bid;
}

pub trade_history_read : (x : TradeHistory) → trade_history_of (trade_history_row x) ≡ x
unfolding trade_history_of trade_history_row
trade_history_read x = λ i. record {
  no = x.no;
  status = x.status;
  time = x.time;
}

pub lot_read : (x : Lot) → mag x.shares.0 < 2 ^ 63 → lot_of (lot_row x) ≡ x
unfolding lot_of lot_row
lot_read x h1 = λ i. record {
  no = x.no;
  account = x.account;
  symbol = x.symbol;
  price = x.price;
  shares = record { 0 = got64 x.shares.0 h1 i };
  time = x.time;
}

pub summary_read : (x : Summary) → mag x.shares.0 < 2 ^ 63 → summary_of (summary_row x) ≡ x
unfolding summary_of summary_row
summary_read x h1 = λ i. record {
  account = x.account;
  symbol = x.symbol;
  shares = record { 0 = got64 x.shares.0 h1 i };
}

pub lot_history_read : (x : LotHistory) → mag x.before.0 < 2 ^ 31 → mag x.after.0 < 2 ^ 31
    → lot_history_of (lot_history_row x) ≡ x
unfolding lot_history_of lot_history_row
lot_history_read x h1 h2 = λ i. record {
  lot = x.lot;
  by = x.by;
  before = record { 0 = low_signed x.before.0 h1 i };
  after = record { 0 = low_signed x.after.0 h2 i };
}

pub settlement_read : (x : Settlement) → mag x.amount.0 < 2 ^ 63 → settlement_of (settlement_row x) ≡ x
unfolding settlement_of settlement_row
settlement_read x h1 = λ i. record {
  no = x.no;
  cash = x.cash;
  amount = record { 0 = got64 x.amount.0 h1 i };
  due = x.due;
}

pub cash_read : (x : Cash) → mag x.amount.0 < 2 ^ 63 → cash_of (cash_row x) ≡ x
unfolding cash_of cash_row
cash_read x h1 = λ i. record {
  no = x.no;
  amount = record { 0 = got64 x.amount.0 h1 i };
  time = x.time;
}
