-- What each rule of the grid means, as a proposition: the bounds of each field, and the rules that are no range.
-- `means-..`: the test is true exactly when the proposition holds. Assumes nothing.
use Rattle.std.specs.Prelude.{◌≡◌, ◌⊎◌, ◌≤◌, nat_abs}
use Rattle.std.proofs.Common.{to_z}
use Rattle.std.specs.Int.{w32, w64}
use Rattle.laws.specs.Tests.{Means, means_le, means_eq, means_ne, means_and, means_or, means_iff}
use Rattle.record.specs.Codes.{completed, tms}
use Rattle.record.specs.Spelling.{Spelt, means_symbol}
use Rattle.record.specs.declared.row.Row.{Row}
use Rattle.rules.specs.Ranges.{Limited, means_limited, money_most, shares_most}
use Rattle.rules.specs.Signed.{means_near}
use Rattle.rules.specs.Rules.{obeys}
use Rattle.rules.specs.Rules.{free_shape, broker_shape, customer_shape, tax_rate_shape, customer_rate_shape}
use Rattle.rules.specs.Rules.{account_shape, security_shape, band_shape, charge_shape, trade_shape}
use Rattle.rules.specs.Rules.{request_shape, trade_history_shape, lot_shape, summary_shape}
use Rattle.rules.specs.Rules.{lot_history_shape, settlement_shape, cash_shape, permission_shape, order_input_shape}
use Rattle.rules.specs.Rules.{result_input_shape, feed_input_shape, lookup_input_shape}
use Rattle.rules.specs.Rules.{free, free_limits, broker, broker_limits, customer, customer_limits, tax_rate}
use Rattle.rules.specs.Rules.{tax_rate_limits, customer_rate, customer_rate_limits, account, account_limits}
use Rattle.rules.specs.Rules.{security, security_limits, band, band_limits, charge, charge_limits, trade}
use Rattle.rules.specs.Rules.{trade_limits, request, request_limits, trade_history, trade_history_limits, lot}
use Rattle.rules.specs.Rules.{lot_limits, summary, summary_limits, lot_history, lot_history_limits, settlement}
use Rattle.rules.specs.Rules.{settlement_limits, cash, cash_limits, permission, permission_limits, order_input}
use Rattle.rules.specs.Rules.{order_input_limits, result_input}
use Rattle.rules.specs.Rules.{result_input_limits, feed_input, feed_input_limits, lookup_input, lookup_input_limits}

abbrev pub Free : Row → Type 0
Free r = Limited r free_limits

pub means_free : (r : Row) → Means (free r) (Free r)
unfolding obeys free_shape
means_free r = means_limited r free_limits

abbrev pub Broker : Row → Type 0
Broker r = Limited r broker_limits

pub means_broker : (r : Row) → Means (broker r) (Broker r)
unfolding obeys broker_shape
means_broker r = means_limited r broker_limits

abbrev pub Customer : Row → Type 0
Customer r = Limited r customer_limits

pub means_customer : (r : Row) → Means (customer r) (Customer r)
unfolding obeys customer_shape
means_customer r = means_limited r customer_limits

abbrev pub TaxRate : Row → Type 0
TaxRate r = Limited r tax_rate_limits

pub means_tax_rate : (r : Row) → Means (tax_rate r) (TaxRate r)
unfolding obeys tax_rate_shape
means_tax_rate r = means_limited r tax_rate_limits

abbrev pub CustomerRate : Row → Type 0
CustomerRate r = Limited r customer_rate_limits

pub means_customer_rate : (r : Row) → Means (customer_rate r) (CustomerRate r)
unfolding obeys customer_rate_shape
means_customer_rate r = means_limited r customer_rate_limits

abbrev pub Account : Row → Type 0
Account r = Limited r account_limits × (nat_abs (to_z w64 r.m1) ≤ money_most)

pub means_account : (r : Row) → Means (account r) (Account r)
unfolding obeys account_shape
means_account r = means_and (means_limited r account_limits) (means_near w64 r.m1 money_most)

abbrev pub Security : Row → Type 0
Security r = Limited r security_limits × Spelt r.symbol

pub means_security : (r : Row) → Means (security r) (Security r)
unfolding obeys security_shape
means_security r = means_and (means_limited r security_limits) (means_symbol r.symbol)

abbrev pub Band : Row → Type 0
Band r = Limited r band_limits × (r.n1 ≤ r.n2)

pub means_band : (r : Row) → Means (band r) (Band r)
unfolding obeys band_shape
means_band r = means_and (means_limited r band_limits) (means_le r.n1 r.n2)

abbrev pub Charge : Row → Type 0
Charge r = Limited r charge_limits

pub means_charge : (r : Row) → Means (charge r) (Charge r)
unfolding obeys charge_shape
means_charge r = means_limited r charge_limits

abbrev pub Trade : Row → Type 0
Trade r = ((Limited r trade_limits × (((r.n3 ≡ 0 → ⊥) → r.status ≡ completed) × (r.status ≡ completed → r.n3 ≡ 0
    → ⊥))) × ((r.m2 ≡ 0) ⊎ (r.status ≡ completed))) × Spelt r.symbol

pub means_trade : (r : Row) → Means (trade r) (Trade r)
unfolding obeys trade_shape
means_trade r =
    means_and
    (means_and
    (means_and (means_limited r trade_limits) (means_iff (means_ne r.n3 0) (means_eq r.status completed)))
    (means_or (means_eq r.m2 0) (means_eq r.status completed)))
    (means_symbol r.symbol)

abbrev pub Request : Row → Type 0
Request r = Limited r request_limits × Spelt r.symbol

pub means_request : (r : Row) → Means (request r) (Request r)
unfolding obeys request_shape
means_request r = means_and (means_limited r request_limits) (means_symbol r.symbol)

abbrev pub TradeHistory : Row → Type 0
TradeHistory r = Limited r trade_history_limits

pub means_trade_history : (r : Row) → Means (trade_history r) (TradeHistory r)
unfolding obeys trade_history_shape
means_trade_history r = means_limited r trade_history_limits

abbrev pub Lot : Row → Type 0
Lot r = ((Limited r lot_limits × (r.m1 ≡ 0 → ⊥)) × (nat_abs (to_z w64 r.m1) ≤ shares_most)) × Spelt r.symbol

pub means_lot : (r : Row) → Means (lot r) (Lot r)
unfolding obeys lot_shape
means_lot r =
    means_and
    (means_and
    (means_and (means_limited r lot_limits) (means_ne r.m1 0))
    (means_near w64 r.m1 shares_most))
    (means_symbol r.symbol)

abbrev pub Summary : Row → Type 0
Summary r = (Limited r summary_limits × (r.m1 ≡ 0 → ⊥)) × Spelt r.symbol

pub means_summary : (r : Row) → Means (summary r) (Summary r)
unfolding obeys summary_shape
means_summary r = means_and (means_and (means_limited r summary_limits) (means_ne r.m1 0)) (means_symbol r.symbol)

abbrev pub LotHistory : Row → Type 0
LotHistory r = ((Limited r lot_history_limits × (r.n1 ≡ r.n2 → ⊥)) × (nat_abs (to_z w32 r.n1) ≤ shares_most))
    × (nat_abs (to_z w32 r.n2) ≤ shares_most)

pub means_lot_history : (r : Row) → Means (lot_history r) (LotHistory r)
unfolding obeys lot_history_shape
means_lot_history r =
    means_and
    (means_and
    (means_and (means_limited r lot_history_limits) (means_ne r.n1 r.n2))
    (means_near w32 r.n1 shares_most))
    (means_near w32 r.n2 shares_most)

abbrev pub Settlement : Row → Type 0
Settlement r = Limited r settlement_limits × (nat_abs (to_z w64 r.m1) ≤ money_most)

pub means_settlement : (r : Row) → Means (settlement r) (Settlement r)
unfolding obeys settlement_shape
means_settlement r = means_and (means_limited r settlement_limits) (means_near w64 r.m1 money_most)

abbrev pub Cash : Row → Type 0
Cash r = Limited r cash_limits × (nat_abs (to_z w64 r.m1) ≤ money_most)

pub means_cash : (r : Row) → Means (cash r) (Cash r)
unfolding obeys cash_shape
means_cash r = means_and (means_limited r cash_limits) (means_near w64 r.m1 money_most)

abbrev pub Permission : Row → Type 0
Permission r = Limited r permission_limits

pub means_permission : (r : Row) → Means (permission r) (Permission r)
unfolding obeys permission_shape
means_permission r = means_limited r permission_limits

abbrev pub OrderInput : Row → Type 0
OrderInput r = (Limited r order_input_limits × (((r.n2 ≡ 0 → r.form ≤ tms) × (r.form ≤ tms → r.n2 ≡ 0))))
    × Spelt r.symbol

pub means_order_input : (r : Row) → Means (order_input r) (OrderInput r)
unfolding obeys order_input_shape
means_order_input r =
    means_and
    (means_and (means_limited r order_input_limits) (means_iff (means_eq r.n2 0) (means_le r.form tms)))
    (means_symbol r.symbol)

abbrev pub ResultInput : Row → Type 0
ResultInput r = Limited r result_input_limits

pub means_result_input : (r : Row) → Means (result_input r) (ResultInput r)
unfolding obeys result_input_shape
means_result_input r = means_limited r result_input_limits

abbrev pub FeedInput : Row → Type 0
FeedInput r = Limited r feed_input_limits × Spelt r.symbol

pub means_feed_input : (r : Row) → Means (feed_input r) (FeedInput r)
unfolding obeys feed_input_shape
means_feed_input r = means_and (means_limited r feed_input_limits) (means_symbol r.symbol)

abbrev pub LookupInput : Row → Type 0
LookupInput r = Limited r lookup_input_limits

pub means_lookup_input : (r : Row) → Means (lookup_input r) (LookupInput r)
unfolding obeys lookup_input_shape
means_lookup_input r = means_limited r lookup_input_limits
