-- The table of the kinds: for each kind of row and of input the limits of its fields, those that are not named unused,
-- and the rules that are no range; for each kind of row the fields of its key and what it names, too. Assumes nothing.
use Rattle.std.specs.Prelude.{◌≡◌, Bool, true, false, not, ◌&&◌, ◌||◌, List, [], ◌∷◌, map, ℕ, ◌≤◌, leb, eqb, length, get_or}
use Rattle.std.proofs.Common.{sym, ap}
use Rattle.std.proofs.Math.ListN.{get_or-eq_default}
use Rattle.std.specs.Int.{w32, w64}
use Rattle.laws.specs.Tests.{◌⇔◌}
use Rattle.record.specs.Codes.{completed, kind_account, kind_band, kind_broker, kind_cash, kind_charge, kind_customer}
use Rattle.record.specs.Codes.{kind_customer_rate, kind_feed, kind_free, kind_lookup, kind_lot, kind_lot_history, kind_order}
use Rattle.record.specs.Codes.{kind_request, kind_result, kind_security, kind_settlement, kind_summary, kind_tax_rate}
use Rattle.record.specs.Codes.{kind_permission, kind_trade, kind_trade_history, tms}
use Rattle.record.specs.Spelling.{symbol_ok}
use Rattle.record.specs.declared.row.Row.{Row}
use Rattle.record.specs.declared.symbol.Symbol.{Symbol}
use Rattle.kinds.specs.declared.limits.Beyond.{Beyond}
use Rattle.kinds.specs.declared.limits.Clause.{Clause}
use Rattle.kinds.specs.declared.limits.Clause.TheVariants.{Nothing, FromTo, Completed, NotZero, Unequal, Market}
use Rattle.kinds.specs.declared.limits.Rule.{Rule}
use Rattle.rules.specs.Ranges.{◌⋯◌, ◌∈◌, Range, any32, any64, broker_trades, cash_flag, charged, commission_part}
use Rattle.rules.specs.Ranges.{commission_total, due_time, exchange, fee, limited, money_most, number, number_most}
use Rattle.rules.specs.Ranges.{only, order_flags, price, price_most, ranges, shares, shares_most, tax_part}
use Rattle.rules.specs.Ranges.{tax_status, tier, time, trade_flags, trade_number, trade_status, trade_type, volume, kind, form}
use Rattle.rules.specs.Ranges.{status, flags, party, id, symbol, n1, n2, n3, n4, m1, m2, when}
use Rattle.rules.specs.Signed.{near}

-- ---- the form of a rule
-- the limits of the fields; how far from zero the signed number m1, and n1 and n2, may be, zero where that is not
-- asked; whether there is a symbol; and what compares fields
pub record Shape : Type 0 where
  pub limits : List Range
  pub m1 : ℕ
  pub n1n2 : ℕ
  pub symbol : Bool
  pub clause : Clause

abbrev pub all_of : Bool → List Bool → Bool
all_of t [] = t
all_of t (b ∷ bs) = all_of (t && b) bs

abbrev pub asked : Bool → List Bool → List Bool
asked true bs = bs
asked false bs = []

abbrev pub compared : Clause → Row → List Bool
compared Nothing r = []
compared FromTo r = leb r.n1 r.n2 ∷ []
compared Completed r =
    (not (eqb r.n3 0) ⇔ eqb r.status completed) ∷ (eqb r.m2 0 || eqb r.status completed) ∷ []
compared NotZero r = not (eqb r.m1 0) ∷ []
compared Unequal r = not (eqb r.n1 r.n2) ∷ []
compared Market r = (eqb r.n2 0 ⇔ leb r.form tms) ∷ []

abbrev pub near64 : ℕ → ℕ → List Bool
near64 most x = asked (not (eqb most 0)) (near w64 x most ∷ [])

abbrev pub near32 : ℕ → ℕ → ℕ → List Bool
near32 most x y = asked (not (eqb most 0)) (near w32 x most ∷ near w32 y most ∷ [])

abbrev pub spelled : Bool → Symbol → List Bool
spelled named s = asked named (symbol_ok s ∷ [])

unfoldable pub obeys : Shape → Row → Bool
obeys s r =
    all_of
    (all_of (all_of (all_of (limited r s.limits) (compared s.clause r)) (near64 s.m1 r.m1))
    (near32 s.n1n2 r.n1 r.n2))
    (spelled s.symbol r.symbol)

-- the rule that the ranges and a constant of the code give, and that of an input's constant
abbrev pub shaped : List Range → Beyond → Shape
shaped gs u = record { limits = gs; m1 = u.m1; n1n2 = u.n1n2; symbol = u.symbol; clause = u.clause }

abbrev pub shape_of : Rule → Shape
shape_of u = shaped (ranges u.limits) u.beyond

abbrev plain : List Range → Shape
plain gs = record { limits = gs; m1 = 0; n1n2 = 0; symbol = false; clause = Nothing }

abbrev comparing : List Range → Clause → Shape
comparing gs c = record { limits = gs; m1 = 0; n1n2 = 0; symbol = false; clause = c }

abbrev signed : List Range → ℕ → Shape
signed gs most = record { limits = gs; m1 = most; n1n2 = 0; symbol = false; clause = Nothing }

abbrev spelt : List Range → Clause → Shape
spelt gs c = record { limits = gs; m1 = 0; n1n2 = 0; symbol = true; clause = c }

-- ---- the kinds
-- "A record of 64 zeros is free."
abbrev pub free_limits : List Range
free_limits = only []

unfoldable pub free_shape : Shape
free_shape = plain free_limits

abbrev pub free : Row → Bool
free r = obeys free_shape r

-- 1 broker: party; n1 trades 0..999,999,999; m1 commission total 0..999,999,999,999,999
abbrev pub broker_limits : List Range
broker_limits =
    only (kind ∈ kind_broker ⋯ kind_broker ∷ party ∈ number ∷ n1 ∈ broker_trades ∷ m1 ∈ commission_total ∷ [])

unfoldable pub broker_shape : Shape
broker_shape = plain broker_limits

abbrev pub broker : Row → Bool
broker r = obeys broker_shape r

-- 2 customer: party; type = tier 1..3
abbrev pub customer_limits : List Range
customer_limits = only (kind ∈ kind_customer ⋯ kind_customer ∷ form ∈ tier ∷ party ∈ number ∷ [])

unfoldable pub customer_shape : Shape
customer_shape = plain customer_limits

abbrev pub customer : Row → Bool
customer r = obeys customer_shape r

-- 3 tax rate: party; n1 = 0..100,000 (hundred-thousandths)
abbrev pub tax_rate_limits : List Range
tax_rate_limits = only (kind ∈ kind_tax_rate ⋯ kind_tax_rate ∷ party ∈ number ∷ n1 ∈ tax_part ∷ [])

unfoldable pub tax_rate_shape : Shape
tax_rate_shape = plain tax_rate_limits

abbrev pub tax_rate : Row → Bool
tax_rate r = obeys tax_rate_shape r

-- 4 customer rate: party customer, n1 rate
abbrev pub customer_rate_limits : List Range
customer_rate_limits = only (kind ∈ kind_customer_rate ⋯ kind_customer_rate ∷ party ∈ number ∷ n1 ∈ number ∷ [])

unfoldable pub customer_rate_shape : Shape
customer_rate_shape = plain customer_rate_limits

abbrev pub customer_rate : Row → Bool
customer_rate r = obeys customer_rate_shape r

-- 5 account: party; n1 broker, n2 customer; type = tax status 0..2; m1 balance, signed, within ±999,999,999,999,999
abbrev pub account_limits : List Range
account_limits =
    only (kind ∈ kind_account ⋯ kind_account ∷ form ∈ tax_status ∷ party ∈ number ∷ n1 ∈ number ∷ n2 ∈ number
    ∷ m1 ∈ any64 ∷ [])

unfoldable pub account_shape : Shape
account_shape = signed account_limits money_most

abbrev pub account : Row → Bool
account r = obeys account_shape r

-- 6 security: symbol; type = exchange 1..4; n1 last price; m1 volume 0..999,999,999,999; time
abbrev pub security_limits : List Range
security_limits =
    only (kind ∈ kind_security ⋯ kind_security ∷ form ∈ exchange ∷ symbol ∈ any64 ∷ n1 ∈ price ∷ m1 ∈ volume
    ∷ when ∈ time ∷ [])

unfoldable pub security_shape : Shape
security_shape = spelt security_limits Nothing

abbrev pub security : Row → Bool
security r = obeys security_shape r

-- 7 band: type trade type, status tier, flags exchange, n1 from, n2 to (1..999,999, from ≤ to); n3 rate 0..10,000
abbrev pub band_limits : List Range
band_limits =
    only (kind ∈ kind_band ⋯ kind_band ∷ form ∈ trade_type ∷ status ∈ tier ∷ flags ∈ exchange ∷ n1 ∈ shares
    ∷ n2 ∈ shares ∷ n3 ∈ commission_part ∷ [])

unfoldable pub band_shape : Shape
band_shape = comparing band_limits FromTo

abbrev pub band : Row → Bool
band r = obeys band_shape r

-- 8 charge: type trade type, status tier; n1 = 0..999,999
abbrev pub charge_limits : List Range
charge_limits = only (kind ∈ kind_charge ⋯ kind_charge ∷ form ∈ trade_type ∷ status ∈ tier ∷ n1 ∈ charged ∷ [])

unfoldable pub charge_shape : Shape
charge_shape = plain charge_limits

abbrev pub charge : Row → Bool
charge r = obeys charge_shape r

-- 9 trade: id; type, status; flags cash 1 + LIFO 2; party account; symbol; n1 shares; n2 bid; n3 trade price; n4
-- charge; m1 commission and m2 tax; time. "A trade's n3 is zero exactly until it is completed; its m2 is zero until
-- then and may stay so."
abbrev pub trade_limits : List Range
trade_limits =
    only (kind ∈ kind_trade ⋯ kind_trade ∷ form ∈ trade_type ∷ status ∈ trade_status ∷ flags ∈ trade_flags
    ∷ party ∈ number ∷ id ∈ trade_number ∷ symbol ∈ any64 ∷ n1 ∈ shares ∷ n2 ∈ price ∷ n3 ∈ 0 ⋯ price_most
    ∷ n4 ∈ charged ∷ m1 ∈ fee ∷ m2 ∈ fee ∷ when ∈ time ∷ [])

unfoldable pub trade_shape : Shape
trade_shape = spelt trade_limits Completed

abbrev pub trade : Row → Bool
trade r = obeys trade_shape r

-- 10 request: id; type, symbol, n1 and n2 as the trade's; party = the account's broker
abbrev pub request_limits : List Range
request_limits =
    only (kind ∈ kind_request ⋯ kind_request ∷ form ∈ trade_type ∷ party ∈ number ∷ id ∈ trade_number ∷ symbol ∈ any64
    ∷ n1 ∈ shares ∷ n2 ∈ price ∷ [])

unfoldable pub request_shape : Shape
request_shape = spelt request_limits Nothing

abbrev pub request : Row → Bool
request r = obeys request_shape r

-- 11 trade history: id, status; time
abbrev pub trade_history_limits : List Range
trade_history_limits =
    only (kind ∈ kind_trade_history ⋯ kind_trade_history ∷ status ∈ trade_status ∷ id ∈ trade_number ∷ when ∈ time ∷ [])

unfoldable pub trade_history_shape : Shape
trade_history_shape = plain trade_history_limits

abbrev pub trade_history : Row → Bool
trade_history r = obeys trade_history_shape r

-- 12 lot: id; party account; symbol; n1 price; m1 signed shares; time. "A lot's may be negative, never zero."
abbrev pub lot_limits : List Range
lot_limits =
    only (kind ∈ kind_lot ⋯ kind_lot ∷ party ∈ number ∷ id ∈ trade_number ∷ symbol ∈ any64 ∷ n1 ∈ price ∷ m1 ∈ any64
    ∷ when ∈ time ∷ [])

unfoldable pub lot_shape : Shape
lot_shape = record { limits = lot_limits; m1 = shares_most; n1n2 = 0; symbol = true; clause = NotZero }

abbrev pub lot : Row → Bool
lot r = obeys lot_shape r

-- 13 summary: party, symbol; m1 signed shares, not zero
abbrev pub summary_limits : List Range
summary_limits = only (kind ∈ kind_summary ⋯ kind_summary ∷ party ∈ number ∷ symbol ∈ any64 ∷ m1 ∈ any64 ∷ [])

unfoldable pub summary_shape : Shape
summary_shape = spelt summary_limits NotZero

abbrev pub summary : Row → Bool
summary r = obeys summary_shape r

-- 14 lot history: id lot, m2 changing trade; n1 before and n2 after, signed, within ±999,999, unequal
abbrev pub lot_history_limits : List Range
lot_history_limits =
    only (kind ∈ kind_lot_history ⋯ kind_lot_history ∷ id ∈ trade_number ∷ n1 ∈ any32 ∷ n2 ∈ any32 ∷ m2 ∈ trade_number ∷ [])

unfoldable pub lot_history_shape : Shape
lot_history_shape =
    record { limits = lot_history_limits; m1 = 0; n1n2 = shares_most; symbol = false; clause = Unequal }

abbrev pub lot_history : Row → Bool
lot_history r = obeys lot_history_shape r

-- 15 settlement: id; flags cash 0 or 1; m1 signed amount, within ±999,999,999,999,999; time due, 0..4,000,172,800
abbrev pub settlement_limits : List Range
settlement_limits =
    only (kind ∈ kind_settlement ⋯ kind_settlement ∷ flags ∈ cash_flag ∷ id ∈ trade_number ∷ m1 ∈ any64 ∷ when ∈ due_time
    ∷ [])

unfoldable pub settlement_shape : Shape
settlement_shape = signed settlement_limits money_most

abbrev pub settlement : Row → Bool
settlement r = obeys settlement_shape r

-- 16 cash: id; m1 signed amount, same range; time
abbrev pub cash_limits : List Range
cash_limits = only (kind ∈ kind_cash ⋯ kind_cash ∷ id ∈ trade_number ∷ m1 ∈ any64 ∷ when ∈ time ∷ [])

unfoldable pub cash_shape : Shape
cash_shape = signed cash_limits money_most

abbrev pub cash : Row → Bool
cash r = obeys cash_shape r

-- 17 permission: party account, n1 executor
abbrev pub permission_limits : List Range
permission_limits = only (kind ∈ kind_permission ⋯ kind_permission ∷ party ∈ number ∷ n1 ∈ number ∷ [])

unfoldable pub permission_shape : Shape
permission_shape = plain permission_limits

abbrev pub permission : Row → Bool
permission r = obeys permission_shape r

-- 33 order input: type; flags cash 1, LIFO 2, roll back 4; party; symbol; n1 shares; n2 bid (zero exactly for types 1
-- and 2); n3 executor, zero the owner; time
abbrev pub order_input_limits : List Range
order_input_limits =
    only (kind ∈ kind_order ⋯ kind_order ∷ form ∈ trade_type ∷ flags ∈ order_flags ∷ party ∈ number ∷ symbol ∈ any64
    ∷ n1 ∈ shares ∷ n2 ∈ 0 ⋯ price_most ∷ n3 ∈ 0 ⋯ number_most ∷ when ∈ time ∷ [])

unfoldable pub order_input_shape : Shape
order_input_shape = spelt order_input_limits Market

abbrev pub order_input : Row → Bool
order_input r = obeys order_input_shape r

-- 34 result input: id, n1 price, time
abbrev pub result_input_limits : List Range
result_input_limits = only (kind ∈ kind_result ⋯ kind_result ∷ id ∈ trade_number ∷ n1 ∈ price ∷ when ∈ time ∷ [])

unfoldable pub result_input_shape : Shape
result_input_shape = plain result_input_limits

abbrev pub result_input : Row → Bool
result_input r = obeys result_input_shape r

-- 35 feed input: symbol, n1 price, n2 shares, time
abbrev pub feed_input_limits : List Range
feed_input_limits = only (kind ∈ kind_feed ⋯ kind_feed ∷ symbol ∈ any64 ∷ n1 ∈ price ∷ n2 ∈ shares ∷ when ∈ time ∷ [])

unfoldable pub feed_input_shape : Shape
feed_input_shape = spelt feed_input_limits Nothing

abbrev pub feed_input : Row → Bool
feed_input r = obeys feed_input_shape r

-- 36 lookup input: id
abbrev pub lookup_input_limits : List Range
lookup_input_limits = only (kind ∈ kind_lookup ⋯ kind_lookup ∷ id ∈ trade_number ∷ [])

unfoldable pub lookup_input_shape : Shape
lookup_input_shape = plain lookup_input_limits

abbrev pub lookup_input : Row → Bool
lookup_input r = obeys lookup_input_shape r

-- ---- the table: each kind with its rule, the fields of its key, and what it names: the kind of the row that is named,
-- and the field that names it
pub record Name : Type 0 where
  pub kind : ℕ
  pub field : ℕ

pub record Kind : Type 0 where
  pub number : ℕ
  pub shape : Shape
  pub key : List ℕ
  pub names : List Name

infix 75 ◌by◌
abbrev ◌by◌ : ℕ → ℕ → Name
k by f = record { kind = k; field = f }

abbrev entry : ℕ → Shape → List ℕ → List Name → Kind
entry k s fs ns = record { number = k; shape = s; key = fs; names = ns }

abbrev pub kinds : List Kind
kinds =
    entry kind_free free_shape [] []
    ∷ entry kind_broker broker_shape (party ∷ []) []
    ∷ entry kind_customer customer_shape (party ∷ []) []
    ∷ entry kind_tax_rate tax_rate_shape (party ∷ []) []
    ∷ entry kind_customer_rate customer_rate_shape (party ∷ n1 ∷ []) (kind_customer by party ∷ kind_tax_rate by n1 ∷ [])
    ∷ entry kind_account account_shape (party ∷ []) (kind_broker by n1 ∷ kind_customer by n2 ∷ [])
    ∷ entry kind_security security_shape (symbol ∷ []) []
    ∷ entry kind_band band_shape (form ∷ status ∷ flags ∷ n1 ∷ []) []
    ∷ entry kind_charge charge_shape (form ∷ status ∷ []) []
    ∷ entry kind_trade trade_shape (id ∷ []) (kind_account by party ∷ kind_security by symbol ∷ [])
    ∷ entry kind_request request_shape (id ∷ [])
    (kind_trade by id ∷ kind_broker by party ∷ kind_security by symbol ∷ [])
    ∷ entry kind_trade_history trade_history_shape (status ∷ id ∷ []) (kind_trade by id ∷ [])
    ∷ entry kind_lot lot_shape (id ∷ []) (kind_trade by id ∷ kind_account by party ∷ kind_security by symbol ∷ [])
    ∷ entry kind_summary summary_shape (party ∷ symbol ∷ []) (kind_account by party ∷ kind_security by symbol ∷ [])
    ∷ entry kind_lot_history lot_history_shape (id ∷ m2 ∷ []) (kind_trade by id ∷ kind_trade by m2 ∷ [])
    ∷ entry kind_settlement settlement_shape (id ∷ []) (kind_trade by id ∷ [])
    ∷ entry kind_cash cash_shape (id ∷ []) (kind_trade by id ∷ [])
    ∷ entry kind_permission permission_shape (party ∷ n1 ∷ []) (kind_account by party ∷ [])
    ∷ []

-- the rule of each kind, by its number
abbrev pub rules : List (Row → Bool)
rules = map (λ (k : Kind) (r : Row). obeys k.shape r) kinds

-- "S1 every record is free or fits the grid."
unfoldable pub fits : Row → Bool
fits r = get_or rules r.kind (λ (s : Row). false) r

-- a row of a kind fits where it obeys the kind's rule, and a row of no kind does not
pub as_kind : (k : ℕ) (r : Row) → r.kind ≡ k → get_or rules k (λ (s : Row). false) r ≡ fits r
unfolding fits
as_kind k r e = rw e

pub no_kind : (r : Row) → length rules ≤ r.kind → false ≡ fits r
unfolding fits
no_kind r h = ap (λ (f : Row → Bool). f r) (sym (get_or-eq_default rules (λ (s : Row). false) h))
