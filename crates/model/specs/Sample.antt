-- The book of "Figures to check against", and its variants. Assumes nothing.
use Rattle.std.specs.Prelude.{cond, not, ◌&&◌, List, [], ◌∷◌, ◌++◌, map, ℕ, ◌+◌, ◌*◌, eqb, ℤ, pos, neg_ℤ, replicate}
use Rattle.laws.specs.Search.{keep}
use Rattle.record.specs.Codes.{completed, kind_account, kind_band, kind_broker, kind_charge, kind_customer}
use Rattle.record.specs.Codes.{kind_customer_rate, kind_feed, kind_lookup, kind_lot, kind_order, kind_permission, kind_request}
use Rattle.record.specs.Codes.{kind_result, kind_security, kind_settlement, kind_summary, kind_tax_rate, kind_trade, pending}
use Rattle.record.specs.Codes.{submitted, tlb, tmb, tms}
use Rattle.record.specs.Symbol.{same_symbol, spelling, symbol_number}
use Rattle.record.specs.declared.row.Row.{Row}
use Rattle.record.specs.declared.symbol.Symbol.{Symbol}
use Rattle.rules.specs.Ranges.{broker_trades, flags, form, id, kind, m1, n1, n2, n3, n4, party, status, symbol}
use Rattle.rules.specs.Ranges.{trade_number, volume, when}
use Rattle.model.specs.Edit.{Put, ◌≔◌, bits64, changed, new}
use Rattle.model.specs.Money.{buys}
use Rattle.model.specs.Result.{settlement_seconds}
use Rattle.model.specs.Rows.{nothing}
use Rattle.model.specs.History.{history_row}

-- "ABC", "ABCDEFG" and the eight letters "ABCDEFGH", each as its bytes
abbrev pub abc : Symbol
abc = spelling (0x41 ∷ 0x42 ∷ 0x43 ∷ [])

abbrev pub seven : Symbol
seven = spelling (0x41 ∷ 0x42 ∷ 0x43 ∷ 0x44 ∷ 0x45 ∷ 0x46 ∷ 0x47 ∷ [])

abbrev pub eight : Symbol
eight = spelling (0x41 ∷ 0x42 ∷ 0x43 ∷ 0x44 ∷ 0x45 ∷ 0x46 ∷ 0x47 ∷ 0x48 ∷ [])

-- what does not change: account 1 with balance 1,000,000, tax status 1 and rates 20,000; bands 1..1,000 at rate 50
abbrev standing : List Row
standing =
    new (kind ≔ kind_broker ∷ party ≔ 1 ∷ [])
    ∷ new (kind ≔ kind_customer ∷ form ≔ 1 ∷ party ≔ 1 ∷ [])
    ∷ new (kind ≔ kind_tax_rate ∷ party ≔ 1 ∷ n1 ≔ 20_000 ∷ [])
    ∷ new (kind ≔ kind_customer_rate ∷ party ≔ 1 ∷ n1 ≔ 1 ∷ [])
    ∷ new (kind ≔ kind_account ∷ form ≔ 1 ∷ party ≔ 1 ∷ n1 ≔ 1 ∷ n2 ≔ 1 ∷ m1 ≔ 1_000_000 ∷ [])
    ∷ new (kind ≔ kind_security ∷ form ≔ 1 ∷ symbol ≔ symbol_number abc ∷ n1 ≔ 3_000 ∷ [])
    ∷ new (kind ≔ kind_security ∷ form ≔ 1 ∷ symbol ≔ symbol_number seven ∷ n1 ≔ 100 ∷ [])
    ∷ new (kind ≔ kind_band ∷ form ≔ tmb ∷ status ≔ 1 ∷ flags ≔ 1 ∷ n1 ≔ 1 ∷ n2 ≔ 1_000 ∷ n3 ≔ 50 ∷ [])
    ∷ new (kind ≔ kind_band ∷ form ≔ tms ∷ status ≔ 1 ∷ flags ≔ 1 ∷ n1 ≔ 1 ∷ n2 ≔ 1_000 ∷ n3 ≔ 50 ∷ [])
    ∷ new (kind ≔ kind_charge ∷ form ≔ tmb ∷ status ≔ 1 ∷ n1 ≔ 500 ∷ [])
    ∷ new (kind ≔ kind_charge ∷ form ≔ tms ∷ status ≔ 1 ∷ n1 ≔ 500 ∷ [])
    ∷ []

-- a completed trade that is not cash, with its history, its settlement and its lot of so many shares
abbrev done : ℕ → ℕ → ℕ → ℤ → ℕ → ℕ → List Row
done number type shares left price time =
    new (
    kind ≔ kind_trade ∷ form ≔ type ∷ status ≔ completed ∷ party ≔ 1 ∷ id ≔ number ∷ symbol ≔ symbol_number abc
    ∷ n1 ≔ shares
    ∷ n2 ≔ price
    ∷ n3 ≔ price ∷ when ≔ time ∷ [])
    ∷ history_row completed number time
    ∷ new (kind ≔ kind_settlement ∷ id ≔ number
    ∷ m1 ≔ bits64 (cond (buys type) (neg_ℤ (pos (shares * price))) (pos (shares * price)))
    ∷ when ≔ (time + settlement_seconds) ∷ [])
    ∷ new (
    kind ≔ kind_lot ∷ party ≔ 1 ∷ id ≔ number ∷ symbol ≔ symbol_number abc ∷ n1 ≔ price
    ∷ m1 ≔ bits64 left ∷ when ≔ time ∷ [])
    ∷ []

abbrev summary : ℤ → Row
summary shares = new (kind ≔ kind_summary ∷ party ≔ 1 ∷ symbol ≔ symbol_number abc ∷ m1 ≔ bits64 shares ∷ [])

-- trade 12, submitted, with charge 500
abbrev awaiting : ℕ → ℕ → ℕ → List Row
awaiting type flag shares =
    new (
    kind ≔ kind_trade ∷ form ≔ type ∷ status ≔ submitted ∷ flags ≔ flag ∷ party ≔ 1 ∷ id ≔ 12
    ∷ symbol ≔ symbol_number abc ∷ n1 ≔ shares
    ∷ n2 ≔ 3_000 ∷ n4 ≔ 500 ∷ when ≔ 300 ∷ [])
    ∷ history_row submitted 12 300
    ∷ []

-- lots of trade 10, 100 at 2,000, and of trade 11, 50 at 2,500; trade 12 sells for cash; so many places free
abbrev pub selling : ℕ → ℕ → ℕ → List Row
selling flag shares places =
    standing ++ done 10 tmb 100 (pos 100) 2_000 100 ++ done 11 tmb 50 (pos 50) 2_500 200 ++ summary (pos 150)
    ∷ awaiting tms flag shares ++ replicate places nothing

-- one lot of -50 at 3,000; trade 12 buys for cash
abbrev pub buying : ℕ → List Row
buying shares =
    standing ++ done 10 tms 50 (neg_ℤ (pos 50)) 3_000 100 ++ summary (neg_ℤ (pos 50)) ∷ awaiting tmb 1 shares
    ++ replicate 8 nothing

-- one share at a price; trade 12 sells one
abbrev pub gaining : ℕ → List Row
gaining price =
    standing ++ done 10 tmb 1 (pos 1) price 100 ++ summary (pos 1) ∷ awaiting tms 1 1 ++ replicate 8 nothing

-- a request: trade 20, TLB, bid 500
abbrev requested : List Row
requested =
    new (
    kind ≔ kind_trade ∷ form ≔ tlb ∷ status ≔ pending ∷ party ≔ 1 ∷ id ≔ 20 ∷ symbol ≔ symbol_number abc
    ∷ n1 ≔ 5 ∷ n2 ≔ 500
    ∷ when ≔ 50
    ∷ [])
    ∷ history_row pending 20 50
    ∷ new (
    kind ≔ kind_request ∷ form ≔ tlb ∷ party ≔ 1 ∷ id ≔ 20 ∷ symbol ≔ symbol_number abc ∷ n1 ≔ 5
    ∷ n2 ≔ 500 ∷ [])
    ∷ []

abbrev pub waiting : List Row
waiting = standing ++ requested ++ nothing ∷ nothing ∷ []

-- executor 7 may order for account 1
abbrev pub permission : Row
permission = new (kind ≔ kind_permission ∷ party ≔ 1 ∷ n1 ≔ 7 ∷ [])

-- lots, a submitted trade and a request
abbrev pub day : List Row
day = requested ++ selling 1 120 8

-- one field of every row of a kind
abbrev each : ℕ → Put → List Row → List Row
each k p rs = map (λ (r : Row). cond (eqb r.kind k) (changed r (p ∷ [])) r) rs

-- every security at this last price
abbrev pub last_at : ℕ → List Row
last_at price = each kind_security (n1 ≔ price) waiting

-- one share at a price, as above, and rates that sum to so much
abbrev pub gaining_by : ℕ → ℕ → List Row
gaining_by rates price = each kind_tax_rate (n1 ≔ rates) (gaining price)

-- the inputs
abbrev pub result_at : ℕ → Row
result_at price = new (kind ≔ kind_result ∷ id ≔ 12 ∷ n1 ≔ price ∷ when ≔ 1_000 ∷ [])

abbrev pub entry_at : ℕ → Row
entry_at price = new (kind ≔ kind_feed ∷ symbol ≔ symbol_number abc ∷ n1 ≔ price ∷ n2 ≔ 10 ∷ when ≔ 1_000 ∷ [])

abbrev pub order_of : ℕ → ℕ → Symbol → ℕ → Row
order_of type owner sym shares =
    new (
    kind ≔ kind_order ∷ form ≔ type ∷ flags ≔ 1 ∷ party ≔ owner ∷ symbol ≔ symbol_number sym ∷ n1 ≔ shares
    ∷ when ≔ 1_000 ∷ [])

abbrev pub order_for : Symbol → ℕ → Row
order_for sym shares = order_of tmb 1 sym shares

abbrev pub by_executor : ℕ → Row → Row
by_executor executor r = changed r (n3 ≔ executor ∷ [])

abbrev pub lookup_of : ℕ → Row
lookup_of number = new (kind ≔ kind_lookup ∷ id ≔ number ∷ [])

-- ---- books that lack something, or are at a limit
abbrev pub without : ℕ → List Row → List Row
without k rs = keep (λ (r : Row). not (eqb r.kind k)) rs

-- bands of rate zero
abbrev pub unrated : List Row → List Row
unrated rs = each kind_band (n3 ≔ 0) rs

-- a pending trade with the largest number there is, and its request
abbrev pub last_number : List Row
last_number =
    new (
    kind ≔ kind_trade ∷ form ≔ tlb ∷ status ≔ pending ∷ party ≔ 1 ∷ id ≔ trade_number.high
    ∷ symbol ≔ symbol_number abc ∷ n1 ≔ 5
    ∷ n2 ≔ 400
    ∷ [])
    ∷ history_row pending trade_number.high 0
    ∷ new (
    kind ≔ kind_request ∷ form ≔ tlb ∷ party ≔ 1 ∷ id ≔ trade_number.high ∷ symbol ≔ symbol_number abc ∷ n1 ≔ 5
    ∷ n2 ≔ 400 ∷ [])
    ∷ []

-- the broker's trades and the volume of "ABC" at their ends
abbrev filled_up : Row → Row
filled_up r =
    cond (eqb r.kind kind_broker) (changed r (n1 ≔ broker_trades.high ∷ []))
    (cond (same_symbol r.symbol abc && eqb r.kind kind_security) (changed r (m1 ≔ volume.high ∷ [])) r)

abbrev pub at_limits : List Row → List Row
at_limits rs = map filled_up rs
