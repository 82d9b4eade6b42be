-- Result: clause 3.3.8. Input: one record, kind 34, id, n1 price, time. Assumes nothing.
use Rattle.std.specs.Prelude.{Bool, cond, not, ◌&&◌, List, [], ◌∷◌, ◌++◌, map, ℕ, ◌+◌, ◌-◌, ◌*◌, eqb, leb, ltb, ℤ, pos, neg_ℤ, nat_abs, ◌+ℤ◌, length}
use Rattle.std.specs.Int.{w64}
use Rattle.std.proofs.Common.{to_z}
use Rattle.laws.specs.Search.{keep}
use Rattle.record.specs.Codes.{completed, kind_cash, kind_free, kind_lot, kind_lot_history, kind_result, kind_settlement}
use Rattle.record.specs.Codes.{kind_summary, submitted}
use Rattle.record.specs.Symbol.{symbol_number}
use Rattle.record.specs.declared.row.Row.{Row}
use Rattle.rules.specs.Ranges.{broker_trades, commission_total, flags, id, kind, m1, m2, money_most, n1, n2, n3, party}
use Rattle.rules.specs.Ranges.{status, symbol, when}
pub use Rattle.rules.specs.Ranges.{settlement_seconds}
use Rattle.model.specs.declared.Status.TheVariants.{ResultNoBand, ResultNoRate, ResultNoTax}
use Rattle.model.specs.declared.Status.TheVariants.{ResultNoTrade, ResultNotSubmitted}
use Rattle.model.specs.declared.BandAnswer.{BandAnswer}
use Rattle.model.specs.Edit.{◌≔◌, bits32, bits64, changed, in_symbol, new}
use Rattle.model.specs.Flags.{cash}
use Rattle.model.specs.History.{history_row}
use Rattle.model.specs.Lots.{Closing, Walk, closings, lots_for, size, walk}
use Rattle.model.specs.Band.{band_answer, commission_rate, no_band, zero_rate}
use Rattle.model.specs.Money.{buys, commission_of, settlement_of, tax_of, untaxed}
use Rattle.model.specs.Names.{a_broker, a_customer, a_security, a_summary, a_trade, an_account}
use Rattle.model.specs.Plan.{Check, Outcome, Posting, accepted, check, decided, last_checks, posted}
use Rattle.model.specs.Rows.{found, is}
use Rattle.model.specs.Sound.{rates_of}

-- all that a result reads, but for the broker and the room
pub record View : Type 0 where
  pub trade : Row
  pub account : Row
  pub summary : Row
  pub rates : ℕ
  pub band : BandAnswer
  pub lots : List Row

unfoldable pub view : List Row → Row → View
view rs input =
    let t = found (a_trade input.id) rs in
    let a = found (an_account t.party) rs in
    let tier = (found (a_customer a.n2) rs).form in
    let exchange = (found (a_security t.symbol) rs).form in
    record {
      trade = t;
      account = a;
      summary = found (a_summary t.party t.symbol) rs;
      rates = rates_of rs a.n2;
      band = band_answer rs t.form tier exchange t.n1;
      lots = lots_for rs t.form t.flags t.party t.symbol;
    }

-- the figures of a result
pub record Figures : Type 0 where
  pub walked : Walk
  pub tax : ℕ
  pub commission : ℕ
  pub settlement : ℤ
  pub balance : ℤ

unfoldable pub figures : Row → View → Figures
figures input v =
    let t = v.trade in
    let w = walk t.form input.n1 t.n1 v.lots in
    let tax = tax_of v.account.form v.rates w.bought w.sold in
    let commission = commission_of (commission_rate v.band) t.n1 input.n1 in
    let s = settlement_of t.form v.account.form (t.n1 * input.n1) t.n4 commission tax in
    let before = to_z w64 v.account.m1 in
    record {
      walked = w;
      tax = tax;
      commission = commission;
      settlement = s;
      balance = cond (cash t.flags) (before +ℤ s) before;
    }

-- so many shares as a trade of this type leaves them: "negative for a sell"
abbrev pub signed : ℕ → ℕ → ℤ
signed form n = cond (buys form) (pos n) (neg_ℤ (pos n))

-- what is left of a lot: it has the other sign
abbrev pub left_of : ℕ → Closing → ℤ
left_of form c = neg_ℤ (signed form (size c.lot - c.shares))

-- ---- the rows that a result writes, of the rows that it reads and the figures that it works out
-- an account, a summary or a lot, with another signed number
abbrev pub holding : Row → ℤ → Row
holding r z = changed r (m1 ≔ bits64 z ∷ [])

abbrev pub lot_history : ℕ → ℕ → ℤ → ℤ → Row
lot_history lot trade old left =
    new (kind ≔ kind_lot_history ∷ id ≔ lot ∷ m2 ≔ trade ∷ n1 ≔ bits32 old ∷ n2 ≔ bits32 left ∷ [])

-- the lots that are closed in part, and those that are closed whole
abbrev pub reduced : Closing → Bool
reduced c = ltb c.shares (size c.lot)

abbrev pub lot_changes : Row → List Closing → List (Row × Row)
lot_changes t cs = map (λ (c : Closing). (c.lot, holding c.lot (left_of t.form c))) (keep reduced cs)

abbrev pub closed_lots : List Closing → List Row
closed_lots cs = map (λ (c : Closing). c.lot) (keep (λ (c : Closing). not (reduced c)) cs)

abbrev pub closing_rows : Row → List Closing → List Row
closing_rows t cs =
    map (λ (c : Closing). lot_history c.lot.id t.id (to_z w64 c.lot.m1) (left_of t.form c)) cs

-- "Shares left over open a new lot with the trade's number, price and time .., with a history row from zero."
abbrev pub new_lot : Row → ℕ → ℤ → ℕ → Row
new_lot t price count time =
    new (
    kind ≔ kind_lot ∷ party ≔ t.party ∷ id ≔ t.id ∷ symbol ≔ symbol_number t.symbol ∷ n1 ≔ price ∷ m1 ≔ bits64 count
    ∷ when ≔ time ∷ [])

abbrev pub opening_rows : Row → ℕ → ℕ → ℕ → List Row
opening_rows t price left time =
    cond (eqb left 0) []
    (lot_history t.id t.id (pos 0) (signed t.form left)
    ∷ new_lot t price (signed t.form left) time
    ∷ [])

-- "The summary follows; at zero it goes." In its place where there is one, added where none is.
abbrev pub summed_shares : Row → Row → ℤ
summed_shares t summary = to_z w64 summary.m1 +ℤ signed t.form t.n1

abbrev pub gone : ℤ → Bool
gone z = eqb (nat_abs z) 0

abbrev pub summary_changes : Row → Row → List (Row × Row)
summary_changes t summary =
    let z = summed_shares t summary in
    cond (not (is kind_free summary) && not (gone z)) ((summary, holding summary z) ∷ []) []

abbrev pub summary_gone : Row → Row → List Row
summary_gone t summary = cond (not (is kind_free summary) && gone (summed_shares t summary)) (summary ∷ []) []

abbrev pub new_summary : Row → ℤ → Row
new_summary t count =
    new (kind ≔ kind_summary ∷ party ≔ t.party ∷ symbol ≔ symbol_number t.symbol ∷ m1 ≔ bits64 count ∷ [])

abbrev pub summary_rows : Row → Row → List Row
summary_rows t summary = cond (not (is kind_free summary)) [] (new_summary t (summed_shares t summary) ∷ [])

-- "A cash trade adds the amount to the balance."
abbrev pub account_changes : Row → Row → ℤ → List (Row × Row)
account_changes t account balance = cond (cash t.flags) ((account, holding account balance) ∷ []) []

-- "The trade takes status 3, price, commission, tax and time"
abbrev pub trade_after : Row → ℕ → ℕ → ℕ → ℕ → Row
trade_after t price commission tax time =
    changed t (status ≔ completed ∷ n3 ≔ price ∷ m1 ≔ commission ∷ m2 ≔ tax ∷ when ≔ time ∷ [])

-- trade history, settlement, and cash for a cash trade
abbrev pub settlement_row : Row → ℤ → ℕ → Row
settlement_row t amount time =
    new (
    kind ≔ kind_settlement ∷ flags ≔ cond (cash t.flags) 1 0 ∷ id ≔ t.id ∷ m1 ≔ bits64 amount
    ∷ when ≔ (time + settlement_seconds) ∷ [])

abbrev pub cash_row : Row → ℤ → ℕ → Row
cash_row t amount time = new (kind ≔ kind_cash ∷ id ≔ t.id ∷ m1 ≔ bits64 amount ∷ when ≔ time ∷ [])

abbrev pub final_rows : Row → ℤ → ℕ → List Row
final_rows t amount time =
    history_row completed t.id time
    ∷ settlement_row t amount time
    ∷ cond (cash t.flags) (cash_row t amount time ∷ []) []

-- "the broker gains one trade and the commission"
abbrev pub broker_after : Row → ℕ → Row
broker_after b commission = changed b (n1 ≔ (b.n1 + 1) ∷ m1 ≔ (b.m1 + commission) ∷ [])

abbrev pub answer_row : Row → ℕ → ℤ → ℤ → Row
answer_row t tax balance settlement =
    new (
    kind ≔ kind_result ∷ party ≔ t.party ∷ id ≔ t.id ∷ symbol ≔ in_symbol tax ∷ m1 ≔ bits64 balance
    ∷ m2 ≔ bits64 settlement ∷ [])

-- ---- all of them together: the numbers that are written, and the rows that are added and changed
pub record Sums : Type 0 where
  pub price : ℕ
  pub left : ℕ
  pub time : ℕ
  pub commission : ℕ
  pub tax : ℕ
  pub amount : ℤ
  pub balance : ℤ

abbrev pub sums_of : Row → Figures → Sums
sums_of input f = record {
  price = input.n1;
  left = f.walked.need;
  time = input.time;
  commission = f.commission;
  tax = f.tax;
  amount = f.settlement;
  balance = f.balance;
}

abbrev pub added : Row → Row → List Closing → Sums → List Row
added t summary cs n =
    closing_rows t cs ++ opening_rows t n.price n.left n.time ++ summary_rows t summary
    ++ final_rows t n.amount n.time

abbrev pub trade_write : Row → Sums → Row × Row
trade_write t n = (t, trade_after t n.price n.commission n.tax n.time)

abbrev pub broker_write : Row → Sums → Row × Row
broker_write broker n = (broker, broker_after broker n.commission)

unfoldable pub posting : Row → View → Figures → Posting
posting input v f =
    let t = v.trade in
    let cs = closings t.n1 v.lots in
    let n = sums_of input f in
    record {
      changes =
          lot_changes t cs ++ summary_changes t v.summary ++ account_changes t v.account n.balance
          ++ trade_write t n ∷ [];
      freed = closed_lots cs ++ summary_gone t v.summary;
      added = added t v.summary cs n;
      answer = answer_row t f.tax f.balance f.settlement;
    }

-- "balance, broker's trades or commission total .. would leave its range"
abbrev pub within : Row → Figures → Bool
within b f =
    leb (nat_abs f.balance) money_most && leb (b.n1 + 1) broker_trades.high
    && leb (b.m1 + f.commission) commission_total.high

-- what a result is refused for by what it reads of the account
abbrev pub own_checks : View → Figures → List Check
own_checks v f =
    check (not (is kind_free v.trade)) ResultNoTrade
    ∷ check (eqb v.trade.status submitted) ResultNotSubmitted
    ∷ check (not (untaxed v.account.form v.rates f.walked.bought f.walked.sold)) ResultNoTax
    ∷ check (not (zero_rate v.band)) ResultNoRate
    ∷ check (not (no_band v.band)) ResultNoBand
    ∷ []

-- and by the broker and the room, too
unfoldable pub checks : List Row → Row → View → Figures → List Check
checks rs input v f =
    own_checks v f
    ++ last_checks (within (found (a_broker v.account.n1) rs) f) (length (posting input v f).added) rs

abbrev pub with_broker : Row → ℕ → Posting → Posting
with_broker b commission p = record {
  changes = p.changes ++ (b, broker_after b commission) ∷ [];
  freed = p.freed;
  added = p.added;
  answer = p.answer;
}

-- a result on a sound book's rows
unfoldable pub result : List Row → Row → Outcome
result rs input =
    let v = view rs input in
    let f = figures input v in
    let p = with_broker (found (a_broker v.account.n1) rs) f.commission (posting input v f) in
    decided (checks rs input v f) rs (accepted (p.answer ∷ []) (posted p rs))
