-- Order: clause 3.3.7. Input: one record, kind 33; type; flags cash 1, LIFO 2, roll back 4; party; symbol; n1 shares;
-- n2 bid; n3 executor; time. Assumes nothing.
use Rattle.std.specs.Prelude.{Bool, cond, not, ◌||◌, List, [], ◌∷◌, ℕ, ◌+◌, ◌%◌, eqb, leb, length}
use Rattle.laws.specs.Search.{largest}
use Rattle.record.specs.Codes.{kind_free, kind_order, kind_request, kind_trade, pending, submitted, tms}
use Rattle.record.specs.Symbol.{symbol_number}
use Rattle.record.specs.declared.row.Row.{Row}
use Rattle.rules.specs.Ranges.{flags, form, id, kind, m1, m2, n1, n2, n3, n4, party, status, symbol, trade_number}
use Rattle.rules.specs.Ranges.{when}
use Rattle.model.specs.declared.Status.TheVariants.{OrderNoAccount, OrderNoBand, OrderNoCharge}
use Rattle.model.specs.declared.Status.TheVariants.{OrderNoRate, OrderNoSecurity, OrderNoTax, OrderNotPermitted}
use Rattle.model.specs.declared.BandAnswer.{BandAnswer}
use Rattle.model.specs.Band.{band_answer, commission_rate, no_band, zero_rate}
use Rattle.model.specs.Edit.{◌≔◌, in_symbol, new}
use Rattle.model.specs.Flags.{roll_back}
use Rattle.model.specs.History.{history_row}
use Rattle.model.specs.Lots.{Walk, lots_for, walk}
use Rattle.model.specs.Money.{commission_of, tax_of, untaxed}
use Rattle.model.specs.Names.{a_charge, a_customer, a_permission, a_security, an_account}
use Rattle.model.specs.Plan.{Check, Outcome, Posting, accepted, check, decided, last_checks, posted}
use Rattle.model.specs.Rows.{found, is, there}
use Rattle.model.specs.Sound.{rates_of}

-- "number = largest trade number + 1, or 1"
abbrev pub trade_id : Row → ℕ
trade_id r = cond (is kind_trade r) r.id 0

unfoldable pub next_number : List Row → ℕ
next_number rs = largest trade_id rs + 1

-- "n3 of an order name[s] the executor; zero is the owner, always allowed" (2026-01). Anyone else has a row for the
-- account.
unfoldable pub permitted : List Row → ℕ → ℕ → Bool
permitted rs account executor = eqb executor 0 || there (a_permission account executor) rs

-- all that an order reads, but for the room
pub record View : Type 0 where
  pub account : Row
  pub permitted : Bool
  pub security : Row
  pub charge : ℕ
  pub rates : ℕ
  pub band : BandAnswer
  pub lots : List Row
  pub number : ℕ

unfoldable pub view : List Row → Row → View
view rs input =
    let a = found (an_account input.party) rs in
    let s = found (a_security input.symbol) rs in
    let tier = (found (a_customer a.n2) rs).form in
    record {
      account = a;
      permitted = permitted rs input.party input.n3;
      security = s;
      charge = (found (a_charge input.form tier) rs).n1;
      rates = rates_of rs a.n2;
      band = band_answer rs input.form tier s.form input.n1;
      lots = lots_for rs input.form input.flags input.party input.symbol;
      number = next_number rs;
    }

-- "types 1 and 2, which use the last price"; they get status 2, others 1
abbrev pub at_market : Row → Bool
at_market input = leb input.form tms

abbrev pub price_used : Row → View → ℕ
price_used input v = cond (at_market input) v.security.n1 input.n2

abbrev pub first_status : Row → ℕ
first_status input = cond (at_market input) submitted pending

abbrev pub walked : Row → View → Walk
walked input v = walk input.form (price_used input v) input.n1 v.lots

abbrev pub taxed : Row → View → ℕ
taxed input v = tax_of v.account.form v.rates (walked input v).bought (walked input v).sold

-- "It adds a trade .., with n2 the price used, the charge, the estimated commission and tax zero"
abbrev pub trade_row : Row → ℕ → ℕ → ℕ → ℕ → Row
trade_row input number price charge commission =
    new (
    kind ≔ kind_trade ∷ form ≔ input.form ∷ status ≔ first_status input ∷ flags ≔ (input.flags % 4)
    ∷ party ≔ input.party ∷ id ≔ number ∷ symbol ≔ symbol_number input.symbol ∷ n1 ≔ input.n1 ∷ n2 ≔ price
    ∷ n4 ≔ charge ∷ m1 ≔ commission ∷ when ≔ input.time ∷ [])

abbrev pub request_row : Row → ℕ → ℕ → ℕ → Row
request_row input broker number price =
    new (
    kind ≔ kind_request ∷ form ≔ input.form ∷ party ≔ broker ∷ id ≔ number ∷ symbol ≔ symbol_number input.symbol
    ∷ n1 ≔ input.n1 ∷ n2 ≔ price ∷ [])

-- a trade and its history; a request, where the order is not one at the market's price
abbrev pub added_rows : Row → ℕ → ℕ → ℕ → ℕ → ℕ → List Row
added_rows input broker number price charge commission =
    trade_row input number price charge commission
    ∷ history_row (first_status input) number input.time
    ∷ cond (at_market input) [] (request_row input broker number price ∷ [])

abbrev pub answer_row : ℕ → ℕ → ℕ → ℕ → ℕ → ℕ → ℕ → Row
answer_row number tax charge rate price bought sold =
    new (
    kind ≔ kind_order ∷ id ≔ number ∷ symbol ≔ in_symbol tax ∷ n1 ≔ charge ∷ n2 ≔ rate ∷ n3 ≔ price ∷ m1 ≔ bought
    ∷ m2 ≔ sold ∷ [])

unfoldable pub posting : Row → View → Posting
posting input v =
    let price = price_used input v in
    record {
      changes = [];
      freed = [];
      added =
          added_rows input v.account.n1 v.number price v.charge (commission_of (commission_rate v.band) input.n1 price);
      answer =
          answer_row v.number (taxed input v) v.charge (commission_rate v.band) price (walked input v).bought
          (walked input v).sold;
    }

-- what an order is refused for
unfoldable pub checks : List Row → Row → View → List Check
checks rs input v =
    check (not (is kind_free v.account)) OrderNoAccount
    ∷ check v.permitted OrderNotPermitted
    ∷ check (not (is kind_free v.security)) OrderNoSecurity
    ∷ check (not (untaxed v.account.form v.rates (walked input v).bought (walked input v).sold)) OrderNoTax
    ∷ check (not (zero_rate v.band)) OrderNoRate
    ∷ check (not (no_band v.band)) OrderNoBand
    ∷ check (leb 1 v.charge) OrderNoCharge
    ∷ last_checks (leb v.number trade_number.high) (length (posting input v).added) rs

-- "With roll back, the answer is the one it would have had and the book is unchanged."
abbrev pub rows_after : List Row → Row → Posting → List Row
rows_after rs input p = cond (roll_back input.flags) rs (posted p rs)

-- an order on a sound book's rows
unfoldable pub order : List Row → Row → Outcome
order rs input =
    let v = view rs input in
    let p = posting input v in
    decided (checks rs input v) rs (accepted (p.answer ∷ []) (rows_after rs input p))
