-- Demand 2: each status is given exactly when its condition holds and no earlier one does. For each call its lines of
-- the table "Status numbers, in order of checking", each condition as the rules say it; and one claim over every call,
-- all bytes and all lengths, said twice: for each status, `Demand2`, and line by line, `LineByLine`. What a call that
-- succeeds leaves in the book and in the answer is what the rules define, by its promise: `Promise` of the model's
-- Call.antt. Proved in Checked.antt and LineByLine.antt. Assumes nothing.
use Rattle.std.specs.Prelude.{◌≡◌, ◌⊎◌, ◌↔◌, ℕ, ◌+◌, ◌*◌, ◌%◌, ◌≤◌, ◌<◌, ℤ, nat_abs, length}
use mathlib.Core.List.{List, [], ◌∷◌, ◌++◌, Memᴰ}
use Rattle.laws.specs.Search as laws
use Rattle.record.specs.Codes.{kind_account, kind_band, kind_charge, kind_permission, kind_security, kind_trade, submitted}
use Rattle.record.specs.Grid.{decode}
use Rattle.record.specs.declared.row.Row.{Row}
use Rattle.record.specs.declared.symbol.Symbol.{Symbol}
use Rattle.rules.specs.Meaning.{FeedInput, LookupInput, OrderInput, ResultInput}
use Rattle.rules.specs.Ranges.{broker_trades, commission_total, money_most, trade_number, volume}
use Rattle.model.specs.declared.Status.{Status}
use Rattle.model.specs.declared.Status.TheVariants.{BadBook, BadInput, BadLength, Done, FeedNoSecurity, LookupNoTrade}
use Rattle.model.specs.declared.Status.TheVariants.{NoRoom, OrderNoAccount, OrderNoBand, OrderNoCharge, OrderNoRate}
use Rattle.model.specs.declared.Status.TheVariants.{OrderNoSecurity, OrderNoTax, OrderNotPermitted, OverLimit}
use Rattle.model.specs.declared.Status.TheVariants.{ResultNoBand, ResultNoRate, ResultNoTax, ResultNoTrade}
use Rattle.model.specs.declared.Status.TheVariants.{ResultNotSubmitted, Unsound}
use Rattle.model.specs.declared.BandAnswer.{BandAnswer}
use Rattle.model.specs.declared.BandAnswer.TheVariants.{NoBand, Rate, ZeroRate}
use Rattle.model.specs.Call.{Call, Promise, a_feed, a_lookup, a_result, an_order, most_inputs, run}
use Rattle.model.specs.Feed.{Fed, applied}
use Rattle.model.specs.Lots.{Walk}
use Rattle.model.specs.Names.{a_broker, a_customer, a_security}
use Rattle.model.specs.Order as order
use Rattle.model.specs.Plan.{room}
use Rattle.model.specs.Result as result
use Rattle.model.specs.Rows.{found, most_records, record_size, rows}
use Rattle.model.specs.SoundMeans.{SoundBook}
use Rattle.model.specs.Status.{number}

-- ---- a line of the table, and what a table gives
pub record Line : Type 1 where
  pub status : Status
  pub When : Type 0

infix 30 ◌when◌
abbrev ◌when◌ : Status → Type 0 → Line
s when P = record { status = s; When = P }

-- the condition of a line with this status holds, and no earlier line's does; success where none holds
abbrev pub Due : Status → List Line → Type 0
Due s [] = s ≡ Done
Due s (l ∷ ls) = ((l.status ≡ s) × l.When) ⊎ ((l.When → ⊥) × Due s ls)

-- ---- words
abbrev pub Some : {A : Type 0} → (A → Type 0) → List A → Type 0
Some {A} P l = (x : A) × Memᴰ x l × P x

abbrev pub None : {A : Type 0} → (A → Type 0) → List A → Type 0
None {A} P l = (x : A) → Memᴰ x l → P x → ⊥

abbrev pub All : {A : Type 0} → (A → Type 0) → List A → Type 0
All {A} P l = (x : A) → Memᴰ x l → P x

-- 1 to `most` records of 64 bytes
abbrev pub Records : ℕ → ℕ → Type 0
Records most n = (record_size ≤ n) × (n % record_size ≡ 0) × (n ≤ most * record_size)

abbrev pub Account : ℕ → Row → Type 0
Account number r = (r.kind ≡ kind_account) × (r.party ≡ number)

-- the executor may order for the account
abbrev pub Permission : ℕ → ℕ → Row → Type 0
Permission account executor r = (r.kind ≡ kind_permission) × (r.party ≡ account) × (r.n1 ≡ executor)

abbrev pub Security : Symbol → Row → Type 0
Security symbol r = (r.kind ≡ kind_security) × (r.symbol ≡ symbol)

abbrev pub Trade : ℕ → Row → Type 0
Trade number r = (r.kind ≡ kind_trade) × (r.id ≡ number)

abbrev pub Charge : ℕ → ℕ → Row → Type 0
Charge form tier r = (r.kind ≡ kind_charge) × (r.form ≡ form) × (r.status ≡ tier)

-- a commission band that holds so many shares
abbrev pub Band : ℕ → ℕ → ℕ → ℕ → Row → Type 0
Band form tier exchange shares r =
    (r.kind ≡ kind_band) × (r.form ≡ form) × (r.status ≡ tier) × (r.flags ≡ exchange) × (r.n1 ≤ shares)
    × (shares ≤ r.n2)

-- what an answer of the search for a band says of the bands that hold the shares: "a rate, a band with rate zero, or no
-- band"
abbrev pub Answers : (Row → Type 0) → List Row → BandAnswer → Type 0
Answers P rs (Rate rate) = (1 ≤ rate.0) × Some (λ r. P r × (r.n3 ≡ rate.0)) rs
Answers P rs ZeroRate = Some (λ r. P r × (r.n3 ≡ 0)) rs
Answers P rs NoBand = None P rs

-- there is no such row, or there is one with zero in a field
abbrev pub ZeroOrNone : (Row → Type 0) → (Row → ℕ) → List Row → Type 0
ZeroOrNone P field rs = None P rs ⊎ Some (λ r. P r × (field r ≡ 0)) rs

-- "there is a gain, the tax status is 1 or 2 and the customer's rates sum to zero"
abbrev pub Untaxed : ℕ → ℕ → Walk → Type 0
Untaxed tax_status rates w = (w.bought < w.sold) × ((tax_status ≡ 1) ⊎ (tax_status ≡ 2)) × (rates ≡ 0)

-- the tier of an account's customer, and the exchange of a security
abbrev pub tier_of : List Row → Row → ℕ
tier_of rs account = (found (a_customer account.n2) rs).form

abbrev pub exchange_of : List Row → Symbol → ℕ
exchange_of rs symbol = (found (a_security symbol) rs).form

-- ---- the lines that every call has
abbrev pub RightLengths : Call → ℕ → ℕ → Type 0
RightLengths an_order input answer = (input ≡ record_size) × (answer ≡ record_size)
RightLengths a_result input answer = (input ≡ record_size) × (answer ≡ record_size)
RightLengths a_feed input answer = Records most_inputs input × (answer ≡ record_size)
RightLengths a_lookup input answer = Records most_inputs input × (answer ≡ 2 * input)

abbrev pub RightFields : Call → List ℕ → Type 0
RightFields an_order input = OrderInput (decode input)
RightFields a_result input = ResultInput (decode input)
RightFields a_feed input = All FeedInput (rows input)
RightFields a_lookup input = All LookupInput (rows input)

abbrev pub opening : Call → List ℕ → List ℕ → List ℕ → List Line
opening c book input answer =
    -- "input or answer area has the wrong length"
    (BadLength when (RightLengths c (length input) (length answer) → ⊥))
    -- "book length is 0, no multiple of 64, or over 4,096 records"
    ∷ (BadBook when ((length book ≡ 0) ⊎ ((length book % record_size ≡ 0 → ⊥)
    ⊎ (most_records * record_size < length book))))
    -- "the book is not sound"
    ∷ (Unsound when (SoundBook (rows book) → ⊥))
    -- "an input field breaks its rule"
    ∷ (BadInput when (RightFields c input → ⊥))
    ∷ []

-- ---- order
abbrev pub order_lines : List Row → Row → List Line
order_lines rs i =
    let v = order.view rs i in
    let tier = tier_of rs v.account in
    let band = Band i.form tier (exchange_of rs i.symbol) i.n1 in
    -- "no such account"
    (OrderNoAccount when None (Account i.party) rs)
    -- "when a named executor has no row"; "zero is the owner"
    ∷ (OrderNotPermitted when ((i.n3 ≡ 0 → ⊥) × None (Permission i.party i.n3) rs))
    -- "no such security"
    ∷ (OrderNoSecurity when None (Security i.symbol) rs)
    -- "there is a gain, the tax status is 1 or 2 and the customer's rates sum to zero"
    ∷ (OrderNoTax when Untaxed v.account.form v.rates (order.walked i v))
    -- "a band with rate zero"; "no band"
    ∷ (OrderNoRate when Answers band rs ZeroRate)
    ∷ (OrderNoBand when Answers band rs NoBand)
    -- "charge 0 or no row"
    ∷ (OrderNoCharge when ZeroOrNone (Charge i.form tier) (λ r. r.n1) rs)
    -- "trade number .. would leave its range"
    ∷ (OverLimit when (trade_number.high < order.next_number rs))
    -- "free places at entry are fewer than rows to add"
    ∷ (NoRoom when (room rs < length (order.posting i v).added))
    ∷ []

-- ---- result
abbrev pub result_lines : List Row → Row → List Line
result_lines rs i =
    let v = result.view rs i in
    let t = v.trade in
    let f = result.figures i v in
    let broker = found (a_broker v.account.n1) rs in
    let band = Band t.form (tier_of rs v.account) (exchange_of rs t.symbol) t.n1 in
    -- "no such trade; its status is not 2"
    (ResultNoTrade when None (Trade i.id) rs)
    ∷ (ResultNotSubmitted when (t.status ≡ submitted → ⊥))
    -- "as -731"; "a band with rate zero"; "no band"
    ∷ (ResultNoTax when Untaxed v.account.form v.rates f.walked)
    ∷ (ResultNoRate when Answers band rs ZeroRate)
    ∷ (ResultNoBand when Answers band rs NoBand)
    -- "balance, broker's trades or commission total .. would leave its range"
    ∷ (OverLimit when ((money_most < nat_abs f.balance) ⊎ ((broker_trades.high < broker.n1 + 1)
    ⊎ (commission_total.high < broker.m1 + f.commission))))
    -- "free places at entry are fewer than rows to add"
    ∷ (NoRoom when (room rs < length (result.posting i v f).added))
    ∷ []

-- ---- feed
-- the rows when all entries have been applied, and how many trades they submit: a history row for each is added
abbrev pub fed_by : List Row → List Row → Fed
fed_by rs es = laws.run applied (record { rows = rs; trades = 0 }) es

abbrev pub feed_lines : List Row → List Row → List Line
feed_lines rs es =
    -- "an entry's security is unknown"
    (FeedNoSecurity when Some (λ e. None (Security e.symbol) rs) es)
    -- ".. or volume would leave its range"
    ∷ (OverLimit when Some (λ e. volume.high < (found (a_security e.symbol) (fed_by rs es).rows).m1) es)
    -- "free places at entry are fewer than rows to add"
    ∷ (NoRoom when (room rs < (fed_by rs es).trades))
    ∷ []

-- ---- lookup
abbrev pub lookup_lines : List Row → List Row → List Line
lookup_lines rs is =
    -- "a trade is unknown"
    (LookupNoTrade when Some (λ i. None (Trade i.id) rs) is)
    ∷ []

-- ---- the table of a call
abbrev pub own_lines : Call → List Row → List ℕ → List Line
own_lines an_order rs input = order_lines rs (decode input)
own_lines a_result rs input = result_lines rs (decode input)
own_lines a_feed rs input = feed_lines rs (rows input)
own_lines a_lookup rs input = lookup_lines rs (rows input)

abbrev pub table : Call → List ℕ → List ℕ → List ℕ → List Line
table c book input answer = opening c book input answer ++ own_lines c (rows book) input

abbrev pub Demand2 : Type 0
Demand2 =
    (c : Call) (book input answer : List ℕ) (returned : ℤ) (book' answer' : List ℕ)
    → Promise (run c book input answer) returned book' answer'
    → (s : Status) → (returned ≡ number s) ↔ Due s (table c book input answer)

-- ---- the same, line by line: a line's status is given exactly when its condition holds and no earlier one does, and
-- success exactly when none does
abbrev pub Exactly : ℤ → Type 0 → List Line → Type 0
Exactly n NoEarlier [] = (n ≡ number Done) ↔ NoEarlier
Exactly n NoEarlier (l ∷ ls) =
    ((n ≡ number l.status) ↔ (NoEarlier × l.When)) × Exactly n (NoEarlier × (l.When → ⊥)) ls

abbrev pub LineByLine : Type 0
LineByLine =
    (c : Call) (book input answer : List ℕ) (returned : ℤ) (book' answer' : List ℕ)
    → Promise (run c book input answer) returned book' answer'
    → Exactly returned (Unit {0}) (table c book input answer)
