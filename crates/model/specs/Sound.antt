-- "A sound book", S1 to S10, each under its own name, as a test over all rows. Assumes nothing.
use Rattle.std.specs.Prelude.{Bool, cond, not, ◌&&◌, ◌||◌, List, ℕ, eqb, leb, ltb, ℤ, pos}
use Rattle.std.specs.Int.Signed.{le_z, lt_z}
use Rattle.std.specs.Int.{w64}
use Rattle.std.proofs.Common.{to_z}
use Rattle.laws.specs.Tests.{◌⇔◌}
use Rattle.laws.specs.Search.{bit, every, count, total, sum_z}
use Rattle.record.specs.Codes.{completed, kind_band, kind_cash, kind_customer, kind_customer_rate, kind_free, kind_lot}
use Rattle.record.specs.Codes.{kind_lot_history, kind_settlement, kind_summary, kind_trade, kind_trade_history, pending, tlb}
use Rattle.keys.specs.Key.{key_of}
use Rattle.record.specs.Symbol.{same_symbol}
use Rattle.record.specs.declared.row.Row.{Row}
use Rattle.record.specs.declared.symbol.Symbol.{Symbol}
use Rattle.rules.specs.Ranges.{tax_part}
use Rattle.rules.specs.Rules.{fits}
use Rattle.model.specs.Flags.{cash}
use Rattle.model.specs.Names.{a_cash, a_history, a_request, a_settlement, a_summary, a_tax_rate, a_trade, an_account}
use Rattle.model.specs.Names.{named}
use Rattle.model.specs.Rows.{found, has_key, is, there}

-- the row is none of this kind, or obeys
abbrev pub each : ℕ → (Row → Bool) → Row → Bool
each k p r = not (is k r) || p r

-- "S1 every record is free or fits the grid."
unfoldable pub s1 : List Row → Bool
s1 rs = every fits rs

-- "S2 keys are unique within a kind." A key holds its kind.
abbrev pub alone : List Row → Row → Bool
alone rs r = is kind_free r || eqb (count (has_key (key_of r)) rs) 1

unfoldable pub s2 : List Row → Bool
s2 rs = every (alone rs) rs

-- "S3 every named broker, customer, rate, account, security and trade is there."
abbrev pub names_known : List Row → Row → Bool
names_known rs r = every (λ k. there k rs) (named r)

unfoldable pub s3 : List Row → Bool
s3 rs = every (names_known rs) rs

-- "S4 bands of equal type, tier and exchange don't overlap." A band overlaps itself, and no other.
abbrev pub overlaps : Row → Row → Bool
overlaps a b =
    is kind_band b && eqb a.form b.form && eqb a.status b.status && eqb a.flags b.flags
    && leb a.n1 b.n2 && leb b.n1 a.n2

abbrev pub band_apart : List Row → Row → Bool
band_apart rs r = eqb (count (overlaps r) rs) 1

unfoldable pub s4 : List Row → Bool
s4 rs = every (each kind_band (band_apart rs)) rs

-- "S5 a customer's rates sum to at most 100,000."
abbrev pub rate_of : List Row → ℕ → Row → ℕ
rate_of rs customer r = cond (is kind_customer_rate r && eqb r.party customer) (found (a_tax_rate r.n1) rs).n1 0

unfoldable pub rates_of : List Row → ℕ → ℕ
rates_of rs customer = total (rate_of rs customer) rs

abbrev pub rates_fit : List Row → Row → Bool
rates_fit rs r = leb (rates_of rs r.party) tax_part.high

unfoldable pub s5 : List Row → Bool
s5 rs = every (each kind_customer (rates_fit rs)) rs

-- "S6 a trade of status 1 has type 3, 4 or 5 and one request that agrees; no other trade has one."
abbrev pub agrees : List Row → Row → Row → Bool
agrees rs t r =
    has_key (a_request t.id) r && eqb r.form t.form && same_symbol r.symbol t.symbol && eqb r.n1 t.n1
    && eqb r.n2 t.n2 && eqb r.party (found (an_account t.party) rs).n1

abbrev pub request_right : List Row → Row → Bool
request_right rs t =
    cond (eqb t.status pending) (leb tlb t.form && eqb (count (agrees rs t) rs) 1)
    (eqb (count (has_key (a_request t.id)) rs) 0)

unfoldable pub s6 : List Row → Bool
s6 rs = every (each kind_trade (request_right rs)) rs

-- "S7 a trade has the history row of its present status and none of a higher one."
abbrev pub higher : Row → Row → Bool
higher t r = is kind_trade_history r && eqb r.id t.id && ltb t.status r.status

abbrev pub history_right : List Row → Row → Bool
history_right rs t = there (a_history t.id t.status) rs && eqb (count (higher t) rs) 0

unfoldable pub s7 : List Row → Bool
s7 rs = every (each kind_trade (history_right rs)) rs

-- "S8 a lot names a completed trade of its account and symbol. Lots of one account and symbol have one sign. A
-- summary exists exactly where lots do and equals their sum."
abbrev pub lot_of : ℕ → Symbol → Row → Bool
lot_of account symbol r = is kind_lot r && eqb r.party account && same_symbol r.symbol symbol

abbrev pub short : Row → Bool
short r = lt_z (to_z w64 r.m1) (pos 0)

abbrev pub other_sign : Row → Row → Bool
other_sign l r = lot_of l.party l.symbol r && not (short l ⇔ short r)

abbrev pub lot_right : List Row → Row → Bool
lot_right rs l =
    eqb (found (a_trade l.id) rs).status completed && eqb (found (a_trade l.id) rs).party l.party
    && same_symbol (found (a_trade l.id) rs).symbol l.symbol && eqb (count (other_sign l) rs) 0
    && there (a_summary l.party l.symbol) rs

abbrev pub shares_of : ℕ → Symbol → Row → ℤ
shares_of account symbol r = cond (lot_of account symbol r) (to_z w64 r.m1) (pos 0)

abbrev pub equal_z : ℤ → ℤ → Bool
equal_z a b = le_z a b && le_z b a

abbrev pub summary_right : List Row → Row → Bool
summary_right rs s =
    leb 1 (count (lot_of s.party s.symbol) rs)
    && equal_z (sum_z (shares_of s.party s.symbol) rs) (to_z w64 s.m1)

unfoldable pub s8 : List Row → Bool
s8 rs = every (λ r. each kind_lot (lot_right rs) r && each kind_summary (summary_right rs) r) rs

-- "S9 a settlement exists exactly for a completed trade, its flag the trade's cash flag; a cash row exactly where
-- that flag is 1, with the same amount."
abbrev pub settled : List Row → Row → Bool
settled rs t = eqb (count (has_key (a_settlement t.id)) rs) (bit (eqb t.status completed))

abbrev pub settlement_right : List Row → Row → Bool
settlement_right rs s =
    eqb s.flags (bit (cash (found (a_trade s.id) rs).flags)) && eqb (count (has_key (a_cash s.id)) rs) s.flags

abbrev pub cash_right : List Row → Row → Bool
cash_right rs c =
    eqb (found (a_settlement c.id) rs).flags 1 && eqb (found (a_settlement c.id) rs).m1 c.m1

unfoldable pub s9 : List Row → Bool
s9 rs =
    every (λ r. each kind_trade (settled rs) r && each kind_settlement (settlement_right rs) r
    && each kind_cash (cash_right rs) r) rs

-- "S10 both trades of a lot history are completed."
abbrev pub trades_done : List Row → Row → Bool
trades_done rs r =
    eqb (found (a_trade r.id) rs).status completed && eqb (found (a_trade r.m2) rs).status completed

unfoldable pub s10 : List Row → Bool
s10 rs = every (each kind_lot_history (trades_done rs)) rs

unfoldable pub sound : List Row → Bool
sound rs = s1 rs && s2 rs && s3 rs && s4 rs && s5 rs && s6 rs && s7 rs && s8 rs && s9 rs && s10 rs
