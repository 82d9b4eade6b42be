-- What a row that hangs on a trade (request, trade history, lot, settlement, cash) asks of its trade, by its kind; and
-- which of the trade's eight marks is its own. Assumes nothing.
use Rattle.std.specs.Prelude.{◌≡◌, refl, Bool, true, ◌&&◌, List, [], ◌∷◌, ℕ, eqb, leb, get_or}
use Rattle.std.proofs.Common.{sym, ap, ◌∙◌}
use Rattle.laws.specs.Search.{bit}
use Rattle.record.specs.Codes.{completed, kind_cash, kind_lot, kind_request, kind_settlement, kind_trade_history, pending}
use Rattle.record.specs.declared.row.Row.{Row}
use Rattle.keys.specs.Key.{among}
use Rattle.model.specs.Flags.{cash}
use Rattle.model.specs.Names.{an_account}
use Rattle.model.specs.Rows.{found}
use Rattle.model.specs.Sound.{cash_right}
use Rattle.facts.specs.Names.{of_five}
use Rattle.by_group.specs.Kept.{lot_kept}
use Rattle.by_group.specs.Rules.{agrees_with}

-- the kinds of row that hang on a trade
abbrev pub hung_kinds : List ℕ
hung_kinds = kind_request ∷ kind_trade_history ∷ kind_lot ∷ kind_settlement ∷ kind_cash ∷ []

abbrev pub hangs : Row → Bool
hangs r = among r.kind hung_kinds

-- what a row asks of its trade, where that is there
abbrev request_fits : List Row → Row → Row → Bool
request_fits rs t r = eqb t.status pending && agrees_with (found (an_account t.party) rs).n1 t r

abbrev history_fits : List Row → Row → Row → Bool
history_fits rs t r = leb r.status t.status

abbrev lot_fits : List Row → Row → Row → Bool
lot_fits rs t r = lot_kept rs r

abbrev settlement_fits : List Row → Row → Row → Bool
settlement_fits rs t r = eqb t.status completed && eqb r.flags (bit (cash t.flags))

abbrev cash_fits : List Row → Row → Row → Bool
cash_fits rs t r = cash_right rs r

abbrev pub nothing_asked : List Row → Row → Row → Bool
nothing_asked rs t r = true

-- by the kind's number
abbrev pub hung_rules : List (List Row → Row → Row → Bool)
hung_rules =
    nothing_asked
    ∷ nothing_asked
    ∷ nothing_asked
    ∷ nothing_asked
    ∷ nothing_asked
    ∷ nothing_asked
    ∷ nothing_asked
    ∷ nothing_asked
    ∷ nothing_asked
    ∷ nothing_asked
    ∷ request_fits
    ∷ history_fits
    ∷ lot_fits
    ∷ nothing_asked
    ∷ nothing_asked
    ∷ settlement_fits
    ∷ cash_fits
    ∷ []

unfoldable pub fits_trade : List Row → Row → Row → Bool
fits_trade rs t r = get_or hung_rules r.kind nothing_asked rs t r

pub hung_rule : (k : ℕ) (rs : List Row) (t r : Row) → r.kind ≡ k
    → fits_trade rs t r ≡ get_or hung_rules k nothing_asked rs t r
unfolding fits_trade
hung_rule k rs t r e = ap (λ (x : ℕ). get_or hung_rules x nothing_asked rs t r) e

module _ (rs : List Row) (t r : Row) where
  pub history_fits_holds : r.kind ≡ kind_trade_history → leb r.status t.status ≡ fits_trade rs t r
  history_fits_holds e = sym (hung_rule kind_trade_history rs t r e)

  pub lot_fits_holds : {x : Bool} → r.kind ≡ kind_lot → x ≡ lot_kept rs r → x ≡ fits_trade rs t r
  lot_fits_holds e h = h ∙ sym (hung_rule kind_lot rs t r e)

  pub settlement_fits_holds : {x : Bool} → r.kind ≡ kind_settlement → x ≡ settlement_fits rs t r → x ≡ fits_trade rs t r
  settlement_fits_holds e h = h ∙ sym (hung_rule kind_settlement rs t r e)

  pub cash_fits_holds : {x : Bool} → r.kind ≡ kind_cash → x ≡ cash_right rs r → x ≡ fits_trade rs t r
  cash_fits_holds e h = h ∙ sym (hung_rule kind_cash rs t r e)

  pub as_request : {x : Bool} → r.kind ≡ kind_request → x ≡ request_fits rs t r → x ≡ fits_trade rs t r
  as_request e h = h ∙ sym (hung_rule kind_request rs t r e)

-- a kind that hangs on a trade and is none of these is a request
pub request_kind : (k : ℕ) → among k hung_kinds ≡ true → (k ≡ kind_trade_history → ⊥) → (k ≡ kind_lot → ⊥)
    → (k ≡ kind_settlement → ⊥) → (k ≡ kind_cash → ⊥) → k ≡ kind_request
request_kind k h a b c d =
    of_five (λ (x : ℕ). k ≡ x → k ≡ kind_request) k kind_request kind_trade_history kind_lot kind_settlement kind_cash
    (λ e. e) (λ e. absurd (a e)) (λ e. absurd (b e)) (λ e. absurd (c e)) (λ e. absurd (d e)) h refl

-- ---- the slot of a row that hangs on a trade: eight for each place, those of the trade's place for what hangs on it
abbrev pub no_offset : Row → ℕ
no_offset r = 0

abbrev pub offsets : List (Row → ℕ)
offsets =
    no_offset
    ∷ no_offset
    ∷ no_offset
    ∷ no_offset
    ∷ no_offset
    ∷ no_offset
    ∷ no_offset
    ∷ no_offset
    ∷ no_offset
    ∷ no_offset
    ∷ no_offset
    ∷ (λ r. r.status)
    ∷ (λ r. 5)
    ∷ no_offset
    ∷ no_offset
    ∷ (λ r. 6)
    ∷ (λ r. 7)
    ∷ []

unfoldable pub offset : Row → ℕ
offset r = get_or offsets r.kind no_offset r

pub offset_as : (k : ℕ) (r : Row) → r.kind ≡ k → offset r ≡ get_or offsets k no_offset r
unfolding offset
offset_as k r e = ap (λ (x : ℕ). get_or offsets x no_offset r) e
