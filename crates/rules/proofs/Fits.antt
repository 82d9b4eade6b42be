-- The rule of a row's own kind means that the row is free or fits the grid: the table of the kinds, each with its test and
-- what it means.
use Rattle.std.specs.Prelude.{◌≡◌, Bool, false, List, [], ◌∷◌, get_or}
use Rattle.std.proofs.Common.{sym, ap, ◌∙◌}
use Rattle.std.proofs.lemmas.Bool.{false≢true}
use Rattle.std.proofs.Math.ListN.{get_or-map}
use Rattle.laws.specs.Tests.{Means}
use Rattle.record.specs.declared.row.Row.{Row}
use Rattle.rules.specs.Rules.{account, band, broker, cash, charge, customer, customer_rate, fits, free, lot}
use Rattle.rules.specs.Rules.{lot_history, permission, request, security, settlement, summary, tax_rate, trade}
use Rattle.rules.specs.Rules.{trade_history}
use Rattle.rules.specs.Meaning.{Account, Band, Broker, Cash, Charge, Customer, CustomerRate, Free, Lot, LotHistory}
use Rattle.rules.specs.Meaning.{Permission, Request, Security, Settlement, Summary, TaxRate, Trade, TradeHistory}
use Rattle.rules.specs.Meaning.{means_account, means_band, means_broker, means_cash, means_charge, means_customer}
use Rattle.rules.specs.Meaning.{means_customer_rate, means_free, means_lot, means_lot_history, means_permission}
use Rattle.rules.specs.Meaning.{means_request, means_security, means_settlement, means_summary, means_tax_rate}
use Rattle.rules.specs.Meaning.{means_trade, means_trade_history}

-- ---- the rule of a row's own kind
pub record Rule : Type 1 where
  pub test : Row → Bool
  pub Meaning : Row → Type 0
  pub means : (r : Row) → Means (test r) (Meaning r)

abbrev no_rule : Rule
no_rule = record {
  test = λ r. false;
  Meaning = λ r. ⊥;
  means = λ r. record { shows = λ e. false≢true e; holds = λ h. absurd h };
}

abbrev grid : List Rule
grid =
    record { test = free; Meaning = Free; means = means_free }
    ∷ record { test = broker; Meaning = Broker; means = means_broker }
    ∷ record { test = customer; Meaning = Customer; means = means_customer }
    ∷ record { test = tax_rate; Meaning = TaxRate; means = means_tax_rate }
    ∷ record { test = customer_rate; Meaning = CustomerRate; means = means_customer_rate }
    ∷ record { test = account; Meaning = Account; means = means_account }
    ∷ record { test = security; Meaning = Security; means = means_security }
    ∷ record { test = band; Meaning = Band; means = means_band }
    ∷ record { test = charge; Meaning = Charge; means = means_charge }
    ∷ record { test = trade; Meaning = Trade; means = means_trade }
    ∷ record { test = request; Meaning = Request; means = means_request }
    ∷ record { test = trade_history; Meaning = TradeHistory; means = means_trade_history }
    ∷ record { test = lot; Meaning = Lot; means = means_lot }
    ∷ record { test = summary; Meaning = Summary; means = means_summary }
    ∷ record { test = lot_history; Meaning = LotHistory; means = means_lot_history }
    ∷ record { test = settlement; Meaning = Settlement; means = means_settlement }
    ∷ record { test = cash; Meaning = Cash; means = means_cash }
    ∷ record { test = permission; Meaning = Permission; means = means_permission }
    ∷ []

-- the row is free or fits the grid
abbrev pub Fits : Row → Type 0
Fits r = (get_or grid r.kind no_rule).Meaning r

by_rule : (r : Row) → fits r ≡ (get_or grid r.kind no_rule).test r
unfolding fits
by_rule r = ap (λ (f : Row → Bool). f r) (get_or-map (λ (u : Rule). u.test) grid r.kind no_rule)

pub means_fits : (r : Row) → Means (fits r) (Fits r)
means_fits r =
    let m = (get_or grid r.kind no_rule).means r in
    record { shows = λ e. m.shows (sym (by_rule r) ∙ e); holds = λ h. by_rule r ∙ m.holds h }
