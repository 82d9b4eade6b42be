-- The rule of each kind; a row of any other kind has none.
use Rattle.std.proofs.Common.{arith, sym, ◌∙◌}
use Rattle.record.specs.Codes.{kind_band, kind_customer, kind_lot_history}
use Rattle.clauses.specs.Own.{account_told, own_none, own_rule, permission_told, rate_told}
use Rattle.clauses.proofs.own.right.Goals as goal

pub returns-in-2 : goal.returns-in-2
returns-in-2 c = c.rates_fit.ensures ∙ sym (own_rule kind_customer _ _ (c.requires.i_bound.1 ∙ c.in-2.is))

pub returns-in-4 : goal.returns-in-4
returns-in-4 c = rate_told _ _ (c.requires.i_bound.1 ∙ c.in-4.is) c.rated.ensures

pub returns-in-5 : goal.returns-in-5
returns-in-5 c = account_told _ _ (c.requires.i_bound.1 ∙ c.in-5.is) c.served.ensures

pub returns-in-7 : goal.returns-in-7
returns-in-7 c = c.apart.ensures ∙ sym (own_rule kind_band _ _ (c.requires.i_bound.1 ∙ c.in-7.is))

pub returns-in-14 : goal.returns-in-14
returns-in-14 c = c.done.ensures ∙ sym (own_rule kind_lot_history _ _ (c.requires.i_bound.1 ∙ c.in-14.is))

pub returns-in-17 : goal.returns-in-17
returns-in-17 c = permission_told _ _ (c.requires.i_bound.1 ∙ c.in-17.is) c.granted.ensures

pub returns-in_default : goal.returns-in_default
returns-in_default c =
    let same = sym c.requires.i_bound.1 in
    own_none _ _ (λ e. omega arith) (λ e. omega arith) (λ e. omega arith) (λ e. omega arith) (λ e. omega arith)
    (λ e. omega arith) (λ e. c.requires.fact.0 (same ∙ e)) (λ e. c.requires.fact.1 (same ∙ e))
