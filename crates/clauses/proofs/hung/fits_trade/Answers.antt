-- What each kind asks of its trade.
use Rattle.std.proofs.Common.{sym, ap, ◌∙◌, ℕ, arith}
use Rattle.keys.specs.Key.{among}
use Rattle.clauses.specs.Hung.{as_request, cash_fits_holds, history_fits_holds, hung_kinds, lot_fits_holds, request_kind}
use Rattle.clauses.specs.Hung.{settlement_fits_holds}
use Rattle.clauses.proofs.hung.fits_trade.Goals as goal

pub returns-in-11 : goal.returns-in-11
returns-in-11 c = c.reached.ensures ∙ history_fits_holds _ _ _ (c.requires.i_value.0 ∙ c.in-11.is)

pub returns-in-12 : goal.returns-in-12
returns-in-12 c = lot_fits_holds _ _ _ (c.requires.i_value.0 ∙ c.in-12.is) c.held.ensures

pub returns-in-15 : goal.returns-in-15
returns-in-15 c = settlement_fits_holds _ _ _ (c.requires.i_value.0 ∙ c.in-15.is) c.settles.ensures

pub returns-in-16 : goal.returns-in-16
returns-in-16 c = cash_fits_holds _ _ _ (c.requires.i_value.0 ∙ c.in-16.is) c.due.ensures

pub returns-in_default : goal.returns-in_default
returns-in_default c =
    let kind = c.requires.i_value.0 in
    let hung = ap (λ (k : ℕ). among k hung_kinds) (sym kind) ∙ c.requires.i_value.1 in
    let asked =
    request_kind c.args.kind hung (λ e. omega arith) (λ e. omega arith) (λ e. omega arith) (λ e. omega arith)
    in
    as_request _ _ _ (kind ∙ asked) c.asked.ensures
