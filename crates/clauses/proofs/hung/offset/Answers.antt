-- The offset of each kind.
use Rattle.std.proofs.Common.{sym, ap, ◌∙◌, ℕ, arith}
use Rattle.record.specs.Codes.{kind_cash, kind_lot, kind_request, kind_settlement, kind_trade_history}
use Rattle.keys.specs.Key.{among}
use Rattle.clauses.specs.Hung.{hung_kinds, offset_as, request_kind}
use Rattle.clauses.proofs.hung.offset.Goals as goal

pub returns-in-11 : goal.returns-in-11
returns-in-11 c =
    c.from.ensures ∙ c.past.ensures ∙ sym (offset_as kind_trade_history _ (c.requires.i_bound.1 ∙ c.in-11.is))

pub returns-in-12 : goal.returns-in-12
returns-in-12 c = sym (offset_as kind_lot _ (c.requires.i_bound.1 ∙ c.in-12.is))

pub returns-in-15 : goal.returns-in-15
returns-in-15 c = sym (offset_as kind_settlement _ (c.requires.i_bound.1 ∙ c.in-15.is))

pub returns-in-16 : goal.returns-in-16
returns-in-16 c = sym (offset_as kind_cash _ (c.requires.i_bound.1 ∙ c.in-16.is))

pub returns-in_default : goal.returns-in_default
returns-in_default c =
    let kind = c.requires.i_bound.1 in
    let hung = ap (λ (k : ℕ). among k hung_kinds) (sym kind) ∙ c.requires.i_value in
    let asked =
    request_kind c.args.kind hung (λ e. omega arith) (λ e. omega arith) (λ e. omega arith) (λ e. omega arith)
    in
    sym (offset_as kind_request _ (kind ∙ asked))
