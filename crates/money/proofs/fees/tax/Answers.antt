-- The gain is at most what was sold; the rest is its part by the rates.
use Rattle.std.proofs.Common.{arith, sym, ◌∙◌}
use Rattle.model.specs.Money.{tax_of}
use Rattle.money.specs.Fees.{tax_gain}
use Rattle.money.proofs.fees.tax.Goals as goal

pub overflow_sub-gain : goal.overflow_sub-gain
overflow_sub-gain c =
    let h = tax_gain _ _ _ c.taxable.ensures c.if-taxable.true in
    omega arith

pub returns-then-taxable-clause-value : goal.returns-then-taxable-clause-value
unfolding tax_of
returns-then-taxable-clause-value c =
    let t = sym c.taxable.ensures ∙ c.if-taxable.true in
    rw (c.part.ensures.value, c.plain.ensures.value, c.plain-then-taxable.ensures.value, c.from.ensures, c.from-then-taxable.ensures, t)

pub returns-clause-value : goal.returns-clause-value
unfolding tax_of
returns-clause-value c = rw (sym c.taxable.ensures ∙ c.if-taxable.false)
