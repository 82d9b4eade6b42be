-- The parts are summed as the rules say, and none of them is below zero.
use Rattle.std.proofs.Common.{ap}
use Rattle.record.specs.Signed.{up}
use Rattle.units.specs.Units.{cents}
use Rattle.money.specs.Settle.{bought_is, sold_is}
use Rattle.money.proofs.settle.settlement.Goals as goal

pub returns-then-buys-clause-value : goal.returns-then-buys-clause-value
returns-then-buys-clause-value c =
    let a = c.args in
    let p = c.requires in
    let is =
    bought_is a.trade_type a.tax_status a.value.0 a.charge.0 a.commission.0 (up a.tax.0)
    p.up_to.0.above p.up_to.1.above p.up_to_2.0.above c.buys.ensures c.if-buys.true
    in
    rw (
      c.less.ensures.value,
      c.negated.ensures.value,
      c.plus-paid.ensures.value,
      c.plus-with_charge.ensures.value,
      c.withheld-kept.ensures.value,
    )
    (ap cents is)

pub returns-clause-value : goal.returns-clause-value
returns-clause-value c =
    let a = c.args in
    let p = c.requires in
    let is =
    sold_is a.trade_type a.tax_status a.value.0 a.charge.0 a.commission.0 (up a.tax.0)
    p.up_to.0.above p.up_to.1.above p.up_to_2.0.above c.buys.ensures c.if-buys.false
    in
    rw (
      c.less-2.ensures.value,
      c.less-received.ensures.value,
      c.less-without_charge.ensures.value,
      c.withheld-kept.ensures.value,
    )
    (ap cents is)
