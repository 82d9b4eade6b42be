-- Each value is the one that the rules have of what is read.
use Rattle.figures.specs.Figures.{figures_by}
use Rattle.figures.proofs.figured.Goals as goal

pub returns : goal.returns
unfolding figures_by
returns c = record {
  value =
      rw (
        c.summed.ensures.value,
        c.balance.ensures.value,
        c.is_cash.ensures,
        c.untaxed.ensures,
        c.settlement-amount.ensures.value,
        c.value-worth.ensures.value,
        c.commission-fee.ensures.value,
        c.commission_rate-rate.ensures,
        c.tax-levy.ensures.value,
      );
  up_to = (c.commission-fee.ensures.up_to, c.tax-levy.ensures.up_to);
}
