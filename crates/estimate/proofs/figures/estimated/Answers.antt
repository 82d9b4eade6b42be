-- A sound book and a good input keep all values in their range, and each is the one of the definition.
use Rattle.std.proofs.Common.{rules}
use Rattle.estimate.specs.Estimate.{estimate_is, price_fits}
use Rattle.estimate.proofs.figures.estimated.Goals as goal

pub closed-w-requires : goal.closed-w-requires
closed-w-requires c =
    let a = c.args in
    let pre = c.requires in
    record {
      listed = pre.listed;
      fits = (pre.fits.0, price_fits a.input a.terms pre.fits.0 pre.fits.1 c.price_used-price.ensures);
    }

pub commission-requires : goal.commission-requires
commission-requires c =
    let a = c.args in
    let fits = c.requires.fits.0 in
    let ranged = c.requires.fits.1 in (
      rw c.commission_rate-rate.ensures ranged.rate,
      fits.shares.most,
      price_fits a.input a.terms fits ranged c.price_used-price.ensures,
    )

pub returns : goal.returns
returns c = search (rules, estimate_is)
