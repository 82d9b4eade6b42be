-- The gathered lots are those of the rules, and so is the walk over them from its start.
use Rattle.std.proofs.Common.{ap, ◌∙◌, arith}
use Rattle.std.specs.Prelude.{ℤ}
use Rattle.record.specs.Signed.{up}
use Rattle.units.specs.Units.{shares}
use Rattle.money.specs.Amounts.{above_is}
use Rattle.walk.specs.Walk.{begun, within_most}
use Rattle.walk.specs.declared.Walk.{Walk}
use Rattle.closing.specs.Closing.{priced}
use Rattle.closing.specs.Walked.{walk_is}
use Rattle.estimate.specs.Estimate.{walk_of}
use Rattle.estimate.proofs.figures.closed.Goals as goal

pub walked-requires : goal.walked-requires
walked-requires c =
    let pre = c.requires in
    let few = c.gather-n.ensures.few in
    let most = pre.listed.0.few in
    let none = ap (λ (w : Walk). w.closed) c.start.ensures.value in
    record {
      priced = priced c.gather-n.ensures pre.listed.1;
      within = (within_most _ pre.fits.0.shares.most c.start.ensures.within, omega arith);
    }

pub returns : goal.returns
unfolding walk_of
returns c =
    let a = c.args.input in
    let price = c.args.price in
    let n = a.shares.0 in
    let n-is = above_is n c.requires.fits.0.shares.above in
    let begun-is = c.start.ensures.value ∙ ap (λ (z : ℤ). begun a.trade_type price (shares z)) n-is in (
      walk_is a.trade_type a.flags a.account a.symbol c.of-sought.ensures c.gather-n.ensures
          price (up n) begun-is c.walked.ensures.value,
      c.walked.ensures.within_2,
    )
