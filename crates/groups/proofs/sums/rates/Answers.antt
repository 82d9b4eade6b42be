-- Each turn adds what its record adds; a link skips only rows that add nothing.
use Rattle.std.proofs.Common.{refl, arith, rules}
use Rattle.model.specs.Sound.{rates_of}
use Rattle.directory.specs.Listed.{tally_more, walks}
use Rattle.groups.specs.Sums.{rates_counted}
use Rattle.groups.proofs.sums.rates.Goals as goal

pub loop-c-init : goal.loop-c-init
unfolding rates_of
loop-c-init c = search (rules, walks, rates_counted)

pub loop-c-smaller : goal.loop-c-smaller
loop-c-smaller c = search (rules, walks)

pub loop-c-preserved : goal.loop-c-preserved
loop-c-preserved c =
    rw c.plus-sum.ensures
    (tally_more c.loop-c.invariant c.requires (search rules) refl c.rate.ensures (omega arith) c.next-c.ensures)

pub returns : goal.returns
returns c = search (rules, walks)
