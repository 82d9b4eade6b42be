-- The sum so far and that of what is left make the whole; a link skips only rows of other buckets, which add nothing.
-- The measure is the number of places left.
use Rattle.std.proofs.Common.{◌-◌}
use Rattle.model.specs.Rows.{rows}
use Rattle.model.specs.Sound.{rate_of, rates_of}
use Rattle.directory.specs.Listed.{Tallied}
use Rattle.groups.specs.Sums.{rate_group}
use Rattle.groups.proofs.sums.rates.Given as goal

abbrev pub invariant-loop-c : goal.invariant-loop-c
invariant-loop-c l =
    Tallied (rate_of (rows l.book) l.customer.0) 4294967295 (rate_group l.customer.0) l.book l.dir
    (rates_of (rows l.book) l.customer.0) l.sum.0 l.c

abbrev pub decreases-loop-c : goal.decreases-loop-c
decreases-loop-c l = l.n - l.c
