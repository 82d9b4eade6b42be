-- The count so far and that of what is left make the whole; a link skips only rows of other buckets, which count
-- nothing. The measure is the number of places left.
use Rattle.std.proofs.Common.{◌-◌}
use Rattle.laws.specs.Search.{bit, count}
use Rattle.model.specs.Rows.{rows}
use Rattle.directory.specs.Listed.{Tallied}
use Rattle.groups.specs.Sums.{band_group, meets}
use Rattle.groups.proofs.sums.overlapping.Given as goal

abbrev pub invariant-loop-c : goal.invariant-loop-c
invariant-loop-c l =
    Tallied (λ r. bit (meets l.band r)) 1 (band_group l.band.trade_type l.band.tier l.band.exchange) l.book l.dir
    (count (meets l.band) (rows l.book)) l.sum l.c

abbrev pub decreases-loop-c : goal.decreases-loop-c
decreases-loop-c l = l.n - l.c
