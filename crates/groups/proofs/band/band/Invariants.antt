-- The plain search has come to place c, and the row there is in the bucket of the bands. A link skips only rows of other
-- buckets, none of which is such a band. The measure is the number of places left.
use Rattle.std.proofs.Common.{◌-◌}
use Rattle.laws.specs.Search.{place}
use Rattle.record.specs.Signed.{up}
use Rattle.model.specs.Band.{band_for}
use Rattle.model.specs.Rows.{rows}
use Rattle.directory.specs.Listed.{Probed}
use Rattle.groups.specs.Sums.{band_group}
use Rattle.groups.proofs.band.band.Given as goal

abbrev pub invariant-loop-c : goal.invariant-loop-c
invariant-loop-c l =
    Probed (band_for l.form l.tier l.exchange (up l.shares.0)) (band_group l.form l.tier l.exchange) l.book l.dir
    (place (band_for l.form l.tier l.exchange (up l.shares.0)) (rows l.book)) l.c

abbrev pub decreases-loop-c : goal.decreases-loop-c
decreases-loop-c l = l.n - l.c
