-- For the count and both sums: what is gathered and what is left make the whole; a link skips only rows of other
-- buckets, which add nothing. The measure is the number of places left.
use Rattle.std.proofs.Common.{◌-◌, false, true}
use Rattle.laws.specs.Search.{bit, count}
use Rattle.model.specs.Rows.{rows}
use Rattle.model.specs.Sound.{lot_of}
use Rattle.chains.specs.Group.{lot_group}
use Rattle.directory.specs.Listed.{Tallied}
use Rattle.groups.specs.Sums.{Gathered}
use Rattle.groups.proofs.sums.holding.Given as goal

abbrev pub invariant-loop-at : goal.invariant-loop-at
invariant-loop-at l =
    Tallied (λ r. bit (lot_of l.account.0 l.symbol r)) 1 (lot_group l.account.0 l.symbol) l.book l.dir
    (count (lot_of l.account.0 l.symbol) (rows l.book)) l.many l.at
    × (Gathered false l.account.0 l.symbol l.book l.dir l.long l.at
    × Gathered true l.account.0 l.symbol l.book l.dir l.owed l.at)

abbrev pub decreases-loop-at : goal.decreases-loop-at
decreases-loop-at l = l.n - l.at
