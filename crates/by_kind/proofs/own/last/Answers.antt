-- The chain ends at the row, or the next place of the row's key is the end.
use Rattle.by_kind.specs.Distinct.{last_kept}
use Rattle.by_kind.specs.Told.{ends_last}
use Rattle.by_kind.proofs.own.last.Goals as goal

pub returns-then-n-next : goal.returns-then-n-next
returns-then-n-next c =
    ends_last c.requires.listed c.requires.i_bound.0 c.requires.i_bound.1 c.next.ensures c.if-n-next.true

pub returns : goal.returns
returns c = last_kept _ _ c.requires.i_bound.0 c.row_at-row.ensures c.if-row-eq-FREE.false c.again.ensures
