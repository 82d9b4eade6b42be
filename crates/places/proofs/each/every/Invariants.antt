-- The records from place i on decide the whole.
use Rattle.std.proofs.Common.{Bool}
use Rattle.laws.specs.Search.{every}
use Rattle.record.specs.declared.row.Row.{Row}
use Rattle.model.specs.Rows.{rows}
use Rattle.places.specs.Each.{Tells}
use Rattle.places.specs.Loop.{Checked}
use Rattle.places.proofs.each.every.Given as goal

abbrev pub invariant-loop-i : goal.invariant-loop-i
invariant-loop-i g l =
    (p : Row → Bool) → Tells (goal.F-post g l.test) l.book p → Checked p l.book (every p (rows l.book)) l.i
