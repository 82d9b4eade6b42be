-- The sum so far is that of the entries before place i, each at most what four bytes hold; it and that of what is left
-- make the whole, whatever is counted.
use Rattle.std.proofs.Common.{ℕ, ◌*◌}
use Rattle.laws.specs.Search.{total}
use Rattle.record.specs.Signed.{up}
use Rattle.record.specs.declared.row.Row.{Row}
use Rattle.model.specs.Rows.{rows}
use Rattle.hits.specs.Judge.{Adding, Counts, Many, entry_most}
use Rattle.hits.proofs.judge.sum.Given as goal

abbrev pub invariant-loop-i : goal.invariant-loop-i
invariant-loop-i g l =
    Many (entry_most * l.i) (up l.sum.0) l.sum
    × ((f : Row → ℕ) → Counts (goal.F-post g l.shares) l.input f → Adding f l.input (total f (rows l.input)) l.sum l.i)
