-- Past the end the row of a place is that of nothing.
use Rattle.std.proofs.Common.{sym, ◌∙◌, rules}
use Rattle.places.specs.Rows.{rows_past}
use Rattle.places.proofs.place.row_at.Goals as goal

pub returns : goal.returns
returns c = c.nothing.ensures ∙ sym (rows_past _ _ (search rules))
