-- Lookup: clause 3.3.6, first frame. "Answers, two records for each in turn: the trade row, then its settlement row
-- or zeros." Assumes nothing.
use Rattle.std.specs.Prelude.{List, [], ◌∷◌}
use Rattle.laws.specs.Search.{every}
use Rattle.record.specs.declared.row.Row.{Row}
use Rattle.model.specs.declared.Status.TheVariants.{LookupNoTrade}
use Rattle.model.specs.Names.{a_settlement, a_trade}
use Rattle.model.specs.Plan.{Check, Outcome, accepted, check, decided}
use Rattle.model.specs.Rows.{found, there}

unfoldable pub looked : List Row → List Row → List Row
looked rs [] = []
looked rs (i ∷ is) = found (a_trade i.id) rs ∷ found (a_settlement i.id) rs ∷ looked rs is

-- what a lookup is refused for
unfoldable pub checks : List Row → List Row → List Check
checks rs inputs = check (every (λ (i : Row). there (a_trade i.id) rs) inputs) LookupNoTrade ∷ []

-- a lookup on a sound book's rows
unfoldable pub lookup : List Row → List Row → Outcome
lookup rs inputs = decided (checks rs inputs) rs (accepted (looked rs inputs) rs)
