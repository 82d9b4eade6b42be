-- A trade takes a status: the row of its history that says so. Assumes nothing.
use Rattle.std.specs.Prelude.{[], ◌∷◌, ℕ}
use Rattle.record.specs.Codes.{kind_trade_history}
use Rattle.record.specs.declared.row.Row.{Row}
use Rattle.rules.specs.Ranges.{id, kind, status, when}
use Rattle.model.specs.Edit.{◌≔◌, new}

abbrev pub history_row : ℕ → ℕ → ℕ → Row
history_row taken number time =
    new (kind ≔ kind_trade_history ∷ status ≔ taken ∷ id ≔ number ∷ when ≔ time ∷ [])
