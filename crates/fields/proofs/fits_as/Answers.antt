-- The two parts of the rule, of the row that the bytes hold.
use Rattle.std.proofs.Common.{refl, ap, ◌∙◌}
use Rattle.record.specs.declared.row.Row.{Row}
use Rattle.rules.specs.Beyond.{in_two}
use Rattle.rules.specs.Ranges.{ranges}
use Rattle.rules.specs.Rules.{obeys, shaped}
use Rattle.fields.proofs.fits_as.Goals as goal

pub returns : goal.returns
returns c =
    let a = c.args in
    in_two _ _ refl c.in_limits.ensures c.beyond.ensures
    ∙ ap (λ (r : Row). obeys (shaped (ranges a.limits) a.more) r) c.read-r.ensures
