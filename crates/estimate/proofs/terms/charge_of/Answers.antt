-- The amount of the record at its place.
use Rattle.std.proofs.Common.{ap, refl, ◌∙◌, pos}
use Rattle.record.specs.declared.row.Row.{Row}
use Rattle.kinds.specs.Kinds.{charge_of}
use Rattle.units.specs.Units.{cents}
use Rattle.kinds.specs.declared.rows.Charge.{Charge}
use Rattle.directory.specs.Found.{key_row}
use Rattle.estimate.proofs.terms.charge_of.Goals as goal

pub returns : goal.returns
unfolding charge_of
returns c =
    ap (λ (x : Charge). x.amount) c.typed_at.ensures
    ∙ ap (λ (r : Row). cents (pos r.n1)) (key_row _ _ c.charge.ensures refl)
