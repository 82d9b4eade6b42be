-- The tier of the row of the customer's key.
use Rattle.std.proofs.Common.{ap, refl}
use Rattle.record.specs.declared.row.Row.{Row}
use Rattle.kinds.specs.Kinds.{customer_of}
use Rattle.directory.specs.Found.{key_row}
use Rattle.groups.proofs.band.tier.Goals as goal

pub returns : goal.returns
unfolding customer_of
returns c =
    rw c.typed_at.ensures
    (ap (λ (r : Row). r.form) (key_row _ _ c.customer.ensures refl))
