-- The exchange of the row of the security's key.
use Rattle.std.proofs.Common.{ap, refl}
use Rattle.record.specs.declared.row.Row.{Row}
use Rattle.kinds.specs.Kinds.{security_of}
use Rattle.directory.specs.Found.{key_row}
use Rattle.reading.proofs.terms.exchange.Goals as goal

pub returns : goal.returns
unfolding security_of
returns c =
    rw c.typed_at.ensures
    (ap (λ (r : Row). r.form) (key_row _ _ c.security.ensures refl))
