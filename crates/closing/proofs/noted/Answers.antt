-- The place is written, and counted as the lot that stands there tells.
use Rattle.kinds.specs.Kinds.{lot_of}
use Rattle.closing.proofs.noted.Goals as goal

pub returns-clause-value : goal.returns-clause-value
unfolding lot_of
returns-clause-value c = rw (c.bit.ensures.0, c.faces.ensures, c.typed_at.ensures)
