-- The volume of the security that is found, which a sound book keeps in its range.
use Rattle.std.proofs.Common.{refl}
use Rattle.hits.specs.Judge.{volume_read}
use Rattle.hits.proofs.judge.volume_of.Goals as goal

pub returns : goal.returns
returns c =
    volume_read _ _ c.requires.1 c.security.ensures refl
    c.typed_at.ensures
