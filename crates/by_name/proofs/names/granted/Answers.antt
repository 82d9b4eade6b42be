-- By the place that is found.
use Rattle.std.proofs.Common.{ap, ◌∙◌}
use Rattle.kinds.specs.Kinds.{permission_of}
use Rattle.directory.specs.Found.{key_there}
use Rattle.by_name.proofs.names.granted.Goals as goal

pub returns : goal.returns
unfolding permission_of
returns c =
    let row = c.from_bytes-row.ensures ∙ ap permission_of c.part.ensures.1 in
    rw (key_there _ _ c.account.ensures, row)
