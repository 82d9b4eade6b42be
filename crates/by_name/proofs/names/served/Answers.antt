-- By the places that are found.
use Rattle.std.proofs.Common.{ap, ◌∙◌}
use Rattle.kinds.specs.Kinds.{account_of}
use Rattle.directory.specs.Found.{key_there}
use Rattle.by_name.proofs.names.served.Goals as goal

pub returns : goal.returns
unfolding account_of
returns c =
    let row = c.from_bytes-row.ensures ∙ ap account_of c.part.ensures.1 in
    rw (key_there _ _ c.broker.ensures, key_there _ _ c.customer.ensures, row)
