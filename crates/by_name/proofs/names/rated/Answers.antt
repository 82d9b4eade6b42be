-- By the places that are found.
use Rattle.std.proofs.Common.{ap, ◌∙◌}
use Rattle.kinds.specs.Kinds.{customer_rate_of}
use Rattle.directory.specs.Found.{key_there}
use Rattle.by_name.proofs.names.rated.Goals as goal

pub returns : goal.returns
unfolding customer_rate_of
returns c =
    let row = c.from_bytes-row.ensures ∙ ap customer_rate_of c.part.ensures.1 in
    rw (key_there _ _ c.customer.ensures, key_there _ _ c.tax_rate.ensures, row)
