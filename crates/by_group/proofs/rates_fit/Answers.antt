-- By the sum of the rates.
use Rattle.std.proofs.Common.{ap, ◌∙◌}
use Rattle.kinds.specs.Kinds.{customer_of}
use Rattle.by_group.proofs.rates_fit.Goals as goal

pub returns : goal.returns
unfolding customer_of
returns c =
    let row = c.from_bytes-c.ensures ∙ ap customer_of c.part.ensures.1 in
    rw (c.fit.ensures, c.rates.ensures, row)
