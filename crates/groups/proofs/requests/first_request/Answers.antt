-- The requests on a symbol are a group.
use Rattle.groups.specs.Sums.{requests_grouped}
use Rattle.groups.proofs.requests.first_request.Goals as goal

pub first_of-requires : goal.first_of-requires
first_of-requires c = (c.requires, rw c.requests_of.ensures (requests_grouped c.args.symbol))
