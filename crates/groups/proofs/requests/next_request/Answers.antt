-- The requests on a symbol are a group.
use Rattle.groups.specs.Sums.{requests_grouped}
use Rattle.groups.proofs.requests.next_request.Goals as goal

pub next_of-requires-clause-listed : goal.next_of-requires-clause-listed
next_of-requires-clause-listed c = (c.requires.listed, rw c.requests_of.ensures (requests_grouped c.args.symbol))
