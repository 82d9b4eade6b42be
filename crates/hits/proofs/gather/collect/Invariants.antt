-- The requests before the place c that the entry submits are collected, and at c stands a request on its symbol, if c
-- is inside the book. No more are collected than places are passed; the area is as long as it was. The measure is what
-- is left of the book.
use Rattle.std.proofs.Common.{◌-◌}
use Rattle.model.specs.Rows.{rows}
use Rattle.groups.specs.Collect.{Collecting}
use Rattle.groups.specs.Sums.{request_on}
use Rattle.hits.specs.Hits.{fresh}
use Rattle.hits.proofs.gather.collect.Given as goal

abbrev pub invariant-loop-c : goal.invariant-loop-c
invariant-loop-c l = Collecting (request_on l.symbol) (fresh (rows l.input) l.i) l.book l.at l.n l.c

abbrev pub decreases-loop-c : goal.decreases-loop-c
decreases-loop-c l = l.end - l.c
