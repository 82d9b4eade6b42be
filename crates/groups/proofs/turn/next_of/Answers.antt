-- A walk that begins where the row's own link leads passes over no row of its group.
use Rattle.directory.specs.Listed.{at_next, from_next}
use Rattle.groups.proofs.turn.next_of.Goals as goal

pub walk-requires-clause-grouped : goal.walk-requires-clause-grouped
walk-requires-clause-grouped c =
    let listed = c.requires.listed in
    let at = c.requires.at_bound in
    (listed.1, at_next listed.0 _ (listed.1.all _ at.1) at.0 c.next.ensures)

pub returns : goal.returns
returns c =
    let listed = c.requires.listed in
    let at = c.requires.at_bound in
    from_next listed.0 listed.1 (listed.1.all _ at.1) at.0 c.next.ensures c.walk.ensures
