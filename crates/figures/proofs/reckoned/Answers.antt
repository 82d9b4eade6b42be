-- The walk over the lots is the one of the rules, and so are the figures.
use Rattle.walk.specs.Walk.{within_most}
use Rattle.figures.specs.Reckoned.{figured_asks, lots_priced, reckoned, start_asks, walk_asks}
use Rattle.figures.proofs.reckoned.Goals as goal

pub start-start-requires : goal.start-start-requires
start-start-requires c =
    let pre = c.requires in
    start_asks c.args.input pre.book_value.0 pre.book_value.1 pre.terms_value.0 pre.terms_value.1 pre.held

pub walked-requires-clause-priced : goal.walked-requires-clause-priced
walked-requires-clause-priced c =
    let pre = c.requires in
    lots_priced c.args.input pre.book_value.0 pre.book_value.1 pre.terms_value.0 pre.terms_value.1 pre.held

pub walked-requires-clause-within : goal.walked-requires-clause-within
walked-requires-clause-within c =
    let i = c.args.input in
    let pre = c.requires in
    let most =
    (start_asks i pre.book_value.0 pre.book_value.1 pre.terms_value.0 pre.terms_value.1 pre.held).0.most
    in
    walk_asks i pre.book_value.0 pre.book_value.1 pre.terms_value.0 pre.terms_value.1 pre.held
    c.start-start.ensures.value (within_most _ most c.start-start.ensures.within)

pub figured-requires : goal.figured-requires
figured-requires c =
    let pre = c.requires in
    figured_asks c.args.input pre.book_value.0 pre.book_value.1 pre.terms_value.0 pre.terms_value.1 pre.held
    c.start-start.ensures.value c.walked.ensures.value c.walked.ensures.within_2

pub returns : goal.returns
returns c =
    let pre = c.requires in
    reckoned c.args.input pre.book_value.0 pre.book_value.1 pre.terms_value.0 pre.terms_value.1 pre.held
    c.start-start.ensures.value c.walked.ensures.value c.walked.ensures.within_2 c.figured.ensures.value
    c.figured.ensures.up_to
