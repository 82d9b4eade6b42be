-- Each row goes where the rules have it: what is added first, then what is changed and freed.
use Rattle.std.proofs.Common.{rules}
use Rattle.result.specs.Whole.{all_posted, broker_fits, changed_ready, closables, closings_fit, goes_ready}
use Rattle.result.specs.Whole.{last_ready, long, own_fit, part_ready, start_fits, time_fits, walk_fits}
use Rattle.result.proofs.post.post.Goals as goal

pub start-start-requires : goal.start-start-requires
start-start-requires c =
    start_fits c.requires

pub add_closings-closed-requires-clause-room : goal.add_closings-closed-requires-clause-room
add_closings-closed-requires-clause-room c =
    closings_fit c.requires (search rules) c.start-start.ensures.value

pub add_closings-closed-requires-clause-closables : goal.add_closings-closed-requires-clause-closables
add_closings-closed-requires-clause-closables c =
    (closables c.requires (search rules), long c.requires (search rules))

pub add_closings-closed-requires-clause-within : goal.add_closings-closed-requires-clause-within
add_closings-closed-requires-clause-within c =
    walk_fits c.requires (search rules) c.start-start.ensures.value c.start-start.ensures.within

pub add_own-more-requires-clause-room : goal.add_own-more-requires-clause-room
add_own-more-requires-clause-room c =
    own_fit c.requires (search rules) c.start-start.ensures.value c.add_closings-closed.ensures

pub add_own-more-requires-clause-up_to : goal.add_own-more-requires-clause-up_to
add_own-more-requires-clause-up_to c =
    (c.requires.reckoned.need, time_fits c.requires (search rules))

pub reduce-requires-clause-ready : goal.reduce-requires-clause-ready
reduce-requires-clause-ready c =
    part_ready c.requires (search rules) c.start-start.ensures.value c.add_closings-closed.ensures
    c.add_own-more.ensures

pub change_rows-requires-clause-ready : goal.change_rows-requires-clause-ready
change_rows-requires-clause-ready c =
    changed_ready c.requires (search rules) c.start-start.ensures.value c.add_closings-closed.ensures
    c.add_own-more.ensures c.reduce.ensures

pub change_rows-requires-clause-up_to_2 : goal.change_rows-requires-clause-up_to_2
change_rows-requires-clause-up_to_2 c =
    broker_fits c.requires (search rules)

pub free_lots-less-requires-clause-ready : goal.free_lots-less-requires-clause-ready
free_lots-less-requires-clause-ready c =
    goes_ready c.requires (search rules) c.start-start.ensures.value c.add_closings-closed.ensures
    c.add_own-more.ensures c.reduce.ensures c.change_rows.ensures

pub free_summary-requires : goal.free_summary-requires
free_summary-requires c =
    last_ready c.requires (search rules) c.start-start.ensures.value c.add_closings-closed.ensures
    c.add_own-more.ensures c.reduce.ensures c.change_rows.ensures c.free_lots-less.ensures

pub returns-clause-book_after : goal.returns-clause-book_after
returns-clause-book_after c =
    (all_posted c.requires (search rules) c.start-start.ensures.value c.add_closings-closed.ensures
    c.add_own-more.ensures c.reduce.ensures c.change_rows.ensures c.free_lots-less.ensures c.free_summary.ensures).0
