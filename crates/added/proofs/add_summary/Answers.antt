-- A summary that is there stays; else a new one goes into the lowest place that is free.
use Rattle.std.proofs.Common.{refl}
use Rattle.upkeep.specs.Added.{added_none, added_one}
use Rattle.added.specs.Add.{holding_none, holding_some}
use Rattle.added.proofs.add_summary.Goals as goal

pub returns-then-held : goal.returns-then-held
returns-then-held c =
    let none = holding_none c.args.trade c.args.shares c.if-held.true in
    rw none (added_none (rw none at c.requires))

pub returns : goal.returns
returns c =
    let some = holding_some c.args.trade c.args.shares c.if-held.false in
    let put = c.add.ensures in
    rw some
    (added_one (rw some at c.requires) refl c.new_summary.ensures (put.fact, (put.directory_2, put.free_value)))
