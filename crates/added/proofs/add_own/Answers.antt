-- The rows of each step follow those of the steps before.
use Rattle.added.specs.Add.{own_added_holds}
use Rattle.added.proofs.add_own.Goals as goal

pub returns : goal.returns
returns c =
    own_added_holds c.args.input c.args.terms c.args.figures c.add_opened-next.ensures c.add_summary-last.ensures
    c.add_final.ensures
