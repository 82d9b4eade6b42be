-- Each field is kept where the kind's marks have it: `marks_tell`.
use Rattle.keys.specs.Marks.{marks_tell}
use Rattle.keys.proofs.Key.of.Goals as goal

pub returns : goal.returns
returns c = cc (marks_tell c.args.row)
