-- A band or a charge is grouped by its key.
use Rattle.std.proofs.Common.{◌∙◌}
use Rattle.chains.specs.Group.{rare_group}
use Rattle.chains.proofs.group.of.Goals as goal

pub returns-then-row : goal.returns-then-row
returns-then-row c = c.of_key.ensures ∙ rare_group c.args.row c.if-row.true c.of.ensures
