-- A lot is grouped by its account and symbol, a request by its symbol, any other by its key.
use Rattle.std.proofs.Common.{◌∙◌}
use Rattle.chains.specs.Group.{common_group}
use Rattle.chains.proofs.group.common.Goals as goal

pub returns : goal.returns
returns c =
    c.of_fields.ensures
    ∙ common_group c.args.row c.requires c.marks-m.ensures c.kept-party.ensures c.kept-id.ensures
    c.kept-symbol.ensures
