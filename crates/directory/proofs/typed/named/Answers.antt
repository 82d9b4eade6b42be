-- A walk that begins at the head of the key's bucket passes over no row of the key.
use Rattle.std.proofs.Common.{◌∙◌}
use Rattle.directory.specs.Listed.{at_first, from_first, key_grouped}
use Rattle.directory.specs.Marked.{fields_group}
use Rattle.directory.proofs.typed.named.Goals as goal

pub walk-requires-clause-kind_value : goal.walk-requires-clause-kind_value
walk-requires-clause-kind_value c =
    let group = c.of_fields.ensures ∙ fields_group _ _ _ _ _ _ _ c.requires.kind_value.1 in
    (c.requires.kind_value.0, at_first c.requires.listed _ group c.first-from.ensures)

pub returns : goal.returns
returns c =
    let group = c.of_fields.ensures ∙ fields_group _ _ _ _ _ _ _ c.requires.kind_value.1 in
    from_first c.requires.listed (key_grouped _ c.requires.kind_value.0) group c.first-from.ensures c.walk.ensures
