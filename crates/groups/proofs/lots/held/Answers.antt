-- The kind of the record's bytes, and the account and symbol of the lot that they are.
use Rattle.std.proofs.Common.{ap, ◌∙◌}
use Rattle.kinds.specs.Kinds.{lot_of}
use Rattle.groups.specs.Sums.{kind_byte, lot_told}
use Rattle.groups.proofs.lots.held.Goals as goal

pub returns : goal.returns
returns c =
    let row = c.part-record.ensures.1 in
    let lot = c.from_bytes.ensures ∙ ap lot_of row in
    lot_told _ _ _ (kind_byte _ row) lot c.in_holding.ensures
