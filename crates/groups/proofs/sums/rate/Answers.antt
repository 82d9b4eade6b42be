-- The rate that the record names, of the customer alone.
use Rattle.std.proofs.Common.{ap, refl, ◌∙◌}
use Rattle.kinds.specs.Kinds.{customer_rate_of, tax_rate_of}
use Rattle.directory.specs.Found.{key_row}
use Rattle.groups.specs.Sums.{kind_byte, rate_no, rate_yes}
use Rattle.groups.proofs.sums.rate.Goals as goal

pub returns-then-record-named : goal.returns-then-record-named
returns-then-record-named c =
    let row = c.part-record.ensures.1 in
    let named = c.from_bytes-named.ensures ∙ ap customer_rate_of row in
    let found = key_row _ _ c.tax_rate.ensures refl in
    let rate = c.typed_at.ensures ∙ ap tax_rate_of found in
    rate_yes _ _ _ (kind_byte _ row) named c.if-record-named.true rate

pub returns : goal.returns
returns c =
    let row = c.part-record.ensures.1 in
    let named = c.from_bytes-named.ensures ∙ ap customer_rate_of row in
    rate_no _ _ _ (kind_byte _ row) named c.if-record-named.false
