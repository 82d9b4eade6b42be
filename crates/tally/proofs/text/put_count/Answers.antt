-- The text that std prints of the number is its figures; it is written after the space.
use Rattle.tally.specs.Decimal.{decimal_printed}
use Rattle.tally.specs.Page.{wrote_more}
use Rattle.std.proofs.Common.{◌∙◌}
use Rattle.tally.proofs.text.put_count.Goals as goal

pub returns-clause-wrote : goal.returns-clause-wrote
returns-clause-wrote c =
    let figures = c.as_bytes.ensures.value ∙ (c.format.ensures.text ∙ decimal_printed c.args.n c.ranges.n.fits) in
    wrote_more c.put_byte-next.ensures (rw figures at c.put.ensures)
