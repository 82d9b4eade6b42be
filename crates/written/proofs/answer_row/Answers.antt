-- Six fields are set in the row of a free record, the tax with its bytes turned round.
use Rattle.kinds.specs.Written.{trade_row}
use Rattle.written.proofs.answer_row.Goals as goal

pub returns : goal.returns
unfolding trade_row
returns c =
    rw (
      c.nothing.ensures,
      c.holding.ensures,
      c.plain.ensures.value,
      c.bits.ensures,
      c.bits-2.ensures,
    )
