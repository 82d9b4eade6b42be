-- The fields are stored in turn over 64 zeros; whatever stood there, that gives `encode`: `written_is`.
use Rattle.std.proofs.Common.{refl, replicate}
use Rattle.record.specs.Grid.{written, written_is}
use Rattle.record.proofs.row.Row.bytes.Goals as goal

pub returns : goal.returns
unfolding written
returns c =
    rw (
      c.put-14.ensures,
      c.from-11.ensures,
      c.put-13.ensures,
      c.from-10.ensures,
      c.put-12.ensures,
      c.put-11.ensures,
      c.put-10.ensures,
      c.from-9.ensures,
      c.put-9.ensures,
      c.from-8.ensures,
      c.put-8.ensures,
      c.from-7.ensures,
      c.put-7.ensures,
      c.from-6.ensures,
      c.put_symbol.ensures,
      c.put-6.ensures,
      c.put-5.ensures,
      c.from-5.ensures,
      c.put-4.ensures,
      c.from-4.ensures,
      c.put-3.ensures,
      c.from-3.ensures,
      c.put-2.ensures,
      c.from-2.ensures,
      c.put.ensures,
      c.from.ensures,
    )
    (written_is (replicate 64 0) c.args.self refl)
