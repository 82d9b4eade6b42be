-- Past the end nothing is put. Elsewhere the record's part of the book comes back with the row's bytes in it. A row's
-- fields are of their widths, so the bytes are read as the row again.
use Rattle.std.proofs.Common.{sym, arith}
use Rattle.std.proofs.Math.Nat.{add-sub_cancel_left}
use Rattle.places.specs.Rows.{put_at_in, put_at_past, puts}
use Rattle.places.proofs.put.put.Goals as goal

pub returns-then-i-book : goal.returns-then-i-book
returns-then-i-book c = puts _ _ c.args.row (omega (arith, c.well_formed)) (sym (put_at_past _ _ _ c.if-i-book.true))

pub returns : goal.returns
returns c =
    let a = c.args in
    let e = put_at_in a.book.now a.i a.row c.if-i-book.false in
    puts _ _ a.row (omega (arith, c.well_formed)) (rw (c.write.ensures, add-sub_cancel_left) (sym e))
