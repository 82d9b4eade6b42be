-- The record's part of the area comes back with the record's bytes in it, which are those of its row.
use Rattle.std.proofs.Common.{refl, ap, ◌∙◌, ◌+◌, ◌-◌, ◌*◌, length}
use Rattle.std.proofs.Math.Nat.{add-sub_cancel_left}
use Rattle.record.specs.Grid.{decode}
use Rattle.places.specs.Rows.{bytes_put, puts_record}
use Rattle.places.proofs.put.put_from.Goals as goal

pub returns : goal.returns
returns c =
    let area = c.args.area.now in
    let i = c.args.i in
    let put = c.copy_from_slice.new.self in
    let same = c.copy_from_slice.ensures.after in
    let whole = c.record_at-record.ensures in
    let bytes = bytes_put (i * 64) (i * 64 + 64 - i * 64) put area (λ j. (c.type_inv.area j).fits) in
    rw add-sub_cancel_left
    (puts_record area i put c.requires (ap length same ∙ whole.0) bytes (ap decode same ∙ whole.1) refl)
