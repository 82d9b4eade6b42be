-- The part that is lent is the record's: as long, since the place is inside, and with its row.
use Rattle.std.proofs.Common.{sym, arith, rules, length-take, length-drop}
use Rattle.std.proofs.Math.Nat.{add-sub_cancel_left}
use Rattle.places.specs.Rows.{rows_at}
use Rattle.places.proofs.place.part.Goals as goal

pub returns : goal.returns
returns c =
    rw add-sub_cancel_left (simp (length-take, length-drop) (omega arith), sym (rows_at _ _ (search rules)))
