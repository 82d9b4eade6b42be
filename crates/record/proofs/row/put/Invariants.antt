-- Storing what is left of the bytes of y from place `at + i` on gives what storing all of x gives.
use Rattle.std.proofs.Common.{◌≡◌, ◌+◌, ◌-◌}
use Rattle.std.proofs.lemmas.List.Edits.{sets}
use Rattle.record.specs.Bytes.{bytes_of}
use Rattle.record.proofs.row.put.Given as goal

abbrev pub invariant-loop-i : goal.invariant-loop-i
invariant-loop-i l =
    sets l.bytes (l.at + l.i) (bytes_of (l.width - l.i) l.y) ≡ sets l.fn.bytes l.at (bytes_of l.width l.x)
