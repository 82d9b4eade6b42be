-- The area is large enough for the directory, and blank.
use Rattle.std.proofs.Common.{arith}
use Rattle.book.specs.Lengths.{room}
use Rattle.book.proofs.looked_cells.Goals as goal

pub looked-requires-clause-room : goal.looked-requires-clause-room
looked-requires-clause-room g c = room _ _ _ c.records-dir.ensures c.requires.room.0 (omega arith)
