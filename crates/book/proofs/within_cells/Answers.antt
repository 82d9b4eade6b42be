-- The area is large enough for the directory, and blank.
use Rattle.std.proofs.Common.{arith}
use Rattle.book.specs.Lengths.{room}
use Rattle.book.proofs.within_cells.Goals as goal

pub within-requires-clause-room : goal.within-requires-clause-room
within-requires-clause-room g c = room _ _ _ c.records-dir.ensures c.requires.room.0 (omega arith)
