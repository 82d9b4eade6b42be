-- The invariant: from this place on the walk goes where it goes from the first; its bound holds, and no more lots are
-- closed than were walked over.
use Rattle.closing.specs.Walked.{Walking}
use Rattle.closing.proofs.walked.Given as goal

abbrev pub invariant-loop-place : goal.invariant-loop-place
invariant-loop-place l = Walking l.book l.at l.n l.fn.start l.place-index l.w
