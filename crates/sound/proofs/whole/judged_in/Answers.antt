-- The areas are long enough, and blank.
use Rattle.std.proofs.Common.{refl, arith}
use Rattle.by_kind.specs.Chains.{no_chains}
use Rattle.hanging.specs.Turn.{marks_start}
use Rattle.sound.proofs.whole.judged_in.Goals as goal

pub judged-requires-clause-no_chains : goal.judged-requires-clause-no_chains
judged-requires-clause-no_chains g c = no_chains _ _ _ refl (omega arith)

pub judged-requires-clause-marked_to : goal.judged-requires-clause-marked_to
judged-requires-clause-marked_to g c = marks_start _ _ (omega arith) (omega arith)
