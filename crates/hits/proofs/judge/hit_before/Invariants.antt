-- The entries from place i on, of the first k, decide whether any hits the request.
use Rattle.std.proofs.Common.{take}
use Rattle.model.specs.Rows.{rows}
use Rattle.hits.specs.Hits.{any_reaches}
use Rattle.hits.specs.Judge.{Hitting}
use Rattle.hits.proofs.judge.hit_before.Given as goal

abbrev pub invariant-loop-i : goal.invariant-loop-i
invariant-loop-i l = Hitting l.request l.input l.k (any_reaches (take l.k (rows l.input)) l.request) l.i
