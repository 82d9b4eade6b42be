-- The rows of the kinds below this one are well.
use Rattle.by_kind.specs.Kinds.{WellTo}
use Rattle.by_kind.proofs.own.standing.Given as goal

abbrev pub invariant-loop-kind : goal.invariant-loop-kind
invariant-loop-kind l = WellTo l.book l.kind
