-- The places from i on are chained, and each is of a kind. Each turn puts one place in front of its kind's chain.
use Rattle.by_kind.specs.Chains.{ByKind}
use Rattle.by_kind.proofs.chain.chain.Given as goal

abbrev pub invariant-loop-i : goal.invariant-loop-i
invariant-loop-i l = ByKind l.book l.links l.i
