-- A place more of the kind, whose row is marked.
use Rattle.std.proofs.Common.{rules}
use Rattle.by_kind.specs.Chains.{chains}
use Rattle.by_kind.specs.Says.{says_yes}
use Rattle.hanging.specs.Turn.{hang_all, hang_more, hangings, slot_taken}
use Rattle.hanging.proofs.hang.Goals as goal

pub loop-c-init : goal.loop-c-init
loop-c-init c = search (rules, chains, hangings)

pub loop-c-smaller : goal.loop-c-smaller
loop-c-smaller c = search (rules, chains, hangings)

pub loop-c-preserved : goal.loop-c-preserved
loop-c-preserved c =
    let slot = c.in-Some.ensures in
    hang_more c.loop-c.invariant c.loop-c-test.true (slot_taken slot) slot.0 c.requires.by_kind c.next-c.ensures

pub returns : goal.returns
returns c = says_yes (hang_all c.loop-c.invariant c.loop-c-test.false) _
