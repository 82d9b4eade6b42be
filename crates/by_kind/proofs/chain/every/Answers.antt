-- A walk over the places of a kind.
use Rattle.std.proofs.Common.{refl}
use Rattle.by_kind.specs.Chains.{go_more, go_start, kinds_less}
use Rattle.by_kind.proofs.chain.every.Goals as goal

pub loop-c-init : goal.loop-c-init
loop-c-init g c = go_start c.requires.by_kind _ c.requires.kind_le_last_kind refl c.first-c.ensures

pub loop-c-smaller : goal.loop-c-smaller
loop-c-smaller g c = kinds_less c.requires.by_kind _ _ c.loop-c-test.true c.next-c.ensures

pub loop-c-preserved : goal.loop-c-preserved
loop-c-preserved g c =
    go_more c.requires.by_kind c.loop-c.invariant c.loop-c-test.true c.if-not-test.ensures c.next-c.ensures
