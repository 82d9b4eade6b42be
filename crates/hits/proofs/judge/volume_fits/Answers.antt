-- Where the shares of all entries leave the volume in its range, so do those on the symbol; else these decide.
use Rattle.std.proofs.Common.{refl, arith}
use Rattle.hits.specs.Judge.{both_fit, volume_in, volume_under}
use Rattle.hits.proofs.judge.volume_fits.Goals as goal

pub plus-requires : goal.plus-requires
plus-requires c = both_fit c.volume_of-before.ensures c.requires.many (omega arith)

pub returns-then-in_range : goal.returns-then-in_range
returns-then-in_range c =
    volume_under _ _ _ c.typed_at.ensures c.volume_of-before.ensures c.requires.many c.plus.ensures.value refl
    c.in_range.ensures c.if-in_range.true

pub plus-requires-2 : goal.plus-requires-2
plus-requires-2 c = both_fit c.volume_of-before.ensures c.shares_for.ensures (omega arith)

pub returns : goal.returns
returns c =
    volume_in _ _ _ c.typed_at.ensures c.volume_of-before.ensures c.shares_for.ensures c.plus-2.ensures.value refl
    c.in_range-2.ensures
