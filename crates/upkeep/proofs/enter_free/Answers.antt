-- The head of the free places leads past the place, or the cell that is found does.
use Rattle.std.proofs.Common.{sym}
use Rattle.upkeep.specs.Moves.{comes_in, down_first, in_last}
use Rattle.upkeep.proofs.enter_free.Goals as goal

pub returns-then-at-first : goal.returns-then-at-first
returns-then-at-first c =
    let s = c.requires.without in
    comes_in s (down_first s c.first.ensures c.if-at-first.true) (sym (in_last _ _ c.requires.at_value)) c.link.ensures

pub returns : goal.returns
returns c = comes_in c.requires.without c.below-cell.ensures (sym (in_last _ _ c.requires.at_value)) c.link-2.ensures
