-- One history, of what is left on the other side of zero.
use Rattle.std.proofs.Common.{refl, ◌∙◌}
use Rattle.upkeep.specs.Added.{added_one}
use Rattle.closed.proofs.add_closing.Goals as goal

pub returns : goal.returns
returns c =
    let put = c.add.ensures in
    added_one c.requires.room refl (c.lot_history-history.ensures ∙ rw c.remaining-after.ensures.value)
    (put.fact, (put.directory_2, put.free_value))
