-- Where no shares are left over nothing is added; else the history and then the lot.
use Rattle.std.proofs.Common.{[], ◌∷◌, refl, sym, ◌∙◌}
use Rattle.upkeep.specs.Added.{added_none, added_one, added_then}
use Rattle.written.specs.Room.{add_first, add_next}
use Rattle.added.specs.Add.{opening_none, opening_some}
use Rattle.added.proofs.add_opened.Goals as goal

pub returns-then-plain-eq0 : goal.returns-then-plain-eq0
returns-then-plain-eq0 c =
    let v = c.args in
    let none = opening_none v.trade v.price.0 _ v.time.0 (sym c.plain.ensures.value ∙ c.if-plain-eq0.true) in
    rw none (added_none (rw none at c.requires.room))

pub returns : goal.returns
returns c =
    let v = c.args in
    let some =
    opening_some v.trade v.price.0 _ v.time.0 (λ q. c.if-plain-eq0.false (c.plain.ensures.value ∙ q))
    c.traded-count.ensures.value
    in
    let room = rw some at c.requires.room in
    let put = c.add-next.ensures in
    let last = c.add.ensures in
    let one =
    added_one (add_first room) refl c.lot_history-opened.ensures (put.fact, (put.directory_2, put.free_value))
    in
    let two =
    added_one (add_next room one) refl c.new_lot.ensures (last.fact, (last.directory_2, last.free_value))
    in
    rw some (added_then (_ ∷ []) (_ ∷ []) one two)
