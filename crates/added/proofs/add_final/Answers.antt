-- Each row is put into the lowest place that is free; cash comes last, for a cash trade.
use Rattle.std.proofs.Common.{[], ◌∷◌, refl}
use Rattle.upkeep.specs.Added.{added_one, added_then}
use Rattle.written.specs.Room.{add_asks, add_first, add_next}
use Rattle.added.specs.Add.{final_cash, final_plain}
use Rattle.added.proofs.add_final.Goals as goal

pub add-requires-clause-le_free : goal.add-requires-clause-le_free
add-requires-clause-le_free c =
    let v = c.args in
    let all = final_cash v.trade v.amount.0 v.time.0 c.is_cash.ensures c.if-is_cash.true in
    let room = rw all at c.requires.room in
    let put = c.add-next.ensures in
    let next = c.add-last.ensures in
    let one =
    added_one (add_first room) refl c.history_row-past.ensures (put.fact, (put.directory_2, put.free_value))
    in
    let second = add_next room one in
    let two =
    added_one (add_first second) refl c.settlement_row-paid.ensures
    (next.fact, (next.directory_2, next.free_value))
    in
    let asks = add_asks (add_next second two) refl c.cash_row.ensures in
    asks.1

pub returns-then-is_cash : goal.returns-then-is_cash
returns-then-is_cash c =
    let v = c.args in
    let all = final_cash v.trade v.amount.0 v.time.0 c.is_cash.ensures c.if-is_cash.true in
    let room = rw all at c.requires.room in
    let put = c.add-next.ensures in
    let next = c.add-last.ensures in
    let last = c.add.ensures in
    let one =
    added_one (add_first room) refl c.history_row-past.ensures (put.fact, (put.directory_2, put.free_value))
    in
    let second = add_next room one in
    let two =
    added_one (add_first second) refl c.settlement_row-paid.ensures
    (next.fact, (next.directory_2, next.free_value))
    in
    let three =
    added_one (add_next second two) refl c.cash_row.ensures (last.fact, (last.directory_2, last.free_value))
    in
    rw all (added_then (_ ∷ []) (_ ∷ _ ∷ []) one (added_then (_ ∷ []) (_ ∷ []) two three))

pub returns : goal.returns
returns c =
    let v = c.args in
    let all = final_plain v.trade v.amount.0 v.time.0 c.is_cash.ensures c.if-is_cash.false in
    let room = rw all at c.requires.room in
    let put = c.add-next.ensures in
    let next = c.add-last.ensures in
    let one =
    added_one (add_first room) refl c.history_row-past.ensures (put.fact, (put.directory_2, put.free_value))
    in
    let two =
    added_one (add_next room one) refl c.settlement_row-paid.ensures
    (next.fact, (next.directory_2, next.free_value))
    in
    rw all (added_then (_ ∷ []) (_ ∷ []) one two)
