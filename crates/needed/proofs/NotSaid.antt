-- The two that demand 3 does not say are false.
use Rattle.std.specs.Prelude.{◌≡◌, refl, true, List, ℕ, ◌<◌, eqb, length, get_or, replicate}
use Rattle.std.proofs.Common.{sym, ap, arith, ne_eqb}
use Rattle.laws.specs.Search.{place, seek}
use Rattle.record.specs.Grid.{encode}
use Rattle.record.specs.declared.row.Row.{Row}
use Rattle.model.specs.Status.{is_done}
use Rattle.model.specs.Call.{Reply}
use Rattle.model.specs.Evaluate.{result_opened}
use Rattle.model.specs.Rows.{rows, same_row}
use Rattle.witness.specs.Pair.{answered, apart, area, differ, ended, history, no_places, one, order_one}
use Rattle.witness.specs.Pair.{order_other, other, pass₁, pass₂, their_orders, theirs}
use Rattle.reorder.specs.Statement.{TwoRuns, account_of, ending, replies, reply_to}
use Rattle.witness.specs.Witness.{book, fine, two_runs, unhindered}
use Rattle.needed.specs.NotSaid.{SameAreas, SamePlaces, first, given, short, spot, unwritten}

apart_places : apart is_done spot spot (given one) (given other) ≡ true
unfolding result_opened replies seek
apart_places = refl

pub places_differ : SamePlaces → ⊥
unfolding replies ending
places_differ s =
    differ is_done spot spot (given one) (given other) apart_places
    (s book theirs area area one other
    (record {
      orders = their_orders;
      unhindered₁ =
          unhindered is_done refl refl (given one) (pass₁ is_done spot spot (given one) (given other) apart_places);
      unhindered₂ =
          unhindered is_done refl refl (given other) (pass₂ is_done spot spot (given one) (given other) apart_places);
    })
    history)

apart_areas : apart fine (answered 0 first) (answered 1 first) (unwritten 7 one) (unwritten 8 other) ≡ true
unfolding result_opened replies
apart_areas = refl

pub areas_differ : SameAreas → ⊥
unfolding encode seek
areas_differ s =
    let a = answered 0 first in
    let b = answered 1 first in
    differ fine a b (unwritten 7 one) (unwritten 8 other) apart_areas
    (ap first
    (s book theirs (short 7) (short 8) one other
    (record {
      orders = record {
        sound = two_runs.orders.sound;
        same_lengths = λ i h. refl;
        is_order₁ = order_one;
        is_order₂ = order_other;
        own_order = λ a z.
            let zero = ne_eqb 0 a (λ e. z (sym e)) in
            no_places (λ (i : ℕ). eqb (account_of theirs (short 7) book i) a)
            (λ (i : ℕ). eqb (account_of theirs (short 8) book i) a)
            zero
            zero
            zero
            zero;
      };
      unhindered₁ =
          unhindered fine refl refl (unwritten 7 one)
          (pass₁ fine a b (unwritten 7 one) (unwritten 8 other) apart_areas);
      unhindered₂ =
          unhindered fine refl refl (unwritten 8 other)
          (pass₂ fine a b (unwritten 7 one) (unwritten 8 other) apart_areas);
    })
    0
    (omega arith)))
