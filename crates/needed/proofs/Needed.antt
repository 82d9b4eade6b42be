-- Each of what is asked is needed: with it left out there are a book, a list and two runs that end apart.
use Rattle.std.specs.Prelude.{◌≡◌, refl, Bool, true, false, not, ◌↔◌, ℕ, ◌*◌, ◌<◌, eqb, nat_abs, length, drop, replicate, take}
use Rattle.std.proofs.Common.{sym, ap, ◌∙◌, arith, ne_eqb}
use mathlib.Core.List.{List, [], ◌∷◌, ◌++◌, Memᴰ}
use Rattle.laws.specs.Search.{seek}
use Rattle.record.specs.Codes.{kind_broker}
use Rattle.record.specs.Grid.{decode, encode}
use Rattle.rules.specs.Ranges.{kind, n1, party}
use Rattle.model.specs.declared.Status.{Status}
use Rattle.model.specs.declared.Status.TheVariants.{NoRoom, OverLimit}
use Rattle.model.specs.Call.{Reply}
use Rattle.model.specs.Edit.{◌≔◌, new}
use Rattle.model.specs.Evaluate.{result_opened}
use Rattle.model.specs.Rows.{record_size}
use Rattle.model.specs.Status.{number}
use Rattle.preserved.specs.Calls.{SoundBytes}
use Rattle.witness.specs.Pair.{answered, apart, area, differ, numbered, one, order_one, order_other}
use Rattle.witness.specs.Pair.{no_places, other, pass₁, pass₂, result_of, theirs, two_accounts}
use Rattle.reorder.specs.Statement.{Order, SameEnd, TwoRuns, account_of, own_places, replies, right_lengths}
use Rattle.witness.specs.Witness.{book, fine, none_is, two_runs}
use Rattle.needed.specs.Needed.{Asked, Given, Holds, NoneIs, Without, balance, busy, isnt, nobodys, owns, scant, shorter}
use Rattle.needed.specs.Needed.Asked.{lengths, limit, own, room}

-- two runs that end apart have no status that fails the test
none_are : (s : Status) (passes : Status → Bool) → passes s ≡ false → (g h : List Reply) (told₁ told₂ : List Reply → ℕ)
    → apart passes told₁ told₂ g h ≡ true → NoneIs s g × NoneIs s h
none_are s passes fails g h told₁ told₂ e = (
  none_is s passes fails g (pass₁ passes told₁ told₂ g h e),
  none_is s passes fails h (pass₂ passes told₁ told₂ g h e),
)

nobody_0 : account_of nobodys area book 0 ≡ 0
unfolding result_opened
nobody_0 = refl

nobody_1 : account_of nobodys area book 1 ≡ 0
unfolding result_opened
nobody_1 = refl

apart_lengths : apart fine (numbered 0) (numbered 1) (replies nobodys area book one)
    (replies nobodys shorter book other) ≡ true
unfolding result_opened replies
apart_lengths = refl

but_lengths : (q : Asked) → (q ≡ lengths → ⊥) → Holds book nobodys area shorter one other q
unfolding encode
but_lengths lengths n = absurd (n refl)
but_lengths own n =
    λ a z.
    let zero = ne_eqb 0 a (λ e. z (sym e)) in
    no_places (λ (i : ℕ). eqb (account_of nobodys area book i) a)
    (λ (i : ℕ). eqb (account_of nobodys shorter book i) a)
    (ap (λ (k : ℕ). eqb k a) nobody_0 ∙ zero)
    (ap (λ (k : ℕ). eqb k a) nobody_1 ∙ zero)
    zero
    zero
but_lengths limit n = none_are OverLimit fine refl _ _ (numbered 0) (numbered 1) apart_lengths
but_lengths room n = none_are NoRoom fine refl _ _ (numbered 0) (numbered 1) apart_lengths

apart_own : apart fine (answered 0 balance) (answered 1 balance) (replies owns area book one)
    (replies owns area book other) ≡ true
unfolding result_opened replies
apart_own = refl

but_own : (q : Asked) → (q ≡ own → ⊥) → Holds book owns area area one other q
but_own lengths n = λ i h. refl
but_own own n = absurd (n refl)
but_own limit n = none_are OverLimit fine refl _ _ (answered 0 balance) (answered 1 balance) apart_own
but_own room n = none_are NoRoom fine refl _ _ (answered 0 balance) (answered 1 balance) apart_own

right_own : right_lengths owns area 0 ≡ true
unfolding encode
right_own = refl

sound_busy : SoundBytes busy
unfolding result_opened
sound_busy = record { whole = refl; right = refl }

sound_scant : SoundBytes scant
unfolding result_opened
sound_scant = record { whole = refl; right = refl }

apart_limit : apart (isnt 105) (numbered 0) (numbered 1) (replies theirs area busy one)
    (replies theirs area busy other) ≡ true
unfolding result_opened replies
apart_limit = refl

apart_room : apart (isnt 104) (numbered 0) (numbered 1) (replies theirs area scant one)
    (replies theirs area scant other) ≡ true
unfolding result_opened replies
apart_room = refl

but_limit : (q : Asked) → (q ≡ limit → ⊥) → Holds busy theirs area area one other q
unfolding result_opened
but_limit lengths n = λ i h. refl
but_limit own n = λ a z. two_accounts busy theirs refl refl a
but_limit limit n = absurd (n refl)
but_limit room n = none_are NoRoom (isnt 105) refl _ _ (numbered 0) (numbered 1) apart_limit

but_room : (q : Asked) → (q ≡ room → ⊥) → Holds scant theirs area area one other q
unfolding result_opened
but_room lengths n = λ i h. refl
but_room own n = λ a z. two_accounts scant theirs refl refl a
but_room limit n = none_are OverLimit (isnt 104) refl _ _ (numbered 0) (numbered 1) apart_room
but_room room n = absurd (n refl)

-- ---- so each is needed
by_status_holds : (p : Asked) (b : List ℕ) (list : List (List ℕ)) (area₂ : ℕ → List ℕ) (passes : Status → Bool)
    → Given b list area area₂ one other (λ q. q ≡ p → ⊥) → 0 < length list
    → apart passes (numbered 0) (numbered 1) (replies list area b one) (replies list area₂ b other) ≡ true
    → Without p → ⊥
unfolding seek
by_status_holds p b list area₂ passes g h e w =
    differ passes (numbered 0) (numbered 1) (replies list area b one) (replies list area₂ b other) e
    (ap (λ (s : Status). nat_abs (number s)) ((w b list area area₂ one other g).same_status 0 h))

abbrev given : (p : Asked) (b : List ℕ) (list : List (List ℕ)) (area₂ : ℕ → List ℕ) → SoundBytes b → length list ≡ 2
    → ((q : Asked) → (q ≡ p → ⊥) → Holds b list area area₂ one other q)
    → Given b list area area₂ one other (λ q. q ≡ p → ⊥)
given p b list area₂ s e h = record {
  sound = s;
  is_order₁ = rw e order_one;
  is_order₂ = rw e order_other;
  asked = h;
}

pub needed : (p : Asked) → Without p → ⊥
unfolding seek
needed lengths =
    by_status_holds lengths book nobodys shorter fine
    (given lengths book nobodys shorter two_runs.orders.sound refl but_lengths)
    (omega arith)
    apart_lengths
needed own =
    λ w.
    differ fine (answered 0 balance) (answered 1 balance) (replies owns area book one) (replies owns area book other)
    apart_own
    (ap balance
    ((w book owns area area one other (given own book owns area two_runs.orders.sound refl but_own)).same_answer 0
    (omega arith)
    right_own))
needed limit =
    by_status_holds limit busy theirs area (isnt 105) (given limit busy theirs area sound_busy refl but_limit) (omega arith)
    apart_limit
needed room =
    by_status_holds room scant theirs area (isnt 104) (given room scant theirs area sound_scant refl but_room) (omega arith)
    apart_room
