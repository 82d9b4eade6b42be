-- What demand 3 asks of two orders of a list is needed: with any one of four things left out it is false. For each
-- there are a sound book and two results for which all but that one holds, and which end otherwise in the one order
-- than in the other, found by computation.
use Rattle.std.specs.Prelude.{◌≡◌, refl, Bool, true, false, not, ◌↔◌, ℕ, ◌*◌, ◌<◌, eqb, nat_abs, length, drop, replicate, take}
use Rattle.std.proofs.Common.{sym, ap, ◌∙◌, arith, ne_eqb}
use mathlib.Core.List.{List, [], ◌∷◌, ◌++◌, Memᴰ}
use Rattle.laws.specs.Search.{seek}
use Rattle.record.specs.Codes.{kind_broker}
use Rattle.record.specs.Grid.{decode, encode}
use Rattle.rules.specs.Ranges.{kind, n1, party}
use Rattle.model.specs.declared.Status.{Status}
use Rattle.model.specs.declared.Status.TheVariants.{NoRoom, OverLimit}
use Rattle.model.specs.Call.{Reply}
use Rattle.model.specs.Edit.{◌≔◌, new}
use Rattle.model.specs.Evaluate.{result_opened}
use Rattle.model.specs.Rows.{record_size}
use Rattle.model.specs.Status.{number}
use Rattle.preserved.specs.Calls.{SoundBytes}
use Rattle.witness.specs.Pair.{answered, apart, area, differ, numbered, one, order_one, order_other}
use Rattle.witness.specs.Pair.{no_places, other, pass₁, pass₂, result_of, theirs, two_accounts}
use Rattle.reorder.specs.Statement.{Order, SameEnd, TwoRuns, account_of, own_places, replies, right_lengths}
use Rattle.witness.specs.Witness.{book, fine, none_is, two_runs}

-- ---- what is asked beside a sound book and two orders of the list's places
pub data Asked : Type 0 where
  lengths own limit room : Asked

abbrev pub NoneIs : Status → List Reply → Type 0
NoneIs s given = (r : Reply) → Memᴰ r given → r.status ≡ s → ⊥

module _ (b : List ℕ) (list : List (List ℕ)) (area₁ area₂ : ℕ → List ℕ) (order₁ order₂ : List ℕ) where
  abbrev pub Holds : Asked → Type 0
  Holds lengths = (i : ℕ) → i < length list → length (area₁ i) ≡ length (area₂ i)
  Holds own = (a : ℕ) → (a ≡ 0 → ⊥) → own_places list area₁ b a order₁ ≡ own_places list area₂ b a order₂
  Holds limit = NoneIs OverLimit (replies list area₁ b order₁) × NoneIs OverLimit (replies list area₂ b order₂)
  Holds room = NoneIs NoRoom (replies list area₁ b order₁) × NoneIs NoRoom (replies list area₂ b order₂)

  pub record Given (P : Asked → Type 0) : Type 0 where
    pub sound : SoundBytes b
    pub is_order₁ : Order (length list) order₁
    pub is_order₂ : Order (length list) order₂
    pub asked : (q : Asked) → P q → Holds q

  -- all of them are what the demand asks
  pub all_asked : Given (λ q. Unit {0}) ↔ TwoRuns b list area₁ area₂ order₁ order₂
  all_asked = (
    λ g. record {
      orders = record {
        sound = g.sound;
        same_lengths = g.asked lengths _;
        is_order₁ = g.is_order₁;
        is_order₂ = g.is_order₂;
        own_order = g.asked own _;
      };
      unhindered₁ = record { no_limit = (g.asked limit _).0; no_room = (g.asked room _).0 };
      unhindered₂ = record { no_limit = (g.asked limit _).1; no_room = (g.asked room _).1 };
    },
    λ t. record {
      sound = t.orders.sound;
      is_order₁ = t.orders.is_order₁;
      is_order₂ = t.orders.is_order₂;
      asked = each t;
    },
  )
    where
      each : TwoRuns b list area₁ area₂ order₁ order₂ → (q : Asked) → Unit {0} → Holds q
      each t lengths u = t.orders.same_lengths
      each t own u = t.orders.own_order
      each t limit u = (t.unhindered₁.no_limit, t.unhindered₂.no_limit)
      each t room u = (t.unhindered₁.no_room, t.unhindered₂.no_room)

-- the demand with one of them left out
abbrev pub Without : Asked → Type 0
Without p =
    (b : List ℕ) (list : List (List ℕ)) (area₁ area₂ : ℕ → List ℕ) (order₁ order₂ : List ℕ)
    → Given b list area₁ area₂ order₁ order₂ (λ q. q ≡ p → ⊥) → SameEnd b list area₁ area₂ order₁ order₂

-- ---- statuses, told by their numbers
abbrev pub isnt : ℕ → Status → Bool
isnt n s = not (eqb (nat_abs (number s)) n)

-- ---- an answer area as long here as there: a result that names no trade meets -811 here and -100 there
abbrev pub nobodys : List (List ℕ)
nobodys = result_of 99 2_900 ∷ result_of 99 2_900 ∷ []

abbrev pub shorter : ℕ → List ℕ
shorter i = replicate 63 7

-- ---- an account's own order: it buys and sells, and the balance that the first of the two answers is another
abbrev pub owns : List (List ℕ)
owns = result_of 11 2_900 ∷ result_of 13 2_900 ∷ []

abbrev pub balance : List ℕ → ℕ
balance answer = (decode answer).m1

-- ---- neither limit nor want of room: only the first of two accounts to come is served
-- the broker may make one trade more
abbrev pub busy : List ℕ
busy = encode (new (kind ≔ kind_broker ∷ party ≔ 1 ∷ n1 ≔ 999_999_998 ∷ [])) ++ drop record_size book

-- six places are free, as many as a result takes
abbrev pub scant : List ℕ
scant = take (19 * record_size) book
