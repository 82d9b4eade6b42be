-- Of the program, demand 3 speaks of calls made in turn: each on the book that the one before it left, and all of them.
-- With another word for that it is false: where each call is made on the opening book, and where the last ones may not
-- be made. Found by computation. Assumes nothing.
use Rattle.std.specs.Prelude.{◌≡◌, refl, Bool, true, false, List, [], ◌∷◌, ◌↔◌, ℕ, eqb, ℤ, nat_abs, get_or}
use Rattle.std.proofs.Common.{sym, ap, ◌∙◌, arith}
use Rattle.std.proofs.lemmas.Bool.{false≢true, eqb-false}
use Rattle.laws.specs.Search.{count, every, means_every, seek}
use Rattle.model.specs.Call.{Promise, result_call}
use Rattle.model.specs.Evaluate.{result_opened}
use Rattle.model.specs.Rows.{rows, same_row}
use Rattle.model.specs.Status.{number}
use Rattle.witness.specs.Pair.{area, history, one, other, their_orders, theirs}
use Rattle.reorder.specs.Statement.{OfTheProgram, Ran, SameSeen, Seen, TwoOrders, UnhinderedRun, last_book}
use Rattle.witness.specs.Witness.{book}

-- a word for "these calls were made in turn"
abbrev pub Word : Type 1
Word = List (List ℕ) → (ℕ → List ℕ) → List ℕ → List ℕ → List Seen → Type 0

abbrev pub ProgramBy : Word → Type 0
ProgramBy Made =
    (b : List ℕ) (list : List (List ℕ)) (area₁ area₂ : ℕ → List ℕ) (order₁ order₂ : List ℕ)
    (seen₁ seen₂ : List Seen)
    → TwoOrders b list area₁ area₂ order₁ order₂
    → Made list area₁ b order₁ seen₁ → Made list area₂ b order₂ seen₂
    → UnhinderedRun seen₁ → UnhinderedRun seen₂
    → SameSeen b list area₁ area₂ order₁ order₂ seen₁ seen₂

pub same_program : ProgramBy Ran ↔ OfTheProgram
same_program = (
  λ p b list area₁ area₂ order₁ order₂ seen₁ seen₂ t.
      p b list area₁ area₂ order₁ order₂ seen₁ seen₂
      t.orders t.ran₁ t.ran₂ t.unhindered₁ t.unhindered₂,
  λ p b list area₁ area₂ order₁ order₂ seen₁ seen₂ o r s u v.
      p b list area₁ area₂ order₁ order₂ seen₁ seen₂
      (record { orders = o; ran₁ = r; ran₂ = s; unhindered₁ = u; unhindered₂ = v }),
)

-- each call on the opening book
abbrev pub OnFirst : Word
OnFirst list spot b [] [] = Unit {0}
OnFirst list spot b [] (s ∷ seen) = ⊥
OnFirst list spot b (i ∷ order) [] = ⊥
OnFirst list spot b (i ∷ order) (s ∷ seen) =
    Promise (result_call b (get_or list i []) (spot i)) s.returned s.book s.answer
    × OnFirst list spot b order seen

-- some calls at the end not made
abbrev pub InPart : Word
InPart list spot b [] [] = Unit {0}
InPart list spot b [] (s ∷ seen) = ⊥
InPart list spot b (i ∷ order) [] = Unit {0}
InPart list spot b (i ∷ order) (s ∷ seen) =
    Promise (result_call b (get_or list i []) (spot i)) s.returned s.book s.answer
    × InPart list spot s.book order seen

-- what the call of a result on the opening book returned and left
abbrev shown : ℕ → Seen
shown i =
    let r = result_call book (get_or theirs i []) (area i) in
    record { returned = number r.status; book = r.book; answer = r.answer }

kept : (i : ℕ)
    → Promise (result_call book (get_or theirs i []) (area i)) (shown i).returned (shown i).book (shown i).answer
kept i = record { returns = refl; keeps = refl; says = refl }

abbrev is_zero : ℤ → Bool
is_zero z = eqb (nat_abs z) 0

all_zero : (seen : List Seen) → every (λ (s : Seen). is_zero s.returned) seen ≡ true → UnhinderedRun seen
all_zero seen e =
    let each =
    (means_every seen (λ (s : Seen). record { shows = λ (h : is_zero s.returned ≡ true). h; holds = λ h. h })).shows e
    in
    record {
      no_limit = λ s m q. false≢true (sym (ap is_zero q) ∙ each s m);
      no_room = λ s m q. false≢true (sym (ap is_zero q) ∙ each s m);
    }

zero_0 : is_zero (shown 0).returned ≡ true
unfolding result_opened
zero_0 = refl

zero_1 : is_zero (shown 1).returned ≡ true
unfolding result_opened
zero_1 = refl

-- the last book has the last call's rows only
abbrev times_in : List Seen → ℕ
times_in seen = count (same_row history) (rows (last_book book seen))

apart_first : eqb (times_in (shown 0 ∷ shown 1 ∷ [])) (times_in (shown 1 ∷ shown 0 ∷ [])) ≡ false
unfolding result_opened
apart_first = refl

pub on_first : ProgramBy OnFirst → ⊥
unfolding every
on_first p =
    let a = shown 0 ∷ shown 1 ∷ [] in
    let b = shown 1 ∷ shown 0 ∷ [] in
    let same =
    p book theirs area area one other a b their_orders (kept 0, (kept 1, tt)) (kept 1, (kept 0, tt))
    (all_zero a (rw (zero_0, zero_1) refl))
    (all_zero b (rw (zero_1, zero_0) refl))
    in
    eqb-false (times_in a) (times_in b) apart_first (same.same_rows history)

-- the second result has its turn in one run, and not in the other
pub in_part : ProgramBy InPart → ⊥
unfolding every seek
in_part p =
    let b = shown 1 ∷ [] in
    let same =
    p book theirs area area one other [] b their_orders tt (kept 1, tt) (all_zero [] refl)
    (all_zero b (rw zero_1 refl))
    in
    false≢true (ap is_zero (same.same_number 1 (omega arith)) ∙ zero_1)
