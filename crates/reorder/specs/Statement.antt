-- Demand 3: "A list of results run in two orders that keep each account's own order, neither run meeting -104 or -105,
-- gives every result the same answer and ends with the same rows, each as many times." What these words mean, of the
-- calls on bytes: `Demand3`; and of the program, by the numbers, books and answers that its promise allows:
-- `OfTheProgram`. A result whose input or answer area has the wrong length gets -100 in both runs, and its area stays
-- as it was. Proved in Proof.antt. Assumes nothing.
use Rattle.std.specs.Prelude.{◌≡◌, Bool, true, false, cond, ℕ, ◌<◌, eqb, ltb, ℤ, length, get_or}
use mathlib.Core.List.{List, [], ◌∷◌, Memᴰ}
use Rattle.laws.specs.Search.{bit, count, keep, place}
use Rattle.record.specs.Grid.{decode}
use Rattle.record.specs.declared.row.Row.{Row}
use Rattle.model.specs.declared.Status.TheVariants.{BadLength, NoRoom, OverLimit}
use Rattle.model.specs.Call.{Promise, Reply, a_result, lengths_of, result_call}
use Rattle.model.specs.Names.{a_trade}
use Rattle.model.specs.Rows.{found, rows, same_row}
use Rattle.model.specs.Status.{number}
use Rattle.preserved.specs.Calls.{SoundBytes}

-- an order of n things is a list of their places: each place below n once, and nothing else
abbrev pub Order : ℕ → List ℕ → Type 0
Order n order = (i : ℕ) → count (eqb i) order ≡ bit (ltb i n)

-- one list of result inputs, and an answer area for each place of it, any bytes of any lengths
module _ (list : List (List ℕ)) (area : ℕ → List ℕ) where
  -- input and answer area have the 64 bytes that a result takes
  abbrev pub right_lengths : ℕ → Bool
  right_lengths i = lengths_of a_result (length (get_or list i [])) (length (area i))

  -- the account of the trade that the result at a place names in a book; 0, which is no account, where it names none
  -- or its lengths are wrong
  abbrev pub account_of : List ℕ → ℕ → ℕ
  account_of book i = cond (right_lengths i) (found (a_trade (decode (get_or list i [])).id) (rows book)).party 0

  -- the places of an account's own results, as they come in an order
  abbrev pub own_places : List ℕ → ℕ → List ℕ → List ℕ
  own_places book account order = keep (λ (i : ℕ). eqb (account_of book i) account) order

  -- ---- a run: the calls made in turn, each on the book that the one before it left
  abbrev pub call : List ℕ → ℕ → Reply
  call book i = result_call book (get_or list i []) (area i)

  unfoldable pub replies : List ℕ → List ℕ → List Reply
  replies book [] = []
  replies book (i ∷ order) = call book i ∷ replies (call book i).book order

  unfoldable pub ending : List ℕ → List ℕ → List ℕ
  ending book [] = book
  ending book (i ∷ order) = ending (call book i).book order

  -- the reply to the result at place i, when it has its turn
  abbrev pub reply_to : List ℕ → List ℕ → ℕ → Reply
  reply_to book order i =
      get_or (replies book order) (place (eqb i) order) (record { status = BadLength; answer = []; book = [] })

-- "neither run meeting -104 or -105"
pub record Unhindered (given : List Reply) : Type 0 where
  pub no_limit : (r : Reply) → Memᴰ r given → r.status ≡ OverLimit → ⊥
  pub no_room : (r : Reply) → Memᴰ r given → r.status ≡ NoRoom → ⊥

-- ---- one list in two orders
module _ (book : List ℕ) (list : List (List ℕ)) (area₁ area₂ : ℕ → List ℕ) (order₁ order₂ : List ℕ) where
  pub record TwoOrders : Type 0 where
    -- 1 to 4,096 whole records, and its rows are sound
    pub sound : SoundBytes book
    -- a result's answer area is as long in one run as in the other
    pub same_lengths : (i : ℕ) → i < length list → length (area₁ i) ≡ length (area₂ i)
    pub is_order₁ : Order (length list) order₁
    pub is_order₂ : Order (length list) order₂
    -- "orders that keep each account's own order": results that name no account are free to move
    pub own_order : (a : ℕ) → (a ≡ 0 → ⊥) → own_places list area₁ book a order₁ ≡ own_places list area₂ book a order₂

  pub record TwoRuns : Type 0 where
    pub orders : TwoOrders
    pub unhindered₁ : Unhindered (replies list area₁ book order₁)
    pub unhindered₂ : Unhindered (replies list area₂ book order₂)

  -- "gives every result the same answer and ends with the same rows, each as many times"
  pub record SameEnd : Type 0 where
    pub same_status : (i : ℕ) → i < length list
        → (reply_to list area₁ book order₁ i).status ≡ (reply_to list area₂ book order₂ i).status
    pub same_answer : (i : ℕ) → i < length list → right_lengths list area₁ i ≡ true
        → (reply_to list area₁ book order₁ i).answer ≡ (reply_to list area₂ book order₂ i).answer
    -- -100: each area as it was
    pub unwritten : (i : ℕ) → i < length list → right_lengths list area₁ i ≡ false
        → ((reply_to list area₁ book order₁ i).status ≡ BadLength)
        × ((reply_to list area₁ book order₁ i).answer ≡ area₁ i) × ((reply_to list area₂ book order₂ i).answer ≡ area₂ i)
    pub same_rows : (r : Row)
        → count (same_row r) (rows (ending list area₁ book order₁))
        ≡ count (same_row r) (rows (ending list area₂ book order₂))

abbrev pub Demand3 : Type 0
Demand3 =
    (book : List ℕ) (list : List (List ℕ)) (area₁ area₂ : ℕ → List ℕ) (order₁ order₂ : List ℕ)
    → TwoRuns book list area₁ area₂ order₁ order₂ → SameEnd book list area₁ area₂ order₁ order₂

-- ---- the same of the program: what a call of `book_result` returned, and the book and the answer area that it left
pub record Seen : Type 0 where
  pub returned : ℤ
  pub book : List ℕ
  pub answer : List ℕ

module _ (list : List (List ℕ)) (area : ℕ → List ℕ) where
  -- the calls made in turn: each keeps its promise, on the book that the one before it left
  abbrev pub Ran : List ℕ → List ℕ → List Seen → Type 0
  Ran book [] [] = Unit {0}
  Ran book [] (s ∷ seen) = ⊥
  Ran book (i ∷ order) [] = ⊥
  Ran book (i ∷ order) (s ∷ seen) =
      Promise (result_call book (get_or list i []) (area i)) s.returned s.book s.answer
      × Ran s.book order seen

abbrev pub last_book : List ℕ → List Seen → List ℕ
last_book book [] = book
last_book book (s ∷ seen) = last_book s.book seen

-- what was seen of the result at place i
abbrev pub seen_of : List ℕ → List Seen → ℕ → Seen
seen_of order seen i =
    get_or seen (place (eqb i) order) (record { returned = number BadLength; book = []; answer = [] })

-- "neither run meeting -104 or -105"
pub record UnhinderedRun (seen : List Seen) : Type 0 where
  pub no_limit : (s : Seen) → Memᴰ s seen → s.returned ≡ number OverLimit → ⊥
  pub no_room : (s : Seen) → Memᴰ s seen → s.returned ≡ number NoRoom → ⊥

module _ (book : List ℕ) (list : List (List ℕ)) (area₁ area₂ : ℕ → List ℕ) (order₁ order₂ : List ℕ)
    (seen₁ seen₂ : List Seen) where
  pub record TwoRan : Type 0 where
    pub orders : TwoOrders book list area₁ area₂ order₁ order₂
    pub ran₁ : Ran list area₁ book order₁ seen₁
    pub ran₂ : Ran list area₂ book order₂ seen₂
    pub unhindered₁ : UnhinderedRun seen₁
    pub unhindered₂ : UnhinderedRun seen₂

  pub record SameSeen : Type 0 where
    pub same_number : (i : ℕ) → i < length list
        → (seen_of order₁ seen₁ i).returned ≡ (seen_of order₂ seen₂ i).returned
    pub same_answer : (i : ℕ) → i < length list → right_lengths list area₁ i ≡ true
        → (seen_of order₁ seen₁ i).answer ≡ (seen_of order₂ seen₂ i).answer
    -- -100: each area as it was
    pub unwritten : (i : ℕ) → i < length list → right_lengths list area₁ i ≡ false
        → ((seen_of order₁ seen₁ i).returned ≡ number BadLength)
        × ((seen_of order₁ seen₁ i).answer ≡ area₁ i) × ((seen_of order₂ seen₂ i).answer ≡ area₂ i)
    pub same_rows : (r : Row)
        → count (same_row r) (rows (last_book book seen₁)) ≡ count (same_row r) (rows (last_book book seen₂))

abbrev pub OfTheProgram : Type 0
OfTheProgram =
    (book : List ℕ) (list : List (List ℕ)) (area₁ area₂ : ℕ → List ℕ) (order₁ order₂ : List ℕ)
    (seen₁ seen₂ : List Seen)
    → TwoRan book list area₁ area₂ order₁ order₂ seen₁ seen₂
    → SameSeen book list area₁ area₂ order₁ order₂ seen₁ seen₂
