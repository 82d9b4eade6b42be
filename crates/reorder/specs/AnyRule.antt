-- Demand 3's words of any rule for a result: `Demand3Of rule` is `Demand3` with `rule` in the place of `result_call`;
-- of `result_call` the two say the same (`same_demand`). Counter.antt has rules of which it is false. Assumes nothing.
use Rattle.std.specs.Prelude.{◌≡◌, true, false, ◌↔◌, ℕ, ◌<◌, eqb, length, get_or}
use Rattle.std.proofs.Math.Path.{refl}
use Rattle.std.proofs.Common.{sym}
use mathlib.Core.List.{List, [], ◌∷◌}
use Rattle.laws.specs.Search.{count, place}
use Rattle.record.specs.declared.row.Row.{Row}
use Rattle.model.specs.declared.Status.TheVariants.{BadLength}
use Rattle.model.specs.Call.{Reply, result_call}
use Rattle.model.specs.Rows.{rows, same_row}
use Rattle.reorder.specs.Statement.{Demand3, SameEnd, TwoOrders, TwoRuns, Unhindered, ending, replies}
use Rattle.reorder.specs.Statement.{right_lengths}

-- what a book, an input and an answer area are answered
abbrev pub Rule : Type 0
Rule = List ℕ → List ℕ → List ℕ → Reply

module _ (rule : Rule) where
  -- ---- a run: the calls made in turn, each on the book that the one before it left
  module _ (list : List (List ℕ)) (area : ℕ → List ℕ) where
    abbrev call_of : List ℕ → ℕ → Reply
    call_of book i = rule book (get_or list i []) (area i)

    unfoldable pub replies_of : List ℕ → List ℕ → List Reply
    replies_of book [] = []
    replies_of book (i ∷ order) = call_of book i ∷ replies_of (call_of book i).book order

    unfoldable pub ending_of : List ℕ → List ℕ → List ℕ
    ending_of book [] = book
    ending_of book (i ∷ order) = ending_of (call_of book i).book order

    abbrev pub reply_to_of : List ℕ → List ℕ → ℕ → Reply
    reply_to_of book order i =
        get_or (replies_of book order) (place (eqb i) order) (record { status = BadLength; answer = []; book = [] })

  -- ---- one list in two orders
  module _ (book : List ℕ) (list : List (List ℕ)) (area₁ area₂ : ℕ → List ℕ) (order₁ order₂ : List ℕ) where
    pub record TwoRunsOf : Type 0 where
      pub orders : TwoOrders book list area₁ area₂ order₁ order₂
      pub unhindered₁ : Unhindered (replies_of list area₁ book order₁)
      pub unhindered₂ : Unhindered (replies_of list area₂ book order₂)

    pub record SameEndOf : Type 0 where
      pub same_status : (i : ℕ) → i < length list
          → (reply_to_of list area₁ book order₁ i).status ≡ (reply_to_of list area₂ book order₂ i).status
      pub same_answer : (i : ℕ) → i < length list → right_lengths list area₁ i ≡ true
          → (reply_to_of list area₁ book order₁ i).answer ≡ (reply_to_of list area₂ book order₂ i).answer
      pub unwritten : (i : ℕ) → i < length list → right_lengths list area₁ i ≡ false
          → ((reply_to_of list area₁ book order₁ i).status ≡ BadLength)
          × ((reply_to_of list area₁ book order₁ i).answer ≡ area₁ i)
          × ((reply_to_of list area₂ book order₂ i).answer ≡ area₂ i)
      pub same_rows : (r : Row)
          → count (same_row r) (rows (ending_of list area₁ book order₁))
          ≡ count (same_row r) (rows (ending_of list area₂ book order₂))

  abbrev pub Demand3Of : Type 0
  Demand3Of =
      (book : List ℕ) (list : List (List ℕ)) (area₁ area₂ : ℕ → List ℕ) (order₁ order₂ : List ℕ)
      → TwoRunsOf book list area₁ area₂ order₁ order₂ → SameEndOf book list area₁ area₂ order₁ order₂

-- ---- of `result_call`
module _ (list : List (List ℕ)) (area : ℕ → List ℕ) where
  same_replies : (book order : List ℕ) → replies_of result_call list area book order ≡ replies list area book order
  unfolding replies_of replies
  same_replies book [] = refl
  same_replies book (i ∷ order) = rw (same_replies (result_call book (get_or list i []) (area i)).book order)

  same_ending : (book order : List ℕ) → ending_of result_call list area book order ≡ ending list area book order
  unfolding ending_of ending
  same_ending book [] = refl
  same_ending book (i ∷ order) = same_ending (result_call book (get_or list i []) (area i)).book order

module _ (book : List ℕ) (list : List (List ℕ)) (area₁ area₂ : ℕ → List ℕ) (order₁ order₂ : List ℕ) where
  replies₁ : replies_of result_call list area₁ book order₁ ≡ replies list area₁ book order₁
  replies₁ = same_replies list area₁ book order₁

  replies₂ : replies_of result_call list area₂ book order₂ ≡ replies list area₂ book order₂
  replies₂ = same_replies list area₂ book order₂

  ending₁ : ending_of result_call list area₁ book order₁ ≡ ending list area₁ book order₁
  ending₁ = same_ending list area₁ book order₁

  ending₂ : ending_of result_call list area₂ book order₂ ≡ ending list area₂ book order₂
  ending₂ = same_ending list area₂ book order₂

  same_runs : TwoRunsOf result_call book list area₁ area₂ order₁ order₂ ↔ TwoRuns book list area₁ area₂ order₁ order₂
  same_runs = (
    λ t. record {
      orders = t.orders;
      unhindered₁ = rw (sym replies₁) t.unhindered₁;
      unhindered₂ = rw (sym replies₂) t.unhindered₂;
    },
    λ t. record {
      orders = t.orders;
      unhindered₁ = rw replies₁ t.unhindered₁;
      unhindered₂ = rw replies₂ t.unhindered₂;
    },
  )

  same_ends : SameEndOf result_call book list area₁ area₂ order₁ order₂ ↔ SameEnd book list area₁ area₂ order₁ order₂
  same_ends = (
    λ s. record {
      same_status = λ i h. rw (sym replies₁, sym replies₂) (s.same_status i h);
      same_answer = λ i h e. rw (sym replies₁, sym replies₂) (s.same_answer i h e);
      unwritten = λ i h e. rw (sym replies₁, sym replies₂) (s.unwritten i h e);
      same_rows = λ r. rw (sym ending₁, sym ending₂) (s.same_rows r);
    },
    λ s. record {
      same_status = λ i h. rw (replies₁, replies₂) (s.same_status i h);
      same_answer = λ i h e. rw (replies₁, replies₂) (s.same_answer i h e);
      unwritten = λ i h e. rw (replies₁, replies₂) (s.unwritten i h e);
      same_rows = λ r. rw (ending₁, ending₂) (s.same_rows r);
    },
  )

pub same_demand : Demand3Of result_call ↔ Demand3
same_demand = (
  λ d book list area₁ area₂ order₁ order₂ t.
      (same_ends book list area₁ area₂ order₁ order₂).0
      (d book list area₁ area₂ order₁ order₂ ((same_runs book list area₁ area₂ order₁ order₂).1 t)),
  λ d book list area₁ area₂ order₁ order₂ t.
      (same_ends book list area₁ area₂ order₁ order₂).1
      (d book list area₁ area₂ order₁ order₂ ((same_runs book list area₁ area₂ order₁ order₂).0 t)),
)
