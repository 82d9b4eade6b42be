-- Demand 3, proved: the run on bytes is the run on rows, and there it holds; and what the program returned and left is
-- what the calls reply. Assumes nothing.
use Rattle.std.specs.Prelude.{◌≡◌, Bool, false, ◌&&◌, ℕ, ◌≤◌, ◌<◌, eqb, ltb, length, get_or}
use Rattle.std.proofs.Math.Path.{refl, ap₂}
use Rattle.std.proofs.Common.{sym, ap, subst, ◌∙◌, arith, lt-ltb, ltb-false, ltb-true}
use mathlib.Core.List.Memᴰ
use mathlib.Core.List.{List, [], ◌∷◌, map, Memᴰ}
use Rattle.std.proofs.Math.ListN.{get_or-eq_default, get_or-map}
use Rattle.laws.specs.Search.{bit, count, keep, place}
use Rattle.record.specs.declared.row.Row.{Row}
use Rattle.record.specs.Grid.{decode}
use Rattle.model.specs.declared.Status.TheVariants.{BadLength}
use Rattle.model.specs.Call.{Reply, a_result, lengths_of}
use Rattle.model.specs.Names.{a_trade}
use Rattle.model.specs.Rows.{found, nothing, record_size, rows, same_row}
use Rattle.model.specs.Status.{number}
use Rattle.preserved.specs.Cases.{by_cases, cond_no, cond_yes}
use Rattle.reorder.specs.OnBytes.{At, ending_rows, few_rows, fines, input, no_trade, reply_noted, said}
use Rattle.reorder.specs.OnRows.{same_notes, same_rows_end}
use Rattle.reorder.specs.Run.{note_to}
use Rattle.reorder.specs.Statement.{Demand3, OfTheProgram, Order, Ran, SameEnd, Seen, TwoOrders, TwoRuns}
use Rattle.reorder.specs.Statement.{Unhindered, UnhinderedRun, account_of, call, ending, last_book, own_places}
use Rattle.reorder.specs.Statement.{replies, reply_to, right_lengths, seen_of}
use Rattle.reorder.specs.Step.{Note}

abbrev none : Reply
none = record { status = BadLength; answer = []; book = [] }

module _ (book : List ℕ) (list : List (List ℕ)) (area₁ area₂ : ℕ → List ℕ) (order₁ order₂ : List ℕ)
    (two : TwoRuns book list area₁ area₂ order₁ order₂) where
  abbrev o : TwoOrders book list area₁ area₂ order₁ order₂
  o = two.orders

  abbrev right : ℕ → Bool
  right i = right_lengths list area₁ i

  lengths₁ : (i : ℕ) → right_lengths list area₁ i ≡ right i
  lengths₁ i = refl

  -- a place past the list has no input
  past : (area : ℕ → List ℕ) (i : ℕ) → ltb i (length list) ≡ false → right_lengths list area i ≡ false
  past area i e =
      ap (λ (l : List ℕ). eqb (length l) record_size && eqb (length (area i)) record_size)
      (get_or-eq_default list [] (ltb-false i (length list) e))

  lengths₂ : (i : ℕ) → right_lengths list area₂ i ≡ right i
  lengths₂ i =
      by_cases (ltb i (length list))
      (λ e.
      ap (lengths_of a_result (length (get_or list i []))) (sym (o.same_lengths i (ltb-true i (length list) e))))
      (λ e. past area₂ i e ∙ sym (past area₁ i e))

  abbrev inputs : ℕ → Row
  inputs i = input list area₁ right lengths₁ i

  -- the account of a place, told by its row
  account_is : (area : ℕ → List ℕ) → ((i : ℕ) → right_lengths list area i ≡ right i) → (i : ℕ)
      → (found (a_trade (inputs i).id) (rows book)).party ≡ account_of list area book i
  account_is area lengths i =
      by_cases (right i)
      (λ e.
      ap (λ (r : Row). (found (a_trade r.id) (rows book)).party) (cond_yes (decode (get_or list i [])) nothing e)
      ∙ sym (cond_yes _ _ (lengths i ∙ e)))
      (λ e.
      ap (λ (r : Row). (found (a_trade r.id) (rows book)).party) (cond_no (decode (get_or list i [])) nothing e)
      ∙ no_trade (rows book) o.sound.right ∙ sym (cond_no _ _ (lengths i ∙ e)))

  own_places_holds : (area : ℕ → List ℕ) → ((i : ℕ) → right_lengths list area i ≡ right i) → (a : ℕ) (order : List ℕ)
      → keep (λ (i : ℕ). eqb (found (a_trade (inputs i).id) (rows book)).party a) order
      ≡ own_places list area book a order
  own_places_holds area lengths a order =
      ap (λ (f : ℕ → ℕ). keep (λ (i : ℕ). eqb (f i) a) order) (λ j i. account_is area lengths i j)

  own_order : (a : ℕ) → (a ≡ 0 → ⊥)
      → keep (λ (i : ℕ). eqb (found (a_trade (inputs i).id) (rows book)).party a) order₁
      ≡ keep (λ (i : ℕ). eqb (found (a_trade (inputs i).id) (rows book)).party a) order₂
  own_order a z =
      own_places_holds area₁ lengths₁ a order₁ ∙ o.own_order a z ∙ sym (own_places_holds area₂ lengths₂ a order₂)

  notes : (i : ℕ) → i < length list → note_to inputs (rows book) order₁ i ≡ note_to inputs (rows book) order₂ i
  notes =
      same_notes (rows book) o.sound.right (few_rows book o.sound.whole) inputs (length list)
      order₁ order₂
      o.is_order₁ o.is_order₂ own_order
      (fines list area₁ right lengths₁ book order₁ o.sound two.unhindered₁)
      (fines list area₂ right lengths₂ book order₂ o.sound two.unhindered₂)

  turn : (order : List ℕ) → Order (length list) order → (i : ℕ) → i < length list → 1 ≤ count (eqb i) order
  turn order is-order i h =
      let e = is-order i in
      let b : bit (ltb i (length list)) ≡ 1 = ap bit (lt-ltb i (length list) h) in
      omega arith

  module _ (i : ℕ) (h : i < length list) where
    at₁ : At list area₁ right lengths₁ book order₁ i (reply_to list area₁ book order₁ i)
    at₁ = reply_noted list area₁ right lengths₁ none i book order₁ o.sound (turn order₁ o.is_order₁ i h)

    at₂ : At list area₂ right lengths₂ book order₂ i (reply_to list area₂ book order₂ i)
    at₂ = reply_noted list area₂ right lengths₂ none i book order₂ o.sound (turn order₂ o.is_order₂ i h)

  same_end : SameEnd book list area₁ area₂ order₁ order₂
  same_end = record {
    same_status = λ i h.
        by_cases (right i)
        (λ e. (at₁ i h).status e ∙ ap (λ (n : Note). n.status) (notes i h) ∙ sym ((at₂ i h).status e))
        (λ e. (at₁ i h).refused e ∙ sym ((at₂ i h).refused e));
    same_answer = λ i h e. (at₁ i h).answer e ∙ ap said (notes i h) ∙ sym ((at₂ i h).answer e);
    unwritten = λ i h e. ((at₁ i h).refused e, (at₁ i h).unwritten e, (at₂ i h).unwritten e);
    same_rows = λ r.
        ap (count (same_row r)) (ending_rows list area₁ right lengths₁ book order₁ o.sound)
        ∙ same_rows_end (rows book) o.sound.right (few_rows book o.sound.whole) inputs (length list)
        order₁ order₂ o.is_order₁ o.is_order₂ own_order
        (fines list area₁ right lengths₁ book order₁ o.sound two.unhindered₁)
        (fines list area₂ right lengths₂ book order₂ o.sound two.unhindered₂) r
        ∙ sym (ap (count (same_row r)) (ending_rows list area₂ right lengths₂ book order₂ o.sound));
  }

pub demand_3 : Demand3
demand_3 = same_end

-- ---- of the program: what is seen is what the calls reply
abbrev shown : Reply → Seen
shown r = record { returned = number r.status; book = r.book; answer = r.answer }

module _ (list : List (List ℕ)) (area : ℕ → List ℕ) where
  as_replied : (book order : List ℕ) (seen : List Seen) → Ran list area book order seen
      → seen ≡ map shown (replies list area book order)
  unfolding replies
  as_replied book [] [] r = refl
  as_replied book [] (s ∷ seen) r = absurd r
  as_replied book (i ∷ order) [] r = absurd r
  as_replied book (i ∷ order) (s ∷ seen) r =
      let p = r.0 in
      let first : s ≡ shown (call list area book i) =
      λ j. record { returned = p.returns j; book = p.keeps j; answer = p.says j }
      in
      let rest =
      as_replied (call list area book i).book order seen
      (subst (λ (b : List ℕ). Ran list area b order seen) p.keeps r.1)
      in
      ap₂ (λ (x : Seen) (l : List Seen). x ∷ l) first rest

  last_is : (book order : List ℕ)
      → last_book book (map shown (replies list area book order)) ≡ ending list area book order
  unfolding replies ending
  last_is book [] = refl
  last_is book (i ∷ order) = last_is (call list area book i).book order

  module _ (book order : List ℕ) (seen : List Seen) (ran : Ran list area book order seen) where
    seen_is : (i : ℕ) → seen_of order seen i ≡ shown (reply_to list area book order i)
    seen_is i =
        ap (λ (l : List Seen). get_or l (place (eqb i) order) (shown none)) (as_replied book order seen ran)
        ∙ get_or-map shown (replies list area book order) (place (eqb i) order) none

    last_seen : last_book book seen ≡ ending list area book order
    last_seen = ap (last_book book) (as_replied book order seen ran) ∙ last_is book order

    among_seen : (r : Reply) → Memᴰ r (replies list area book order) → Memᴰ (shown r) seen
    among_seen r m =
        subst (λ (l : List Seen). Memᴰ (shown r) l) (sym (as_replied book order seen ran)) (Memᴰ.map shown m)

    unhindered : UnhinderedRun seen → Unhindered (replies list area book order)
    unhindered f = record {
      no_limit = λ r m e. f.no_limit (shown r) (among_seen r m) (ap number e);
      no_room = λ r m e. f.no_room (shown r) (among_seen r m) (ap number e);
    }

pub of_the_program : OfTheProgram
of_the_program book list area₁ area₂ order₁ order₂ seen₁ seen₂ two =
    let end =
    demand_3 book list area₁ area₂ order₁ order₂
    (record {
      orders = two.orders;
      unhindered₁ = unhindered list area₁ book order₁ seen₁ two.ran₁ two.unhindered₁;
      unhindered₂ = unhindered list area₂ book order₂ seen₂ two.ran₂ two.unhindered₂;
    })
    in
    let at₁ = seen_is list area₁ book order₁ seen₁ two.ran₁ in
    let at₂ = seen_is list area₂ book order₂ seen₂ two.ran₂ in
    record {
      same_number = λ i h.
          ap (λ (s : Seen). s.returned) (at₁ i) ∙ ap number (end.same_status i h)
          ∙ sym (ap (λ (s : Seen). s.returned) (at₂ i));
      same_answer = λ i h e.
          ap (λ (s : Seen). s.answer) (at₁ i) ∙ end.same_answer i h e ∙ sym (ap (λ (s : Seen). s.answer) (at₂ i));
      unwritten = λ i h e.
          let left = end.unwritten i h e in (
            ap (λ (s : Seen). s.returned) (at₁ i) ∙ ap number left.0,
            ap (λ (s : Seen). s.answer) (at₁ i) ∙ left.1,
            ap (λ (s : Seen). s.answer) (at₂ i) ∙ left.2,
          );
      same_rows = λ r.
          ap (λ (b : List ℕ). count (same_row r) (rows b)) (last_seen list area₁ book order₁ seen₁ two.ran₁)
          ∙ end.same_rows r
          ∙ sym (ap (λ (b : List ℕ). count (same_row r) (rows b)) (last_seen list area₂ book order₂ seen₂ two.ran₂));
    }
