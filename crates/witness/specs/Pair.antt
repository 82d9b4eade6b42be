-- Two results in both orders: what the counterexamples to demand 3 have in common. Assumes nothing.
use Rattle.std.specs.Prelude.{◌≡◌, refl, Bool, true, false, not, ◌&&◌, List, [], ◌∷◌, ℕ, ◌+◌, eqb, ltb, nat_abs, get_or, replicate}
use Rattle.std.proofs.Common.{sym, ap, ◌∙◌, arith, eq-eqb, eqb-true, le-ltb, ne_eqb}
use Rattle.std.proofs.lemmas.Bool.{false≢true, eqb-false}
use Rattle.laws.specs.Search.{bit, count, every, keep, total}
use Rattle.laws.specs.Tests.{and_left, and_right}
use Rattle.record.specs.Codes.{completed, kind_result, kind_trade_history}
use Rattle.record.specs.Grid.{encode}
use Rattle.record.specs.declared.row.Row.{Row}
use Rattle.rules.specs.Ranges.{id, kind, n1, status, when}
use Rattle.model.specs.declared.Status.{Status}
use Rattle.model.specs.declared.Status.TheVariants.{BadLength}
use Rattle.model.specs.Call.{Reply}
use Rattle.model.specs.Edit.{◌≔◌, new}
use Rattle.model.specs.Evaluate.{result_opened}
use Rattle.model.specs.Rows.{rows}
use Rattle.model.specs.Status.{number}
use Rattle.reorder.specs.Statement.{Order, TwoOrders, account_of, own_places}
use Rattle.witness.specs.Witness.{book, two_runs}

abbrev pub result_of : ℕ → ℕ → List ℕ
result_of number price = encode (new (kind ≔ kind_result ∷ id ≔ number ∷ n1 ≔ price ∷ when ≔ 1_000 ∷ []))

abbrev pub area : ℕ → List ℕ
area i = replicate 64 7

-- account 1 sells four shares that it has not, account 2 buys ten at another price
abbrev pub theirs : List (List ℕ)
theirs = result_of 13 2_900 ∷ result_of 12 2_800 ∷ []

-- what is written of the first when it is done
abbrev pub history : Row
history = new (kind ≔ kind_trade_history ∷ status ≔ completed ∷ id ≔ 13 ∷ when ≔ 1_000 ∷ [])

abbrev pub one : List ℕ
one = 0 ∷ 1 ∷ []

abbrev pub other : List ℕ
other = 1 ∷ 0 ∷ []

-- each place below two once
in_order : (order : List ℕ) → ((i : ℕ) → count (eqb i) order ≡ bit (eqb i 0) + bit (eqb i 1)) → Order 2 order
in_order order h i = h i ∙ go (eqb i 0) (eqb i 1) refl refl
  where
    go : (a b : Bool) → eqb i 0 ≡ a → eqb i 1 ≡ b → bit (eqb i 0) + bit (eqb i 1) ≡ bit (ltb i 2)
    go true b ea eb = rw (eqb-true i 0 ea) refl
    go false true ea eb = rw (eqb-true i 1 eb) refl
    go false false ea eb =
        let n0 = eqb-false i 0 ea in
        let n1 = eqb-false i 1 eb in
        rw (ea, eb, le-ltb i 2 (omega arith))

pub order_one : Order 2 one
unfolding count total
order_one = in_order one (λ i. omega arith)

pub order_other : Order 2 other
unfolding count total
order_other = in_order other (λ i. omega arith)

-- of places of which one passes at most, either order keeps the same
at_most_one : (p : ℕ → Bool) → (p 0 ≡ true → p 1 ≡ false) → keep p one ≡ keep p other
unfolding keep
at_most_one p f = go (p 0) refl
  where
    go : (x : Bool) → p 0 ≡ x → keep p one ≡ keep p other
    go true q = rw (q, f q) refl
    go false q = rw q refl

-- no place is an account's own
pub no_places : (p q : ℕ → Bool) → p 0 ≡ false → p 1 ≡ false → q 0 ≡ false → q 1 ≡ false → keep p one ≡ keep q other
unfolding keep
no_places p q e f g h = rw (e, f, g, h) refl

-- results of accounts 1 and 2: each account's own order is kept
pub two_accounts : (book : List ℕ) (list : List (List ℕ)) → account_of list area book 0 ≡ 1
    → account_of list area book 1 ≡ 2 → (a : ℕ) → own_places list area book a one ≡ own_places list area book a other
two_accounts book list e f a =
    at_most_one (λ (i : ℕ). eqb (account_of list area book i) a)
    (λ h.
    let q = eqb-true 1 a (sym (ap (λ (n : ℕ). eqb n a) e) ∙ h) in
    ap (λ (n : ℕ). eqb n a) f ∙ ne_eqb 2 a (λ r. absurd (omega arith)))

pub their_orders : TwoOrders book theirs area area one other
unfolding result_opened
their_orders = record {
  sound = two_runs.orders.sound;
  same_lengths = λ i h. refl;
  is_order₁ = order_one;
  is_order₂ = order_other;
  own_order = λ a z. two_accounts book theirs refl refl a;
}

-- ---- what is told of the replies in the one order and in the other
abbrev none : Reply
none = record { status = BadLength; answer = []; book = [] }

-- a number of the answer that is given at a turn
abbrev pub answered : ℕ → (List ℕ → ℕ) → List Reply → ℕ
answered turn f given = f (get_or given turn none).answer

-- a number of the rows that the second turn leaves
abbrev pub ended : (List Row → ℕ) → List Reply → ℕ
ended f given = f (rows (get_or given 1 none).book)

-- the number of the status that is given at a turn
abbrev pub numbered : ℕ → List Reply → ℕ
numbered turn given = nat_abs (number (get_or given turn none).status)

module _ (passes : Status → Bool) (told₁ told₂ : List Reply → ℕ) (given₁ given₂ : List Reply) where
  -- every status passes a test, and the numbers told differ
  abbrev pub apart : Bool
  apart =
      every (λ (r : Reply). passes r.status) given₁ && every (λ (r : Reply). passes r.status) given₂
      && not (eqb (told₁ given₁) (told₂ given₂))

  module _ (e : apart ≡ true) where
    both : (every (λ (r : Reply). passes r.status) given₁ && every (λ (r : Reply). passes r.status) given₂) ≡ true
    both = and_left _ (not (eqb (told₁ given₁) (told₂ given₂))) e

    pub pass₁ : every (λ (r : Reply). passes r.status) given₁ ≡ true
    pass₁ = and_left (every (λ (r : Reply). passes r.status) given₁) _ both

    pub pass₂ : every (λ (r : Reply). passes r.status) given₂ ≡ true
    pass₂ = and_right (every (λ (r : Reply). passes r.status) given₁) _ both

    pub differ : told₁ given₁ ≡ told₂ given₂ → ⊥
    differ q =
        false≢true
        (sym (ap not (eq-eqb (told₁ given₁) (told₂ given₂) q))
        ∙ and_right
        (every (λ (r : Reply). passes r.status) given₁ && every (λ (r : Reply). passes r.status) given₂)
        (not (eqb (told₁ given₁) (told₂ given₂)))
        e)
