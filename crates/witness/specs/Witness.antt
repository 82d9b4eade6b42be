-- The theorem is not vacuous: a book and a list of five results for which all that it asks holds, in two orders whose
-- end books differ in their places. And it asks for no more than it needs: where an account's own two results change
-- places, the answer to one of them is another. Each fact of the book is found by computation. Assumes nothing.
use Rattle.std.specs.Prelude.{◌≡◌, refl, Bool, true, false, not, ◌&&◌, ℕ, ◌+◌, eqb, ltb, nat_abs, length, get_or, replicate}
use Rattle.std.proofs.Common.{sym, ap, ◌∙◌, arith, eqb-true, le-ltb, ne_eqb}
use Rattle.std.proofs.lemmas.Bool.{false≢true, eqb-false}
use mathlib.Core.List.{List, [], ◌∷◌, ◌++◌, Memᴰ}
use Rattle.laws.specs.Search.{bit, count, every, keep, means_every, seek, total}
use Rattle.record.specs.Codes.{kind_account, kind_band, kind_broker, kind_customer, kind_result, kind_security, kind_trade}
use Rattle.record.specs.Codes.{submitted, tmb, tms}
use Rattle.record.specs.Grid.{decode, encode}
use Rattle.record.specs.Symbol.{symbol_number}
use Rattle.record.specs.declared.row.Row.{Row}
use Rattle.rules.specs.Ranges.{flags, form, id, kind, n1, n2, n3, n4, party, status, symbol, when}
use Rattle.model.specs.declared.Status.{Status}
use Rattle.model.specs.declared.Status.TheVariants.{NoRoom, OverLimit}
use Rattle.model.specs.Call.{Reply}
use Rattle.model.specs.Edit.{◌≔◌, new}
use Rattle.model.specs.Evaluate.{result_opened}
use Rattle.model.specs.Rows.{bytes, most_records, nothing, rows, whole_records}
use Rattle.model.specs.Sample.{abc}
use Rattle.model.specs.Sound.{sound}
use Rattle.model.specs.Status.{number}
use Rattle.model.specs.History.{history_row}
use Rattle.reorder.specs.Proof.{demand_3}
use Rattle.reorder.specs.Statement.{Order, SameEnd, TwoRuns, Unhindered, account_of, ending, own_places, replies}
use Rattle.reorder.specs.Statement.{reply_to}

-- a submitted cash trade of an account
abbrev sent : ℕ → ℕ → ℕ → ℕ → List Row
sent type account number shares =
    new (
    kind ≔ kind_trade ∷ form ≔ type ∷ status ≔ submitted ∷ flags ≔ 1 ∷ party ≔ account ∷ id ≔ number
    ∷ symbol ≔ symbol_number abc ∷ n1 ≔ shares
    ∷ n2 ≔ 3_000 ∷ n4 ≔ 500 ∷ when ≔ 300 ∷ [])
    ∷ history_row submitted number 300
    ∷ []

abbrev account : ℕ → Row
account n = new (kind ≔ kind_account ∷ party ≔ n ∷ n1 ≔ 1 ∷ n2 ≔ 1 ∷ [])

abbrev band : ℕ → Row
band type = new (kind ≔ kind_band ∷ form ≔ type ∷ status ≔ 1 ∷ flags ≔ 1 ∷ n1 ≔ 1 ∷ n2 ≔ 1_000 ∷ n3 ≔ 50 ∷ [])

-- one broker; account 1 buys ten shares and sells four of them, account 2 buys ten; eighteen places free
abbrev pub book : List ℕ
book =
    bytes
    (new (kind ≔ kind_broker ∷ party ≔ 1 ∷ [])
    ∷ new (kind ≔ kind_customer ∷ form ≔ 1 ∷ party ≔ 1 ∷ [])
    ∷ account 1
    ∷ account 2
    ∷ new (kind ≔ kind_security ∷ form ≔ 1 ∷ symbol ≔ symbol_number abc ∷ n1 ≔ 3_000 ∷ [])
    ∷ band tmb
    ∷ band tms
    ∷ (sent tmb 1 11 10 ++ sent tmb 2 12 10 ++ sent tms 1 13 4 ++ replicate 18 nothing))

abbrev result_of : ℕ → List ℕ
result_of number = encode (new (kind ≔ kind_result ∷ id ≔ number ∷ n1 ≔ 2_900 ∷ when ≔ 1_000 ∷ []))

-- results of the three trades, one that names none, and one of a wrong length
abbrev pub list : List (List ℕ)
list = result_of 11 ∷ result_of 12 ∷ result_of 13 ∷ result_of 99 ∷ (7 ∷ []) ∷ []

abbrev pub area : ℕ → List ℕ
area i = replicate 64 7

abbrev pub one : List ℕ
one = 0 ∷ 1 ∷ 2 ∷ 3 ∷ 4 ∷ []

abbrev pub other : List ℕ
other = 4 ∷ 3 ∷ 1 ∷ 0 ∷ 2 ∷ []

-- account 1 sells before it buys
abbrev pub swapped : List ℕ
swapped = 2 ∷ 1 ∷ 0 ∷ 3 ∷ 4 ∷ []

-- ---- by computation
whole : whole_records most_records (length book) ≡ true
unfolding result_opened
whole = refl

right : sound (rows book) ≡ true
unfolding result_opened
right = refl

accounts : (account_of list area book 0 ≡ 1) × (account_of list area book 1 ≡ 2) × (account_of list area book 2 ≡ 1)
    × (account_of list area book 3 ≡ 0) × (account_of list area book 4 ≡ 0)
unfolding result_opened
accounts = (refl, refl, refl, refl, refl)

-- neither -104 nor -105
abbrev pub fine : Status → Bool
fine s = not (eqb (nat_abs (number s)) 104) && not (eqb (nat_abs (number s)) 105)

fine_one : every (λ (r : Reply). fine r.status) (replies list area book one) ≡ true
unfolding result_opened replies
fine_one = refl

fine_other : every (λ (r : Reply). fine r.status) (replies list area book other) ≡ true
unfolding result_opened replies
fine_other = refl

fine_swapped : every (λ (r : Reply). fine r.status) (replies list area book swapped) ≡ true
unfolding result_opened replies
fine_swapped = refl

-- the trade of the first row that is added: here of account 1, there of account 2
place_one : (get_or (rows (ending list area book one)) 13 nothing).id ≡ 11
unfolding result_opened ending
place_one = refl

place_other : (get_or (rows (ending list area book other)) 13 nothing).id ≡ 12
unfolding result_opened ending
place_other = refl

-- ---- all that the theorem asks
-- a status that fails a test is nobody's where all pass it
pub none_is : (s : Status) (passes : Status → Bool) → passes s ≡ false → (given : List Reply)
    → every (λ (r : Reply). passes r.status) given ≡ true → (r : Reply) → Memᴰ r given → r.status ≡ s → ⊥
none_is s passes fails given e r m q =
    let each =
    (means_every given (λ (r : Reply). record { shows = λ (h : passes r.status ≡ true). h; holds = λ h. h })).shows e
    in
    false≢true (sym fails ∙ sym (ap passes q) ∙ each r m)

pub unhindered : (passes : Status → Bool) → passes OverLimit ≡ false → passes NoRoom ≡ false → (given : List Reply)
    → every (λ (r : Reply). passes r.status) given ≡ true → Unhindered given
unhindered passes limit room given e = record {
  no_limit = none_is OverLimit passes limit given e;
  no_room = none_is NoRoom passes room given e;
}

-- each place below five once
in_order : (order : List ℕ)
    → ((i : ℕ) → count (eqb i) order ≡ bit (eqb i 0) + bit (eqb i 1) + bit (eqb i 2) + bit (eqb i 3) + bit (eqb i 4))
    → Order 5 order
in_order order h i = h i ∙ go (eqb i 0) (eqb i 1) (eqb i 2) (eqb i 3) (eqb i 4) refl refl refl refl refl
  where
    go : (a b c d e : Bool) → eqb i 0 ≡ a → eqb i 1 ≡ b → eqb i 2 ≡ c → eqb i 3 ≡ d → eqb i 4 ≡ e
        → bit (eqb i 0) + bit (eqb i 1) + bit (eqb i 2) + bit (eqb i 3) + bit (eqb i 4) ≡ bit (ltb i 5)
    go true b c d e ea eb ec ed ee = rw (eqb-true i 0 ea) refl
    go false true c d e ea eb ec ed ee = rw (eqb-true i 1 eb) refl
    go false false true d e ea eb ec ed ee = rw (eqb-true i 2 ec) refl
    go false false false true e ea eb ec ed ee = rw (eqb-true i 3 ed) refl
    go false false false false true ea eb ec ed ee = rw (eqb-true i 4 ee) refl
    go false false false false false ea eb ec ed ee =
        let n0 = eqb-false i 0 ea in
        let n1 = eqb-false i 1 eb in
        let n2 = eqb-false i 2 ec in
        let n3 = eqb-false i 3 ed in
        let n4 = eqb-false i 4 ee in
        rw (ea, eb, ec, ed, ee, le-ltb i 5 (omega arith))

order_one : Order 5 one
unfolding count total
order_one = in_order one (λ i. omega arith)

order_other : Order 5 other
unfolding count total
order_other = in_order other (λ i. omega arith)

-- account 1 has the places 0 and 2, account 2 has the place 1, and no account has the places 3 and 4
two_places : (p : ℕ → Bool) → p 0 ≡ p 2 → (p 0 ≡ true → p 1 ≡ false) → p 3 ≡ false → p 4 ≡ false
    → keep p one ≡ keep p other
unfolding keep
two_places p e f n m = go (p 0) (p 1) refl refl
  where
    go : (x y : Bool) → p 0 ≡ x → p 1 ≡ y → keep p one ≡ keep p other
    go true y q r = let u = sym e ∙ q in rw (q, f q, u, n, m) refl
    go false y q r = let u = sym e ∙ q in rw (q, u, n, m) refl

own_order : (a : ℕ) → (a ≡ 0 → ⊥) → own_places list area book a one ≡ own_places list area book a other
own_order a z =
    let is : ℕ → Bool = λ n. eqb n a in
    two_places (λ (i : ℕ). eqb (account_of list area book i) a)
    (ap is (accounts.0 ∙ sym accounts.2))
    (λ h.
    let e = eqb-true 1 a (sym (ap is accounts.0) ∙ h) in
    ap is accounts.1 ∙ ne_eqb 2 a (λ q. absurd (omega arith)))
    (ap is accounts.3 ∙ ne_eqb 0 a (λ q. z (sym q)))
    (ap is accounts.4 ∙ ne_eqb 0 a (λ q. z (sym q)))

pub two_runs : TwoRuns book list area area one other
two_runs = record {
  orders = record {
    sound = record { whole = whole; right = right };
    same_lengths = λ i h. refl;
    is_order₁ = order_one;
    is_order₂ = order_other;
    own_order = own_order;
  };
  unhindered₁ = unhindered fine refl refl (replies list area book one) fine_one;
  unhindered₂ = unhindered fine refl refl (replies list area book other) fine_other;
}

-- so the answers are the same, and the rows at the end
pub same_end : SameEnd book list area area one other
same_end = demand_3 book list area area one other two_runs

-- yet the places of the end books differ
pub ends_differ : ending list area book one ≡ ending list area book other → ⊥
ends_differ e =
    let a = place_one in
    let b = place_other in
    let c = ap (λ (k : List ℕ). (get_or (rows k) 13 nothing).id) e in
    absurd (omega arith)

-- ---- an account's own order is needed: the balance that the first result answers is another
abbrev balance_in : List ℕ → ℕ
balance_in order = (decode (reply_to list area book order 0).answer).m1

answers_of : eqb (balance_in one) (balance_in swapped) ≡ false
unfolding result_opened replies seek
answers_of = refl

pub order_matters : Unhindered (replies list area book swapped)
    × ((reply_to list area book one 0).answer ≡ (reply_to list area book swapped 0).answer → ⊥)
order_matters = (
  unhindered fine refl refl (replies list area book swapped) fine_swapped,
  λ e. eqb-false (balance_in one) (balance_in swapped) answers_of (ap (λ (k : List ℕ). (decode k).m1) e),
)
