-- What the tests of the calls mean: each is true exactly when a condition of the table holds. Assumes nothing.
use Rattle.std.specs.Prelude.{◌≡◌, Bool, cond, not, ◌&&◌, ◌||◌, ◌⊎◌, ◌↔◌, ℕ, ◌*◌, ◌%◌, ◌≤◌, ◌<◌, leb, ltb}
use Rattle.std.proofs.Math.Path.{refl, ap}
use Rattle.std.proofs.Common.{sym, ◌∙◌, subst, ⊎_elim}
use Rattle.std.proofs.Math.Bool.{true, false}
use Rattle.std.proofs.lemmas.Bool.{false≢true}
use mathlib.Core.List.{List, [], ◌∷◌, Memᴰ}
use Rattle.std.proofs.Math.Logic.{inl, inr}
use native.Mathlib.Omega.{arith}
use Rattle.std.proofs.Math.Dec.{eqb}
use borrow.Author.Tests.{eqb-false, eqb-true, leb-false, leb-true, lt-leb, lt-ltb, ltb-true, ne_eqb, not-true}
use Rattle.laws.specs.Keep.{the_has}
use Rattle.laws.specs.Place.{the_none, the_passes}
use Rattle.laws.specs.Puts.{the_one}
use Rattle.laws.specs.Search.{count, every, means_every, the}
use Rattle.laws.specs.Tests.{Means, and_assoc, means_and, means_eq, means_le}
use Rattle.record.specs.Codes.{kind_account, kind_charge, kind_free, kind_permission, kind_security, kind_trade}
use Rattle.record.specs.Grid.{decode}
use Rattle.keys.specs.Key.{key_of, same_key}
use Rattle.record.specs.Symbol.{means_same, same_symbol}
use Rattle.keys.specs.declared.Key.{Key}
use Rattle.record.specs.declared.row.Row.{Row}
use Rattle.record.specs.declared.symbol.Symbol.{Symbol}
use Rattle.rules.specs.Meaning.{means_account, means_feed_input, means_lookup_input, means_order_input}
use Rattle.rules.specs.Meaning.{means_result_input}
use Rattle.rules.specs.Ranges.{tax_status}
use Rattle.rules.specs.Rules.{as_kind}
use Rattle.model.specs.declared.BandAnswer.{BandAnswer}
use Rattle.model.specs.declared.BandAnswer.TheVariants.{NoBand, Rate, ZeroRate}
use Rattle.model.specs.Band.{answer_of, band_answer, band_for, no_band, rated, zero_rate}
use Rattle.model.specs.Call.{Call, a_feed, a_lookup, a_result, an_order, fields_of, lengths_of, most_inputs}
use Rattle.model.specs.Lots.{Walk}
use Rattle.model.specs.Money.{taxable, untaxed}
use Rattle.model.specs.Names.{a_charge, a_permission, a_security, a_trade, an_account}
use Rattle.model.specs.Order.{permitted}
use Rattle.model.specs.Rows.{found, has_key, is, most_records, nothing, record_size, rows, there, whole_records}
use Rattle.model.specs.Sound.{sound}
use Rattle.facts.specs.Found.{found_has, found_none, sound_s1, the_most}
use Rattle.facts.specs.Names.{by_executor_holds, by_id_holds, by_party_holds, by_symbol_holds}
use Rattle.facts.specs.Keys.{key_kind, of_live}
use Rattle.preserved.specs.Cases.{by_cases, none_passes, not_so}
use Rattle.preserved.specs.Once as once
use Rattle.demands.specs.Demand2.{Account, Answers, Band, Charge, None, Permission, Records, RightFields}
use Rattle.demands.specs.Demand2.{RightLengths, Security, Some, Trade, Untaxed, ZeroOrNone}

-- ---- tests and propositions
-- the same test, or the same proposition in other words
pub means_by : {a b : Bool} {P : Type 0} → a ≡ b → Means b P → Means a P
means_by e m = record { shows = λ h. m.shows (sym e ∙ h); holds = λ h. e ∙ m.holds h }

means_as : {b : Bool} {P Q : Type 0} → Means b P → (P → Q) → (Q → P) → Means b Q
means_as m f g = record { shows = λ e. f (m.shows e); holds = λ h. m.holds (g h) }

pub means_not : {b : Bool} {P : Type 0} → Means b P → Means (not b) (P → ⊥)
means_not {b} m = record {
  shows = λ e h. false≢true (sym (not-true b e) ∙ m.holds h);
  holds = λ n. rw (not_so b (λ e. n (m.shows e)));
}

pub means_more : (a b : ℕ) → Means (not (leb a b)) (b < a)
means_more a b = record { shows = λ e. leb-false a b (not-true (leb a b) e); holds = λ h. rw (lt-leb a b h) }

means_lt : (a b : ℕ) → Means (ltb a b) (a < b)
means_lt a b = record { shows = ltb-true a b; holds = lt-ltb a b }

-- one of two tests fails
means_fails : (a b : Bool) {P Q : Type 0} → Means (not a) P → Means (not b) Q → Means (not (a && b)) (P ⊎ Q)
means_fails a b p q = record {
  shows = λ e. ⊎_elim (λ h. inl (p.shows h)) (λ h. inr (q.shows h)) (one a b e);
  holds = ⊎_elim (λ h. first a b (p.holds h)) (λ h. second a b (q.holds h));
}
  where
    one : (a b : Bool) → not (a && b) ≡ true → (not a ≡ true) ⊎ (not b ≡ true)
    one true b e = inr e
    one false b e = inl refl

    first : (a b : Bool) → not a ≡ true → not (a && b) ≡ true
    first true b e = absurd (false≢true e)
    first false b e = refl

    second : (a b : Bool) → not b ≡ true → not (a && b) ≡ true
    second true b e = e
    second false b e = refl

-- one of three tests fails
pub means_one_fails : (a b c : Bool) {P Q R : Type 0} → Means (not a) P → Means (not b) Q → Means (not c) R
    → Means (not (a && b && c)) (P ⊎ (Q ⊎ R))
means_one_fails a b c p q r =
    means_by (ap not (sym (and_assoc a b c))) (means_fails a (b && c) p (means_fails b c q r))

-- neither of two tests passes
means_neither : (a b : Bool) {P Q : Type 0} → Means (not a) P → Means (not b) Q → Means (not (a || b)) (P × Q)
means_neither a b p q = means_by (nor a b) (means_and p q)
  where
    nor : (a b : Bool) → not (a || b) ≡ (not a && not b)
    nor true b = refl
    nor false b = refl

-- some element fails
pub means_some : {A : Type 0} (p : A → Bool) {P : A → Type 0} (l : List A) → ((x : A) → Means (not (p x)) (P x))
    → Means (not (every p l)) (Some P l)
unfolding every
means_some {A} p {P} l m = record {
  shows = first l;
  holds = λ h.
      rw (not_so (every p l)
      (λ e.
      let passes = (means_every l (λ x. record { shows = λ t. t; holds = λ t. t })).shows e h.0 h.1 in
      false≢true (sym (not-true (p h.0) ((m h.0).holds h.2)) ∙ passes)));
}
  where
    first : (k : List A) → not (every p k) ≡ true → Some P k
    first [] e = absurd (false≢true e)
    first (x ∷ k) e =
        by_cases (p x)
        (λ t. let rest = first k (rw t at e) in (rest.0, Memᴰ.tail rest.1, rest.2))
        (λ t. (x, Memᴰ.head refl, (m x).shows (rw t)))

-- ---- rows
-- no row passes
means_none : {p : Row → Bool} {P : Row → Type 0} (rs : List Row) → ((r : Row) → Means (p r) (P r))
    → Means (not (leb 1 (count p rs))) (None P rs)
means_none {p} rs m = record {
  shows = λ e r i h.
      let few = leb-false 1 (count p rs) (not-true (leb 1 (count p rs)) e) in
      false≢true (sym (none_passes p rs (omega arith) r i) ∙ (m r).holds h);
  holds = λ none.
      rw (not_so (leb 1 (count p rs))
      (λ e.
      none (the p nothing rs) (the_has p nothing rs e) ((m (the p nothing rs)).shows (the_passes p nothing rs e))));
}

-- a key finds no row
not_there : (k : Key) (rs : List Row) → eqb k.kind kind_free ≡ false → is kind_free (found k rs) ≡ not (there k rs)
not_there k rs live =
    by_cases (there k rs)
    (λ e. of_live k.kind (found k rs) live (key_kind k (found k rs) (found_has k rs e)) ∙ rw e)
    (λ e. rw (e, found_none k rs e))

module _ (rs : List Row) (k : Key) {P : Row → Type 0} (m : (r : Row) → Means (has_key k r) (P r)) where
  pub means_unknown : Means (not (there k rs)) (None P rs)
  unfolding there
  means_unknown = means_none rs m

  pub means_absent : eqb k.kind kind_free ≡ false → Means (is kind_free (found k rs)) (None P rs)
  means_absent live = means_by (not_there k rs live) means_unknown

pub means_an_account : (n : ℕ) (r : Row) → Means (has_key (an_account n) r) (Account n r)
means_an_account n r =
    means_by (by_party_holds kind_account refl n r) (means_and (means_eq r.kind kind_account) (means_eq r.party n))

pub means_a_security : (y : Symbol) (r : Row) → Means (has_key (a_security y) r) (Security y r)
means_a_security y r = means_by (by_symbol_holds y r) (means_and (means_eq r.kind kind_security) (means_same r.symbol y))

pub means_a_trade : (i : ℕ) (r : Row) → Means (has_key (a_trade i) r) (Trade i r)
means_a_trade i r =
    means_by (by_id_holds kind_trade refl i r) (means_and (means_eq r.kind kind_trade) (means_eq r.id i))

means_a_permission : (a e : ℕ) (r : Row) → Means (has_key (a_permission a e) r) (Permission a e r)
means_a_permission a e r =
    means_by (by_executor_holds a e r)
    (means_as
    (means_and (means_and (means_eq r.kind kind_permission) (means_eq r.party a)) (means_eq r.n1 e))
    (λ h. (h.0.0, h.0.1, h.1))
    (λ h. ((h.0, h.1), h.2)))

-- an executor is named, and has no row for the account
pub means_not_permitted : (rs : List Row) (a e : ℕ)
    → Means (not (permitted rs a e)) ((e ≡ 0 → ⊥) × None (Permission a e) rs)
unfolding permitted
means_not_permitted rs a e =
    means_neither (eqb e 0) (there (a_permission a e) rs) (means_not (means_eq e 0))
    (means_unknown rs (a_permission a e) (means_a_permission a e))

means_a_charge : (form tier : ℕ) (r : Row) → Means (has_key (a_charge form tier) r) (Charge form tier r)
unfolding has_key same_key key_of same_symbol
means_a_charge form tier r =
    means_by (by_charge (eqb r.kind kind_charge) refl)
    (means_as
    (means_and (means_and (means_eq r.kind kind_charge) (means_eq r.form form)) (means_eq r.status tier))
    (λ h. (h.0.0, h.0.1, h.1))
    (λ h. ((h.0, h.1), h.2)))
  where
    rest : (a b : Bool) → (a && b && true && true && true && true && true && true) ≡ (a && b)
    rest true true = refl
    rest true false = refl
    rest false b = refl

    by_charge : (t : Bool) → eqb r.kind kind_charge ≡ t
        → has_key (a_charge form tier) r ≡ (is kind_charge r && eqb r.form form && eqb r.status tier)
    by_charge true e =
        let k = eqb-true r.kind kind_charge e in
        rw k (rest (eqb r.form form) (eqb r.status tier))
    by_charge false e = rw e

-- no row passes, or the one that does has zero in a field
module _ {p : Row → Bool} {P : Row → Type 0} (m : (r : Row) → Means (p r) (P r)) (field : Row → ℕ) (rs : List Row)
    (blank : field nothing ≡ 0) (single : count p rs ≤ 1) where
  abbrev first : Row
  first = the p nothing rs

  means_zero : Means (not (leb 1 (field first))) (ZeroOrNone P field rs)
  means_zero = record {
    shows = λ e.
        let z = leb-false 1 (field first) (not-true (leb 1 (field first)) e) in
        by_cases (leb 1 (count p rs))
        (λ some.
        inr (first, the_has p nothing rs some, ((m first).shows (the_passes p nothing rs some), omega arith)))
        (λ none. inl ((means_none rs m).shows (rw none)));
    holds = λ h.
        let z : field first ≡ 0 =
        ⊎_elim
        (λ none.
        ap field (the_none p nothing rs (not-true (leb 1 (count p rs)) ((means_none rs m).holds none))) ∙ blank)
        (λ some.
        ap field (the_one p nothing some.0 rs single some.1 ((m some.0).holds some.2.0)) ∙ some.2.1)
        h
        in
        rw z;
  }

-- ---- the search for a band: it gives an answer exactly where the book is as the answer says
zero_told : (a : BandAnswer) → zero_rate a ≡ true → a ≡ ZeroRate
zero_told (Rate r) e = absurd (false≢true e)
zero_told ZeroRate e = refl
zero_told NoBand e = absurd (false≢true e)

none_told : (a : BandAnswer) → no_band a ≡ true → a ≡ NoBand
none_told (Rate r) e = absurd (false≢true e)
none_told ZeroRate e = absurd (false≢true e)
none_told NoBand e = refl

module _ (rs : List Row) (good : sound rs ≡ true) (form tier exchange shares : ℕ) where
  abbrev holds : Row → Bool
  holds r = band_for form tier exchange shares r

  abbrev Holds : Row → Type 0
  Holds r = Band form tier exchange shares r

  means_holds : (r : Row) → Means (holds r) (Holds r)
  means_holds r =
      means_as (once.means_band form tier exchange shares r)
      (λ h. (h.0.0.0.0.0, h.0.0.0.0.1, h.0.0.0.1, h.0.0.1, h.0.1, h.1))
      (λ h. (((((h.0, h.1), h.2), h.3), h.4), h.5))

  -- a band that is found answers by its rate
  by_rate : (r : Row) → Holds r → answer_of r ≡ rated r.n3
  by_rate r h = rw h.0

  answer_holds : Answers Holds rs (band_answer rs form tier exchange shares)
  unfolding band_answer
  answer_holds =
      let r = the holds nothing rs in
      by_cases (leb 1 (count holds rs))
      (λ some.
      let h = (means_holds r).shows (the_passes holds nothing rs some) in
      rw (by_rate r h) (go r h (the_has holds nothing rs some) (eqb r.n3 0) refl))
      (λ none. rw (the_none holds nothing rs none) ((means_none rs means_holds).shows (rw none)))
    where
      go : (r : Row) → Holds r → Memᴰ r rs → (t : Bool) → eqb r.n3 0 ≡ t
          → Answers Holds rs (cond t ZeroRate (Rate (record { 0 = r.n3 })))
      go r h m true e = (r, m, (h, eqb-true r.n3 0 e))
      go r h m false e = let n : (r.n3 ≡ 0 → ⊥) = eqb-false r.n3 0 e in (omega arith, (r, m, (h, refl)))

  -- the one band of the shares answers
  of_band : (r : Row) → Memᴰ r rs → Holds r → band_answer rs form tier exchange shares ≡ rated r.n3
  unfolding band_answer
  of_band r m h =
      ap answer_of
      (the_one holds nothing r rs (once.band_once rs good form tier exchange shares) m ((means_holds r).holds h))
      ∙ by_rate r h

  answer_is : (a : BandAnswer) → Answers Holds rs a → band_answer rs form tier exchange shares ≡ a
  unfolding band_answer
  answer_is (Rate rate) (least, (r, m, (h, e))) = of_band r m h ∙ rw (e, ne_eqb rate.0 0 (λ z. omega arith))
  answer_is ZeroRate (r, m, (h, e)) = of_band r m h ∙ rw e
  answer_is NoBand none =
      ap answer_of (the_none holds nothing rs (not-true (leb 1 (count holds rs)) ((means_none rs means_holds).holds none)))

  pub band_answers : (a : BandAnswer) → (band_answer rs form tier exchange shares ≡ a) ↔ Answers Holds rs a
  band_answers a = (λ e. subst (Answers Holds rs) e answer_holds, answer_is a)

  pub means_no_rate : Means (zero_rate (band_answer rs form tier exchange shares)) (Answers Holds rs ZeroRate)
  means_no_rate = record {
    shows = λ e. (band_answers ZeroRate).0 (zero_told _ e);
    holds = λ h. rw (answer_is ZeroRate h);
  }

  pub means_no_band : Means (no_band (band_answer rs form tier exchange shares)) (Answers Holds rs NoBand)
  means_no_band = record {
    shows = λ e. (band_answers NoBand).0 (none_told _ e);
    holds = λ h. rw (answer_is NoBand h);
  }

module _ (rs : List Row) (good : sound rs ≡ true) where
  pub means_no_charge : (form tier : ℕ)
      → Means (not (leb 1 (found (a_charge form tier) rs).n1)) (ZeroOrNone (Charge form tier) (λ r. r.n1) rs)
  unfolding found
  means_no_charge form tier =
      means_zero (means_a_charge form tier) (λ r. r.n1) rs refl (once.key_once rs good (a_charge form tier) refl)

  -- an account's tax status is 0, 1 or 2
  tax_status_holds : (n : ℕ) → (found (an_account n) rs).form ≤ tax_status.high
  unfolding found
  tax_status_holds n =
      the_most (has_key (an_account n)) (λ (r : Row). r.form) tax_status.high rs (sound_s1 rs good)
      (λ r f h. ((means_account r).shows (as_kind kind_account r (key_kind (an_account n) r h) ∙ f)).0.2.1)
      (omega arith)

  pub means_untaxed : (n rates : ℕ) (w : Walk)
      → Means (untaxed (found (an_account n) rs).form rates w.bought w.sold)
      (Untaxed (found (an_account n) rs).form rates w)
  unfolding untaxed taxable
  means_untaxed n rates w =
      let t = (found (an_account n) rs).form in
      means_as
      (means_and (means_and (means_le 1 t) (means_lt w.bought w.sold)) (means_eq rates 0))
      (λ h. (h.0.1, one_or_two t h.0.0 (tax_status_holds n), h.1))
      (λ h. ((⊎_elim (λ e. omega arith) (λ e. omega arith) h.1, h.0), h.2))
    where
      one_or_two : (t : ℕ) → 1 ≤ t → t ≤ 2 → (t ≡ 1) ⊎ (t ≡ 2)
      one_or_two t a b =
          by_cases (leb t 1) (λ e. let h = leb-true t 1 e in inl (omega arith))
          (λ e. let h = leb-false t 1 e in inr (omega arith))

-- ---- lengths and fields
means_records : (most n : ℕ) → Means (whole_records most n) (Records most n)
unfolding whole_records
means_records most n =
    means_as
    (means_and (means_and (means_le record_size n) (means_eq (n % record_size) 0)) (means_le n (most * record_size)))
    (λ h. (h.0.0, h.0.1, h.1))
    (λ h. ((h.0, h.1), h.2))

pub means_lengths : (c : Call) (input answer : ℕ) → Means (lengths_of c input answer) (RightLengths c input answer)
means_lengths an_order input answer = means_and (means_eq input record_size) (means_eq answer record_size)
means_lengths a_result input answer = means_and (means_eq input record_size) (means_eq answer record_size)
means_lengths a_feed input answer = means_and (means_records most_inputs input) (means_eq answer record_size)
means_lengths a_lookup input answer = means_and (means_records most_inputs input) (means_eq answer (2 * input))

pub means_fields : (c : Call) (input : List ℕ) → Means (fields_of c input) (RightFields c input)
means_fields an_order input = means_order_input (decode input)
means_fields a_result input = means_result_input (decode input)
means_fields a_feed input = means_every (rows input) means_feed_input
means_fields a_lookup input = means_every (rows input) means_lookup_input

-- a book's length is wrong
pub means_bad_book : (n : ℕ)
    → Means (not (whole_records most_records n))
    ((n ≡ 0) ⊎ ((n % record_size ≡ 0 → ⊥) ⊎ (most_records * record_size < n)))
unfolding whole_records
means_bad_book n =
    means_as
    (means_one_fails (leb record_size n) (eqb (n % record_size) 0) (leb n (most_records * record_size))
    (means_more record_size n) (means_not (means_eq (n % record_size) 0)) (means_more n (most_records * record_size)))
    (⊎_elim few inr)
    (⊎_elim (λ e. inl (omega arith)) inr)
  where
    few : n < record_size → (n ≡ 0) ⊎ ((n % record_size ≡ 0 → ⊥) ⊎ (most_records * record_size < n))
    few h = by_cases (eqb n 0) (λ e. inl (eqb-true n 0 e)) (λ e. inr (inl (λ z. eqb-false n 0 e (omega arith))))
