-- Demand 1, proved: the shell of every call writes the book and the answer where the call is done, and otherwise the
-- area of a refusal; where the lengths are wrong it writes nothing. Assumes nothing.
use Rattle.std.specs.Prelude.{◌≡◌, Bool, true, false, ◌&&◌, List, ◌++◌, ◌⊎◌, ℕ, ◌+◌, ◌-◌, ◌*◌, ◌%◌, ◌≤◌, ◌<◌, eqb, leb, ltb, ℤ, length, replicate}
use Rattle.std.proofs.Math.Path.{refl, sym, ap}
use Rattle.std.proofs.Common.{◌∙◌, eqb-true, leb-true, ltb-false, ltb-true, of_z, to_z}
use Rattle.std.proofs.Math.Logic.{⊎_elim}
use native.Mathlib.Omega.{arith}
use Rattle.std.proofs.Math.ListN.{get_or, get_or-replicate, length-replicate, get_or-append, get_or-eq_default}
use Rattle.std.proofs.Math.Seq.{get_or-append-add}
use Rattle.std.specs.Int.{w32}
use Rattle.laws.specs.Tests.{and_left, and_right}
use Rattle.record.specs.Bytes.{bytes_of, le, low_first_holds}
use Rattle.model.specs.Status.{is_done, number}
use Rattle.model.specs.Call.{Call, Promise, Reply, a_feed, a_lookup, a_result, an_order, decide_of, fields_of, lengths_of}
use Rattle.model.specs.Call.{most_inputs, refusal_area, replied, run, shell}
use Rattle.model.specs.Plan.{Outcome, pick, refused}
use Rattle.model.specs.Rows.{most_records, record_size, rows, whole_records}
use Rattle.model.specs.Sound.{sound}
use Rattle.model.proofs.Unposted.{refusal_leaves}
use Rattle.model.specs.declared.Status.{Status}
use Rattle.model.specs.declared.Status.TheVariants.{BadBook, BadInput, BadLength, Done, Unsound}
use Rattle.facts.specs.Status.{done_number, fits_32, number_back}
use Rattle.preserved.proofs.Calls.{uncalled}
use Rattle.preserved.specs.Cases.{by_cases, not_so}
use Rattle.demands.specs.Demand1.{Demand1, Keeps, Says}

-- ---- the area of a refusal
module _ (n : ℕ) (s : Status) (long : record_size ≤ n) where
  abbrev x : ℕ
  x = of_z w32 (number s)

  abbrev tail : List ℕ
  tail = bytes_of 4 x ++ replicate (n - record_size) 0

  area_length : length (refusal_area n s) ≡ n
  unfolding refusal_area
  area_length = simp length-replicate (omega arith)

  area_signed : to_z w32 (le 4 (refusal_area n s) 60) ≡ number s
  unfolding refusal_area
  area_signed = ap (to_z w32) (low_first_holds 4 x (fits_32 s)) ∙ number_back (number s) s refl

  -- past the status there are zeros, and past the area nothing
  past : (i : ℕ) → get_or {A = ℕ} (replicate (n - record_size) 0) i 0 ≡ 0
  past i =
      by_cases (ltb i (n - record_size))
      (λ h. get_or-replicate (n - record_size) i 0 0 (ltb-true i (n - record_size) h))
      (λ h.
      get_or-eq_default (replicate (n - record_size) 0) 0
      (rw (length-replicate {A = ℕ} (n - record_size) 0) (ltb-false i (n - record_size) h)))

  area_zeros : (i : ℕ) → (i < 60) ⊎ (64 ≤ i) → get_or (refusal_area n s) i 0 ≡ 0
  unfolding refusal_area
  area_zeros i =
      ⊎_elim (λ h. get_or-append (replicate 60 0) tail 0 i h ∙ get_or-replicate 60 i 0 0 h)
      (λ h.
      let e : i ≡ 64 + (i - 64) = omega arith in
      ap (λ (k : ℕ). get_or (refusal_area n s) k 0) e
      ∙ get_or-append-add (replicate 60 0 ++ bytes_of 4 x) (replicate (n - record_size) 0) (i - 64) 0
      ∙ past (i - 64))

-- ---- lengths: an answer area of the right length has 64 bytes at least
some_records : (most n : ℕ) → whole_records most n ≡ true → record_size ≤ n
unfolding whole_records
some_records most n e =
    let two = and_left (leb 64 n && eqb (n % 64) 0) (leb n (most * 64)) e in
    leb-true 64 n (and_left (leb 64 n) (eqb (n % 64) 0) two)

answer_long : (c : Call) (input answer : ℕ) → lengths_of c input answer ≡ true → record_size ≤ answer
answer_long an_order input answer e =
    let l = eqb-true answer 64 (and_right (eqb input 64) (eqb answer 64) e) in omega arith
answer_long a_result input answer e =
    let l = eqb-true answer 64 (and_right (eqb input 64) (eqb answer 64) e) in omega arith
answer_long a_feed input answer e =
    let l = eqb-true answer 64 (and_right (whole_records most_inputs input) (eqb answer 64) e) in omega arith
answer_long a_lookup input answer e =
    let w = some_records most_inputs input (and_left (whole_records most_inputs input) (eqb answer (2 * input)) e) in
    let l = eqb-true answer (2 * input) (and_right (whole_records most_inputs input) (eqb answer (2 * input)) e) in
    omega arith

-- ---- what a call replies
module _ (c : Call) (book input answer : List ℕ) where
  abbrev lengths : Bool
  lengths = lengths_of c (length input) (length answer)

  abbrev reply : Reply
  reply = run c book input answer

  -- where the lengths are right, the outcome that is replied
  abbrev outcome : Outcome
  outcome =
      pick (whole_records most_records (length book))
      (pick (sound (rows book)) (pick (fields_of c input) (decide_of c input (rows book)) (refused BadInput (rows book)))
      (refused Unsound (rows book)))
      (refused BadBook (rows book))

  right : lengths ≡ true → reply ≡ replied outcome book answer
  unfolding run shell
  right e = rw e

  module _ (returned : ℤ) (book' answer' : List ℕ) (p : Promise reply returned book' answer') where
    refuses : (returned ≡ number Done → ⊥) → is_done reply.status ≡ false
    refuses n = not_so (is_done reply.status) (λ d. n (p.returns ∙ done_number reply.status d))

    as_refused : lengths ≡ true → (returned ≡ number Done → ⊥)
        → (reply.book ≡ book) × (reply.answer ≡ refusal_area (length answer) reply.status)
    unfolding replied
    as_refused e n =
        let same = right e in
        let d = sym (ap (λ (r : Reply). is_done r.status) same) ∙ refuses n in
        let left = refusal_leaves outcome book answer d in (
          ap (λ (r : Reply). r.book) same ∙ left.0,
          ap (λ (r : Reply). r.answer) same ∙ left.1
              ∙ ap (λ (r : Reply). refusal_area (length answer) r.status) (sym same),
        )

    unwritten : lengths ≡ false → (returned ≡ number BadLength) × (book' ≡ book) × (answer' ≡ answer)
    unwritten e =
        let same = uncalled c book input answer e in (
          p.returns ∙ ap (λ (r : Reply). number r.status) same,
          p.keeps ∙ ap (λ (r : Reply). r.book) same,
          p.says ∙ ap (λ (r : Reply). r.answer) same,
        )

    says : lengths ≡ true → (returned ≡ number Done → ⊥) → Says returned answer answer'
    says e n =
        let long = answer_long c (length input) (length answer) e in
        let area : answer' ≡ refusal_area (length answer) reply.status = p.says ∙ (as_refused e n).1 in
        rw (area, p.returns)
        (record {
          as_long = area_length (length answer) reply.status long;
          signed = area_signed (length answer) reply.status long;
          zeros = area_zeros (length answer) reply.status long;
        })

    keeps : Keeps c book input answer returned book' answer'
    keeps = record {
      book_kept = λ n. by_cases lengths (λ e. p.keeps ∙ (as_refused e n).0) (λ e. (unwritten e).1);
      status_said = λ n m. by_cases lengths (λ e. says e n) (λ e. absurd (m (unwritten e).0));
      unwritten = unwritten;
    }

pub demand_1 : Demand1
demand_1 = keeps
