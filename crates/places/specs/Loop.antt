-- What a loop over the places of a book keeps, for each kind of loop: what is left at place i leads to w, what the
-- whole loop is to find. Each law takes its premises as the facts of the code state them. Assumes nothing.
use Rattle.std.specs.Prelude.{◌≡◌, refl, Bool, List, ℕ, ◌+◌, ◌*◌, ◌/◌, ◌≤◌, ◌<◌, length, drop}
use Rattle.std.proofs.Math.Path.{sym, ap}
use Rattle.std.proofs.Common.{◌∙◌, mul-suc, zero-add, add-one}
use Rattle.std.proofs.Math.Bool.{true, false}
use native.Mathlib.Omega.{arith}
use Rattle.laws.specs.Search.{every, place, seek, total}
use Rattle.laws.specs.Walk.{left_next, left_none, seek_end, seek_here, seek_later}
use Rattle.record.specs.declared.row.Row.{Row}
use Rattle.model.specs.Rows.{nothing, rows}
use Rattle.facts.specs.Rows.{length_rows}
use Rattle.places.specs.Rows.{row_at}

inside : (b : List ℕ) (i : ℕ) → i < length b / 64 → i < length (rows b)
inside b i h = rw length_rows h

at_end : (b : List ℕ) (i : ℕ) → length b / 64 ≤ i → length (rows b) ≤ i
at_end b i h = rw length_rows h

-- ---- a search for the first row that passes
pub record Sought (p : Row → Bool) (b : List ℕ) (w i : ℕ) : Type 0 where
  pub same : seek p i (drop i (rows b)) ≡ w

pub seek_start : (p : Row → Bool) (b : List ℕ) → Sought p b (place p (rows b)) 0
seek_start p b = record { same = refl }

pub seek_from : (p : Row → Bool) (b : List ℕ) (s : ℕ) → Sought p b (seek p s (drop s (rows b))) s
seek_from p b s = record { same = refl }

module _ {p : Row → Bool} {b : List ℕ} {w i : ℕ} (s : Sought p b w i) where
  pub seek_found : {x : Bool} {r : Row} → i < length b / 64 → r ≡ row_at b i → x ≡ p r → x ≡ true → i ≡ w
  seek_found h a f t = sym (seek_here p i (rows b) nothing (inside b i h) (sym (ap p a) ∙ sym f ∙ t)) ∙ s.same

  pub seek_more : {x : Bool} {r : Row} → i < length b / 64 → r ≡ row_at b i → x ≡ p r → x ≡ false → Sought p b w (i + 1)
  seek_more h a f t = record {
    same = sym (seek_later p i (rows b) nothing (inside b i h) (sym (ap p a) ∙ sym f ∙ t)) ∙ s.same;
  }

  pub seek_none : length b / 64 ≤ i → i ≡ w
  seek_none h = sym (seek_end p i (rows b) (at_end b i h)) ∙ s.same

-- ---- a test of every row
pub record Checked (p : Row → Bool) (b : List ℕ) (w : Bool) (i : ℕ) : Type 0 where
  pub within : i ≤ length b / 64
  pub same : every p (drop i (rows b)) ≡ w

pub check_start : (p : Row → Bool) (b : List ℕ) → Checked p b (every p (rows b)) 0
check_start p b = record { within = omega arith; same = refl }

module _ {p : Row → Bool} {b : List ℕ} {w : Bool} {i : ℕ} (s : Checked p b w i) where
  pub check_fails : {x : Bool} {r : Row} → i < length b / 64 → r ≡ row_at b i → x ≡ p r → x ≡ false → false ≡ w
  unfolding every
  check_fails h a f t =
      let e : p (row_at b i) ≡ false = sym (ap p a) ∙ sym f ∙ t in
      let l : every p (drop i (rows b)) ≡ false = rw (left_next (rows b) i nothing (inside b i h), e) in
      sym l ∙ s.same

  pub check_more : {x : Bool} {r : Row} → i < length b / 64 → r ≡ row_at b i → x ≡ p r → x ≡ true → Checked p b w (i + 1)
  unfolding every
  check_more h a f t =
      let e : p (row_at b i) ≡ true = sym (ap p a) ∙ sym f ∙ t in
      let l : every p (drop i (rows b)) ≡ every p (drop (i + 1) (rows b)) =
      rw (left_next (rows b) i nothing (inside b i h), e)
      in
      record { within = omega arith; same = sym l ∙ s.same }

  pub check_all : length b / 64 ≤ i → true ≡ w
  unfolding every
  check_all h = let l : every p (drop i (rows b)) ≡ true = rw (left_none (rows b) i (at_end b i h)) in sym l ∙ s.same

-- ---- a sum; it is at most m for each row passed
pub record Summed (f : Row → ℕ) (m : ℕ) (b : List ℕ) (w sum i : ℕ) : Type 0 where
  pub within : i ≤ length b / 64
  pub same : sum + total f (drop i (rows b)) ≡ w
  pub small : sum ≤ m * i

pub sum_start : (f : Row → ℕ) (m : ℕ) (b : List ℕ) → Summed f m b (total f (rows b)) 0 0
sum_start f m b = record { within = omega arith; same = zero-add (total f (rows b)); small = omega arith }

module _ {f : Row → ℕ} {m : ℕ} {b : List ℕ} {w sum i : ℕ} (s : Summed f m b w sum i) where
  pub sum_more : {x : ℕ} {r : Row} → i < length b / 64 → r ≡ row_at b i → x ≡ f r → x ≤ m
      → Summed f m b w (sum + x) (i + 1)
  unfolding total
  sum_more {x} h a g l =
      let e : x ≡ f (row_at b i) = g ∙ ap f a in
      let t : total f (drop i (rows b)) ≡ x + total f (drop (i + 1) (rows b)) =
      rw (left_next (rows b) i nothing (inside b i h), e)
      in
      let q = s.same in
      let k : m * (i + 1) ≡ m * i + m = rw (add-one, mul-suc) in
      let v = s.small in
      record { within = omega arith; same = omega arith; small = omega arith }

  pub sum_all : length b / 64 ≤ i → sum ≡ w
  unfolding total
  sum_all h =
      let t : total f (drop i (rows b)) ≡ 0 = rw (left_none (rows b) i (at_end b i h)) in
      let q = s.same in
      omega arith

pub ruleset loops = (
  seek_start,
  seek_from,
  seek_found,
  seek_more,
  seek_none,
  check_start,
  check_fails,
  check_more,
  check_all,
  sum_start,
  sum_more,
  sum_all,
)
