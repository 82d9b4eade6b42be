-- The status of a book, as the code comes to it. Assumes nothing.
use Rattle.std.specs.Prelude.{◌≡◌, Bool, true, false, not, ◌&&◌, List, ℕ, ◌*◌, ◌/◌, ◌%◌, ◌≤◌, eqb, leb, length}
use Rattle.std.proofs.Common.{arith, leb-true}
use Rattle.laws.specs.Tests.{and_right}
use Rattle.model.specs.Rows.{most_records, rows, whole_records}
use Rattle.model.specs.Sound.{sound}
use Rattle.model.specs.Tally.{book_status}
use Rattle.model.specs.declared.Status.TheVariants.{BadBook, Done, Unsound}
use Rattle.by_kind.specs.ByRow.{rule_kept, rule_lost}

module _ (most : ℕ) (b : List ℕ) where
  pub bad_book : {x : Bool} → x ≡ whole_records most (length b) → not x ≡ true → BadBook ≡ book_status most b
  unfolding book_status
  bad_book h e = rw (rule_lost h e)

  pub sound_book : {x y : Bool} → x ≡ whole_records most (length b) → not x ≡ false → y ≡ sound (rows b) → y ≡ true
      → Done ≡ book_status most b
  unfolding book_status
  sound_book h e k f = rw (rule_kept h e, ← k, f)

  pub unsound_book : {x y : Bool} → x ≡ whole_records most (length b) → not x ≡ false → y ≡ sound (rows b) → y ≡ false
      → Unsound ≡ book_status most b
  unfolding book_status
  unsound_book h e k f = rw (rule_kept h e, ← k, f)

-- no more records than a table has places for
pub few_records : (most n : ℕ) {x : Bool} → most ≤ most_records → x ≡ whole_records most n → not x ≡ false
    → n / 64 ≤ most_records
unfolding whole_records
few_records most n m h e =
    let l = leb-true n (most * 64) (and_right (leb 64 n && eqb (n % 64) 0) (leb n (most * 64)) (rule_kept h e)) in
    omega arith
