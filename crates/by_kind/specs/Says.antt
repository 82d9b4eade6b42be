-- What a test of a part of the book says: where it passes, a fact; where it does not, that the book is not sound.
-- Assumes nothing.
use Rattle.std.specs.Prelude.{◌≡◌, refl, Bool, true, false, not}
use Rattle.std.proofs.Common.{sym}
use Rattle.std.proofs.lemmas.Bool.{false≢true}
use Rattle.by_kind.specs.ByRow.{rule_kept, rule_lost}

pub record Says (r : Bool) (P : Type 0) (w : Bool) : Type 0 where
  pub yes : r ≡ true → P
  pub no : r ≡ false → w ≡ false

pub says_yes : {P : Type 0} → P → (w : Bool) → Says true P w
says_yes p w = record { yes = λ e. p; no = λ e. absurd (false≢true (sym e)) }

pub says_no : (P : Type 0) {w : Bool} → w ≡ false → Says false P w
says_no P h = record { yes = λ e. absurd (false≢true e); no = λ e. h }

module _ {r : Bool} {P : Type 0} {w : Bool} (s : Says r P w) where
  pub said : not r ≡ false → P
  said e = s.yes (rule_kept refl e)

  pub unsaid : not r ≡ true → w ≡ false
  unsaid e = s.no (rule_lost refl e)

  -- a fact may be told otherwise, and where it is all that is left to show, the test is the whole
  pub says_so : (Q : Type 0) → (P → Q) → Says r Q w
  says_so Q f = record { yes = λ e. f (s.yes e); no = s.no }

  pub says_all : (P → w ≡ true) → r ≡ w
  says_all f = go r s.yes s.no
    where
      go : (x : Bool) → (x ≡ true → P) → (x ≡ false → w ≡ false) → x ≡ w
      go true y n = sym (f (y refl))
      go false y n = sym (n refl)

-- where a book would not be sound, it is not
pub refuted : (w : Bool) → (w ≡ true → ⊥) → w ≡ false
refuted true f = absurd (f refl)
refuted false f = refl
