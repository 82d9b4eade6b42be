-- The checks of every call as the code goes through them: the book's length, its soundness and the input's fields.
-- Assumes nothing.
use Rattle.std.specs.Prelude.{◌≡◌, refl, Bool, true, false, cond, not, ◌&&◌, List, ℕ, ◌*◌, ◌/◌, ◌%◌, ◌≤◌, eqb, leb, length, Result, Ok, Err, IfOk}
use Rattle.std.proofs.Common.{arith, leb-true}
use Rattle.laws.specs.Tests.{and_right}
use Rattle.model.specs.Rows.{most_records, rows, whole_records}
use Rattle.model.specs.Sound.{sound}
use Rattle.model.specs.declared.Status.{Status}
use Rattle.model.specs.declared.Status.TheVariants.{BadBook, BadInput, Done, Unsound}
use Rattle.directory.specs.Directory.{Blank, Directory}
use Rattle.directory.specs.declared.totals.Totals.{Totals}
use Rattle.reply.specs.Ending.{ended}
use Rattle.by_kind.specs.ByRow.{rule_kept, rule_lost}

-- the first of the checks that fails
unfoldable pub opening : Bool → List ℕ → Status
opening inputs b =
    cond (whole_records most_records (length b)) (cond (sound (rows b)) (cond inputs Done BadInput) Unsound) BadBook

-- where no check fails: the directory, and what the checks have shown
pub record Opened (inputs : Bool) (b d : List ℕ) (t : Totals) : Type 0 where
  pub listed : Directory b d t
  pub is_sound : sound (rows b) ≡ true
  pub is_whole : whole_records most_records (length b) ≡ true
  pub is_good : inputs ≡ true

-- a directory can be built in the area where the book is whole
abbrev pub Room : List ℕ → List ℕ → Type 0
Room b d = whole_records most_records (length b) ≡ true → Blank b d

pub few : (most n : ℕ) → whole_records most n ≡ true → n / 64 ≤ most
unfolding whole_records
few most n e =
    let l = leb-true n (most * 64) (and_right (leb 64 n && eqb (n % 64) 0) (leb n (most * 64)) e) in
    omega arith

module _ (inputs : Bool) (b : List ℕ) {x : Bool} (h : x ≡ whole_records most_records (length b)) (d : List ℕ) where
  -- what the checks come to by what they answer
  abbrev Opens : Result Totals Status → Type 0
  Opens r = (ended r ≡ opening inputs b) × IfOk r (λ t. Opened inputs b d t)

  pub bad_book : {r : Result Totals Status} → not x ≡ true → r ≡ Err BadBook → Opens r
  unfolding opening
  bad_book f a = rw a (rw (rule_lost h f), tt)

  module _ {y : Bool} (f : not x ≡ false) (g : y ≡ sound (rows b)) where
    pub unsound_book : {r : Result Totals Status} → not y ≡ true → r ≡ Err Unsound → Opens r
    unfolding opening
    unsound_book z a = rw a (rw (rule_kept h f, rule_lost g z), tt)

    pub bad_input : {r : Result Totals Status} → not y ≡ false → not inputs ≡ true → r ≡ Err BadInput → Opens r
    unfolding opening
    bad_input z i a = rw a (rw (rule_kept h f, rule_kept g z, rule_lost {t = inputs} refl i), tt)

    pub open_book : {r : Result Totals Status} {t : Totals} → not y ≡ false → not inputs ≡ false → r ≡ Ok t
        → Directory b d t → Opens r
    unfolding opening
    open_book z i a t =
        let s = rule_kept g z in
        let w = rule_kept h f in
        let k = rule_kept {t = inputs} refl i in
        rw a (rw (w, s, k), record { listed = t; is_sound = s; is_whole = w; is_good = k })
