-- What a call does before the shell: the lengths of the input and of the answer, and an area for the directory.
-- Assumes nothing.
use Rattle.std.specs.Prelude.{◌≡◌, refl, Bool, true, false, not, ◌&&◌, List, ℕ, ◌/◌, ◌≤◌, ◌<◌, eqb, ℤ, length, replicate}
use Rattle.std.proofs.Common.{ap, arith, eqb-true}
use Rattle.laws.specs.Tests.{and_left, and_right}
use Rattle.record.specs.declared.row.Row.{Row}
use Rattle.model.specs.Status.{number}
use Rattle.model.specs.Call.{Promise, shell}
use Rattle.model.specs.Plan.{Outcome}
use Rattle.model.specs.Rows.{most_records, places}
use Rattle.model.specs.declared.Status.TheVariants.{BadLength}
use Rattle.chains.specs.Group.{most_heads}
use Rattle.directory.specs.Directory.{blank_of}
use Rattle.by_kind.specs.ByRow.{rule_kept, rule_lost}
use Rattle.opening.specs.Opening.{Room, few}

-- an area of m cells, filled with the number of places
pub room : (b : List ℕ) (m e : ℕ) → (places b < 65536 → e ≡ places b) → (places b ≤ most_records → places b < m / 2)
    → m / 2 ≤ most_heads → Room b (replicate m e)
room b m e h f l w =
    let n = few most_records (length b) w in
    blank_of b m e (h (omega arith)) (f n) l

-- ---- the lengths of an input and of an answer that has n bytes
module _ {x y : Bool} (a : List ℕ) (n : ℕ) (h : x ≡ y) where
  pub right_lengths_holds : not (x && eqb (length a) n) ≡ false
      → ((y && eqb (length a) n) ≡ true) × (y ≡ true) × (length a ≡ n)
  right_lengths_holds e =
      let both = rule_kept (ap (λ (t : Bool). t && eqb (length a) n) h) e in
      (both, and_left y (eqb (length a) n) both, eqb-true (length a) n (and_right y (eqb (length a) n) both))

  pub wrong_lengths : not (x && eqb (length a) n) ≡ true → (y && eqb (length a) n) ≡ false
  wrong_lengths e = rule_lost (ap (λ (t : Bool). t && eqb (length a) n) h) e

-- where they are not right, nothing is done
pub uncalled : {lengths : Bool} (inputs : Bool) (decide : List Row → Outcome) (b a : List ℕ) {z : ℤ} → lengths ≡ false
    → z ≡ number BadLength → Promise (shell lengths inputs decide b a) z b a
unfolding shell
uncalled inputs decide b a e r = rw e (record { returns = r; keeps = refl; says = refl })
