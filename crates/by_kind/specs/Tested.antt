-- What a test of each place of a kind comes to: whatever the test says of a place, and what the loops over the kinds
-- learn of theirs. Assumes nothing.
use Rattle.std.specs.Prelude.{◌≡◌, Bool, true, false, ◌&&◌, List, ℕ, ◌/◌, ◌<◌, length}
use Rattle.std.proofs.Common.{sym, ◌∙◌}
use Rattle.std.proofs.lemmas.Bool.{false≢true}
use Rattle.laws.specs.Tests.{and_left, and_right}
use Rattle.record.specs.Codes.{kind_trade}
use Rattle.rules.specs.Rules.{fits}
use Rattle.keys.specs.Key.{among}
use Rattle.model.specs.Rows.{rows}
use Rattle.model.specs.Sound.{sound}
use Rattle.places.specs.Rows.{row_at}
use Rattle.clauses.specs.Hung.{hung_kinds}
use Rattle.clauses.specs.Own.{own_well}
use Rattle.by_kind.specs.Chains.{sound_fits, sound_hung, sound_last, sound_own}
use Rattle.by_kind.specs.Distinct.{last_at}
use Rattle.by_kind.specs.Hung.{hung}
use Rattle.by_kind.specs.Kinds.{KindFits, KindWell, TradesHung, own_first}
use Rattle.by_kind.specs.Says.{Says, refuted}

-- it passes at each, or it does not at one
pub record Tested (T : ℕ → Bool → Type 0) (b : List ℕ) (k : ℕ) (r : Bool) : Type 0 where
  pub yes : r ≡ true → (j : ℕ) → j < length b / 64 → (row_at b j).kind ≡ k → T j true
  pub no : r ≡ false → (j : ℕ) × (j < length b / 64) × ((row_at b j).kind ≡ k) × T j false

module _ {T : ℕ → Bool → Type 0} {b : List ℕ} {k : ℕ} {r : Bool} (s : Tested T b k r) where
  -- the test is of what each place of the kind has in a sound book
  says_tested : (P : Type 0) (p : ℕ → Bool) → ((j : ℕ) (x : Bool) → T j x → x ≡ p j)
      → (((j : ℕ) → j < length b / 64 → (row_at b j).kind ≡ k → p j ≡ true) → P)
      → (sound (rows b) ≡ true → (j : ℕ) → j < length b / 64 → (row_at b j).kind ≡ k → p j ≡ true)
      → Says r P (sound (rows b))
  says_tested P p told all here = record {
    yes = λ e. all (λ j h q. sym (told j true (s.yes e j h q)));
    no = λ e. let one = s.no e in
        refuted (sound (rows b))
        (λ good. false≢true (told one.0 false one.3 ∙ here good one.0 one.1 one.2));
  }

  pub fit_tested : ((j : ℕ) (x : Bool) → T j x → x ≡ fits (row_at b j)) → Says r (KindFits b k) (sound (rows b))
  fit_tested told =
      says_tested (KindFits b k) (λ j. fits (row_at b j)) told (λ f. record { all = f })
      (λ good j h q. sound_fits b good j h)

  pub own_tested : among k hung_kinds ≡ false
      → ((j : ℕ) (x : Bool) → T j x → x ≡ (fits (row_at b j) && last_at b j && own_well (rows b) (row_at b j)))
      → Says r (KindWell b k) (sound (rows b))
  own_tested n told =
      says_tested (KindWell b k) (λ j. fits (row_at b j) && last_at b j && own_well (rows b) (row_at b j)) told
      (λ f. record {
        all = λ j h q.
            let l = fits (row_at b j) in
            let m = last_at b j in
            let o = own_well (rows b) (row_at b j) in
            let all = f j h q in
            record {
              fit = and_left l m (and_left (l && m) o all);
              last = and_right l m (and_left (l && m) o all);
              well = own_first (rows b) (row_at b j) k q n ∙ and_right (l && m) o all;
            };
      })
      (λ good j h q. rw (sound_fits b good j h, sound_last b good j h, sound_own b good j h))

module _ {T : ℕ → Bool → Type 0} {b : List ℕ} {r : Bool} (s : Tested T b kind_trade r) where
  pub hung_tested : ((j : ℕ) (x : Bool) → T j x → x ≡ hung (rows b) (row_at b j))
      → Says r (TradesHung b) (sound (rows b))
  hung_tested told =
      says_tested s (TradesHung b) (λ j. hung (rows b) (row_at b j)) told (λ f. record { all = f })
      (λ good j h q. sound_hung b good j h q)
