-- What the result of a call, or of its checks, comes to: success, or the status of the refusal, which is never success.
-- Assumes nothing.
use Rattle.std.specs.Prelude.{◌≡◌, Bool, false, List, ℕ, Result, Ok, Err, IfErr, MatchResult, length}
use Rattle.std.proofs.Common.{◌∙◌}
use Rattle.model.specs.Call.{either, refusal_area}
use Rattle.model.specs.Plan.{also}
use Rattle.model.specs.Status.{is_done}
use Rattle.model.specs.declared.Status.{Status}
use Rattle.model.specs.declared.Status.TheVariants.{Done}

module _ {A : Type 0} where
  -- the status that a result means
  abbrev pub ended : Result A Status → Status
  ended (Ok _) = Done
  ended (Err s) = s

  -- a refusal has another status than success
  abbrev pub Refuses : Result A Status → Type 0
  Refuses r = IfErr r (λ s. is_done s ≡ false)

  -- what the end makes of the answer area, by the status
  pub finished : (r : Result A Status) (a a' : List ℕ) → Refuses r
      → MatchResult r (λ _. a' ≡ a) (λ s. a' ≡ refusal_area (length a) s)
      → a' ≡ either (is_done (ended r)) a (refusal_area (length a) (ended r))
  finished (Ok _) a a' n h = h
  finished (Err s) a a' n h = h ∙ rw n

-- what is refused stays so, whatever the next check says
pub stays : (s : Status) (passes : Bool) (otherwise : Status) → is_done s ≡ false → also s passes otherwise ≡ s
unfolding also
stays s passes otherwise n = rw n
