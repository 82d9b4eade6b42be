-- The one law of every call's checks: their status is that of the first that fails. So where it is success each has
-- passed; and what a call comes to follows from it. Assumes nothing.
use Rattle.std.specs.Prelude.{◌≡◌, refl, Bool, true, false, cond, not, ◌&&◌, List, [], ◌∷◌, ◌++◌}
use Rattle.std.proofs.Common.{sym, ap, ◌∙◌}
use Rattle.std.proofs.lemmas.Bool.{false≢true, not-true}
use Rattle.laws.specs.Search.{run}
use Rattle.laws.specs.Tests.{and_left, and_right}
use Rattle.record.specs.declared.row.Row.{Row}
use Rattle.model.specs.declared.Status.{Status}
use Rattle.model.specs.declared.Status.TheVariants.{Done}
use Rattle.model.specs.Plan.{Check, Outcome, also, decided, refused, verdict}
use Rattle.model.specs.Status.{is_done}
use Rattle.facts.specs.Status.{is_done_holds}

abbrev step : Status → Check → Status
step s c = also s c.passes c.else

-- what is refused stays so
stays : (cs : List Check) (s : Status) → is_done s ≡ false → run step s cs ≡ s
unfolding run also
stays [] s e = refl
stays (c ∷ cs) s e = rw e (stays cs s e)

pub verdict_next : (c : Check) (cs : List Check) → is_done c.else ≡ false
    → verdict (c ∷ cs) ≡ cond c.passes (verdict cs) c.else
unfolding verdict run also
verdict_next c cs e = go c.passes
  where
    go : (t : Bool) → run step (cond (true && not t) c.else Done) cs ≡ cond t (run step Done cs) c.else
    go true = refl
    go false = stays cs c.else e

-- ---- more checks
more : (s : Status) (cs ds : List Check) → run step s (cs ++ ds) ≡ run step (run step s cs) ds
unfolding run
more s [] ds = refl
more s (c ∷ cs) ds = more (step s c) cs ds

pub verdict_more : (cs ds : List Check) → is_done (verdict cs) ≡ true → verdict (cs ++ ds) ≡ verdict ds
unfolding verdict
verdict_more cs ds e = more Done cs ds ∙ ap (λ (s : Status). run step s ds) (is_done_holds (verdict cs) e)

pub verdict_kept : (cs ds : List Check) → is_done (verdict cs) ≡ false → verdict (cs ++ ds) ≡ verdict cs
unfolding verdict
verdict_kept cs ds e = more Done cs ds ∙ stays ds (verdict cs) e

-- ---- where none refuses, each has passed
-- no check refuses with the status of success
abbrev refuse : List Check → Bool
refuse [] = true
refuse (c ∷ cs) = not (is_done c.else) && refuse cs

abbrev pub Passed : List Check → Type 0
Passed [] = Unit {0}
Passed (c ∷ cs) = (c.passes ≡ true) × Passed cs

pub passed : (cs : List Check) → refuse cs ≡ true → is_done (verdict cs) ≡ true → Passed cs
passed [] r d = tt
passed (c ∷ cs) r d =
    go c.passes refl (passed cs (and_right (not (is_done c.else)) (refuse cs) r))
  where
    no : is_done c.else ≡ false
    no = not-true (is_done c.else) (and_left (not (is_done c.else)) (refuse cs) r)

    go : (t : Bool) → c.passes ≡ t → (is_done (verdict cs) ≡ true → Passed cs) → Passed (c ∷ cs)
    go true e rest =
        let v : verdict (c ∷ cs) ≡ verdict cs = verdict_next c cs no ∙ rw e in
        (e, rest (ap is_done (sym v) ∙ d))
    go false e rest =
        let v : verdict (c ∷ cs) ≡ c.else = verdict_next c cs no ∙ rw e in
        absurd (false≢true (sym no ∙ ap is_done (sym v) ∙ d))

-- ---- what a call comes to
module _ (cs : List Check) (rs : List Row) (o : Outcome) where
  pub decided_done : is_done (verdict cs) ≡ true → decided cs rs o ≡ o
  unfolding decided
  decided_done e = rw e

  pub decided_refused : is_done (verdict cs) ≡ false → decided cs rs o ≡ refused (verdict cs) rs
  unfolding decided
  decided_refused e = rw e

  pub decided_status : o.status ≡ Done → (decided cs rs o).status ≡ verdict cs
  decided_status e = go (is_done (verdict cs)) refl
    where
      go : (t : Bool) → is_done (verdict cs) ≡ t → (decided cs rs o).status ≡ verdict cs
      go true d = ap (λ (x : Outcome). x.status) (decided_done d) ∙ e ∙ sym (is_done_holds (verdict cs) d)
      go false d = ap (λ (x : Outcome). x.status) (decided_refused d)
