-- The one law of every table of statuses: where each line's test means its condition, the status of the first test
-- that passes is the one that is due. A new refusal is one more line and one more test. Assumes nothing.
use Rattle.std.specs.Prelude.{◌≡◌, refl, Bool, true, false, cond, not, ◌&&◌, List, [], ◌∷◌, ◌↔◌, ℕ, eqb}
use Rattle.std.proofs.Common.{sym, ap, ◌∙◌, inl, inr, ⊎_elim, of_z, to_z, eqb-true}
use Rattle.std.proofs.lemmas.Bool.{false≢true, not-true}
use Rattle.std.specs.Int.{w32}
use Rattle.laws.specs.Tests.{Means, and_left, and_right}
use Rattle.laws.specs.Search.{run}
use Rattle.model.specs.declared.Status.{Status}
use Rattle.model.specs.declared.Status.TheVariants.{Done}
use Rattle.model.specs.Plan.{Check, verdict}
use Rattle.model.specs.Status.{is_done, number}
use Rattle.facts.specs.Checks.{verdict_next}
use Rattle.facts.specs.Status.{number_back, one_status}
use Rattle.demands.specs.Demand2.{Due, Line}

-- a test for each line, which means its condition where none of those before it holds
abbrev pub Told : List Line → List Bool → Type 0
Told [] bs = Unit {0}
Told (l ∷ ls) [] = ⊥
Told (l ∷ ls) (b ∷ bs) = Means b l.When × ((l.When → ⊥) → Told ls bs)

-- the status of the first line whose test passes
abbrev pub given : List Line → List Bool → Status
given [] bs = Done
given (l ∷ ls) [] = Done
given (l ∷ ls) (b ∷ bs) = cond b l.status (given ls bs)

pub exactly : (ls : List Line) (bs : List Bool) → Told ls bs → (s : Status) → (given ls bs ≡ s) ↔ Due s ls
exactly [] bs t s = (sym, sym)
exactly (l ∷ ls) [] t s = absurd t
exactly (l ∷ ls) (b ∷ bs) t s = go b t.0 (λ n. exactly ls bs (t.1 n) s)
  where
    go : (b : Bool) → Means b l.When → ((l.When → ⊥) → (given ls bs ≡ s) ↔ Due s ls)
        → (cond b l.status (given ls bs) ≡ s) ↔ Due s (l ∷ ls)
    go true m rest =
        let w = m.shows refl in
        (λ e. inl (e, w), ⊎_elim (λ h. h.0) (λ h. absurd (h.0 w)))
    go false m rest =
        let n : l.When → ⊥ = λ w. false≢true (m.holds w) in
        (λ e. inr (n, (rest n).0 e), ⊎_elim (λ h. absurd (n h.1)) (λ h. (rest n).1 h.1))

-- ---- the tests of a call's own lines are its checks, each of which fails
abbrev pub fails : List Check → List Bool
fails [] = []
fails (c ∷ cs) = not c.passes ∷ fails cs

-- line by line the same status, and none is success: a test, which computes
abbrev bits : Status → ℕ
bits s = of_z w32 (number s)

abbrev pub same : List Line → List Check → Bool
same [] [] = true
same [] (c ∷ cs) = false
same (l ∷ ls) [] = false
same (l ∷ ls) (c ∷ cs) = eqb (bits l.status) (bits c.else) && not (is_done c.else) && same ls cs

one_status_of : (s t : Status) → eqb (bits s) (bits t) ≡ true → s ≡ t
one_status_of s t e =
    one_status s t
    (sym (number_back (number s) s refl) ∙ ap (to_z w32) (eqb-true (bits s) (bits t) e)
    ∙ number_back (number t) t refl)

pub given_checks : (ls : List Line) (cs : List Check) → same ls cs ≡ true → verdict cs ≡ given ls (fails cs)
unfolding verdict run
given_checks [] [] h = refl
given_checks [] (c ∷ cs) h = absurd (false≢true h)
given_checks (l ∷ ls) [] h = absurd (false≢true h)
given_checks (l ∷ ls) (c ∷ cs) h =
    let e = eqb (bits l.status) (bits c.else) in
    let d = not (is_done c.else) in
    let two = and_left (e && d) (same ls cs) h in
    verdict_next c cs (not-true (is_done c.else) (and_right e d two))
    ∙ go c.passes (one_status_of l.status c.else (and_left e d two))
    (given_checks ls cs (and_right (e && d) (same ls cs) h))
  where
    go : (t : Bool) → l.status ≡ c.else → verdict cs ≡ given ls (fails cs)
        → cond t (verdict cs) c.else ≡ cond (not t) l.status (given ls (fails cs))
    go true q e = e
    go false q e = sym q
