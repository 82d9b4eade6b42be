-- A result of an account on two books that agree on the account's rows, where neither meets a limit or wants room: it
-- answers the same and they agree still. Assumes nothing.
use Rattle.std.specs.Prelude.{◌≡◌, refl, Bool, true, false, List, [], ◌∷◌, ◌++◌, ◌⊎◌, length}
use Rattle.std.proofs.Math.Path.{sym, ap}
use Rattle.std.proofs.Common.{◌∙◌, inl, inr}
use Prim.Native.Nat.{ℕ}
use native.Mathlib.Omega.{arith}
use Rattle.laws.specs.Search.{bit, count, run, total}
use Rattle.laws.specs.Puts.{news, olds}
use Rattle.record.specs.Codes.{kind_broker}
use Rattle.record.specs.declared.row.Row.{Row}
use Rattle.rules.specs.Rules.{result_input}
use Rattle.model.specs.declared.Status.{Status}
use Rattle.model.specs.declared.Status.TheVariants.{BadInput, Done, NoRoom, OverLimit}
use Rattle.model.specs.Status.{is_done}
use Rattle.model.specs.Plan.{also, check, last_checks, pick, refused, verdict}
use Rattle.model.specs.Result.{View, broker_after, checks, figures, own_checks, posting, result, view, within}
use Rattle.model.specs.Rows.{found, same_row}
use Rattle.model.specs.Names.{a_broker}
use Rattle.facts.specs.Posted.{writes}
use Rattle.facts.specs.Checks.{decided_status, verdict_kept, verdict_more}
use Rattle.facts.specs.Status.{is_done_holds}
use Rattle.preserved.specs.Cases.{by_cases, no}
use Rattle.reorder.specs.Agree.{Agree}
use Rattle.reorder.specs.Inv.{Inv, broker_kind, its_broker, not_same, totals}
use Rattle.reorder.specs.SameView.{same_view}
use Rattle.reorder.specs.Step
use Rattle.reorder.specs.Step.{Note, Refused, note_of, outcome, step, step_cases}
use Rattle.reorder.specs.Whose.{mine, not_broker}

-- a step that is not refused for a limit or for room
pub record Fine (n : Note) : Type 0 where
  pub no_limit : n.status ≡ OverLimit → ⊥
  pub no_room : n.status ≡ NoRoom → ⊥

-- then its own checks decide, which are made of the view alone
abbrev planned : Row → View → Status
planned input v = verdict (own_checks v (figures input v))

last_checks_holds : (g h : Bool) → let s = verdict (check g OverLimit ∷ check h NoRoom ∷ []) in
    (s ≡ OverLimit → ⊥) → (s ≡ NoRoom → ⊥) → s ≡ Done
unfolding verdict run also
last_checks_holds true true l r = refl
last_checks_holds true false l r = absurd (r refl)
last_checks_holds false h l r = absurd (l refl)

result_status : (rs : List Row) (input : Row) → ((result rs input).status ≡ OverLimit → ⊥)
    → ((result rs input).status ≡ NoRoom → ⊥) → (result rs input).status ≡ planned input (view rs input)
unfolding result checks
result_status rs input l r =
    let v = view rs input in
    let f = figures input v in
    let own = own_checks v f in
    let last = last_checks (within (found (a_broker v.account.n1) rs) f) (length (posting input v f).added) rs in
    let same : (result rs input).status ≡ verdict (own ++ last) = decided_status (own ++ last) rs _ refl in
    same
    ∙ by_cases (is_done (verdict own))
    (λ d.
    let e : (result rs input).status ≡ verdict last = same ∙ verdict_more own last d in
    verdict_more own last d ∙ last_checks_holds _ _ (λ q. l (e ∙ q)) (λ q. r (e ∙ q)) ∙ sym (is_done_holds (verdict own) d))
    (λ d. verdict_kept own last d)

step_status : (rs : List Row) (input : Row) → Fine (step rs input).0
    → (outcome rs input).status ≡ (pick (result_input input)
    (record { status = planned input (view rs input); answer = []; rows = [] }) (refused BadInput [])).status
unfolding step
step_status rs input f = go (result_input input) refl
  where
    go : (b : Bool) → result_input input ≡ b
        → (outcome rs input).status ≡ (pick (result_input input)
        (record { status = planned input (view rs input); answer = []; rows = [] }) (refused BadInput [])).status
    go true e =
        let same : (outcome rs input).status ≡ (result rs input).status =
        ap (λ (b : Bool). (pick b (result rs input) (refused BadInput rs)).status) e
        in
        rw e (result_status rs input (λ q. f.no_limit (same ∙ q)) (λ q. f.no_room (same ∙ q)))
    go false e = rw e

module _ (own : ℕ → ℕ) (a : ℕ) (s t : List Row) (is : Inv own s) (it : Inv own t)
    (h : Agree same_row (mine own a) s t) (input : Row) (e : own input.id ≡ a) (fs : Fine (step s input).0)
    (ft : Fine (step t input).0) where
  views : view s input ≡ view t input
  views = same_view own a s t it.good h input e (it.owns input.id ∙ e)

  statuses : (outcome s input).status ≡ (outcome t input).status
  statuses =
      step_status s input fs
      ∙ ap
      (λ (v : View).
      (pick (result_input input) (record { status = planned input v; answer = []; rows = [] })
      (refused BadInput [])).status)
      views
      ∙ sym (step_status t input ft)

  abbrev After : Type 0
  After =
      ((outcome s input).answer ≡ (outcome t input).answer)
      × Agree same_row (mine own a) (outcome s input).rows (outcome t input).rows

  both_done : Step.Done s input → Step.Done t input → After
  unfolding count
  both_done ds dt = (
    Step.done_answer s input ds
        ∙ ap (λ (v : View). (posting input v (figures input v)).answer ∷ []) views
        ∙ sym (Step.done_answer t input dt),
    λ x m.
        let μ : Row → ℕ = λ y. bit (same_row x y) in
        let ls = totals own s input is ds μ in
        let lt = totals own t input it dt μ in
        let o = ap (λ (v : View). total μ (olds (writes (posting input v (figures input v))))) views in
        let n = ap (λ (v : View). total μ (news (writes (posting input v (figures input v))))) views in
        let off : (y : Row) → y.kind ≡ kind_broker → μ y ≡ 0 =
        λ y k. not_same own s input is x y a m (not_broker own a y k)
        in
        let ks = broker_kind own s input is ds in
        let kt = broker_kind own t input it dt in
        let bs = its_broker own s input is ds in
        let bt = its_broker own t input it dt in
        let b1 = off bs ks in
        let b2 = off bt kt in
        let b3 = off (broker_after bs (figures input (view s input)).commission) ks in
        let b4 = off (broker_after bt (figures input (view t input)).commission) kt in
        let q = h x m in
        omega arith,
  )

  after : After
  after = go (step_cases s input) (step_cases t input)
    where
      go : Refused s input ⊎ Step.Done s input → Refused t input ⊎ Step.Done t input → After
      go (inl r) (inl q) = (
        r.unanswered ∙ sym q.unanswered,
        λ x m. ap (count (same_row x)) r.as_found ∙ h x m ∙ sym (ap (count (same_row x)) q.as_found),
      )
      go (inl r) (inr d) = no r.not_done (ap is_done statuses ∙ Step.done_status t input d)
      go (inr d) (inl q) = no q.not_done (sym (ap is_done statuses) ∙ Step.done_status s input d)
      go (inr d) (inr q) = both_done d q

  pub local : ((step s input).0 ≡ (step t input).0)
      × Agree same_row (mine own a) (step s input).1 (step t input).1
  unfolding step
  local = (
    λ i.
        note_of (views i) (figures input (views i)) (statuses i) (after.0 i),
    after.1,
  )
