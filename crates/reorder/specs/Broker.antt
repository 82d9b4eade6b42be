-- A broker's row after a run: each field is what it was, and what each result that was done added to it. Assumes
-- nothing.
use Rattle.std.specs.Prelude.{◌≡◌, refl, Bool, true, false, cond, ◌⊎◌, ℕ, ◌+◌, eqb}
use Rattle.std.proofs.Common.{sym, ◌∙◌, inl, inr, eqb-true}
use Rattle.std.proofs.Math.Path.{ap}
use mathlib.Core.List.{List, [], ◌∷◌}
use native.Mathlib.Omega.{arith}
use Rattle.laws.specs.Search.{total}
use Rattle.laws.specs.Tests.{and_right}
use Rattle.record.specs.Codes.{kind_broker}
use Rattle.keys.specs.Key.{key_of, same_key}
use Rattle.record.specs.Symbol.{same_symbol}
use Rattle.record.specs.declared.row.Row.{Row}
use Rattle.model.specs.Status.{is_done}
use Rattle.model.specs.Names.{a_broker}
use Rattle.model.specs.Result.{broker_after, figures, posting, view}
use Rattle.model.specs.Rows.{found, has_key, is, nothing}
use Rattle.facts.specs.Names.{by_party_holds}
use Rattle.facts.specs.Posted.{writes}
use Rattle.preserved.specs.Cases.{cond_no}
use Rattle.preserved.specs.Once.{key_once}
use Rattle.reorder.specs.Agree.{only, the_total}
use Rattle.reorder.specs.Inv.{Inv, broker_key, broker_kind, inv_step, its_broker, sum_none, totals, turns}
use Rattle.reorder.specs.Sim.{final, trace}
use Rattle.reorder.specs.Step.{Done, Note, Refused, done_status, outcome, step, step_cases}

-- what the broker i gains by a step, where g tells it of the commission
unfoldable pub gain : (ℕ → ℕ) → ℕ → Note → ℕ
gain g i n = cond (is_done n.status) (cond (eqb n.broker i) (g n.commission) 0) 0

-- a field that a result raises by g of the commission
pub record Field (f : Row → ℕ) (g : ℕ → ℕ) : Type 0 where
  pub blank : f nothing ≡ 0
  pub raised : (b : Row) (c : ℕ) → f (broker_after b c) ≡ f b + g c

not_one : (i : ℕ) (f : Row → ℕ) (r : Row) → is kind_broker r ≡ false → only (has_key (a_broker i)) f nothing r ≡ 0
unfolding has_key same_key key_of same_symbol
not_one i f r e = rw e

module _ (own : ℕ → ℕ) (f : Row → ℕ) (g : ℕ → ℕ) (field : Field f g) (i : ℕ) where
  value : (rs : List Row) → Inv own rs
      → f (found (a_broker i) rs) ≡ total (only (has_key (a_broker i)) f nothing) rs
  unfolding found
  value rs v =
      the_total (has_key (a_broker i)) f nothing rs field.blank (key_once rs v.good (a_broker i) refl)

  module _ (rs : List Row) (input : Row) (v : Inv own rs) (d : Done rs input) where
    abbrev b : Row
    b = its_broker own rs input v d

    abbrev n : ℕ
    n = (view rs input).account.n1

    abbrev c : ℕ
    c = (figures input (view rs input)).commission

    party : b.party ≡ n
    party =
        eqb-true b.party n
        (and_right (is kind_broker b) (eqb b.party n)
        (sym (by_party_holds kind_broker refl n b) ∙ broker_key own rs input v d))

    is_it : (r : Row) → r.kind ≡ kind_broker → r.party ≡ n → has_key (a_broker i) r ≡ eqb n i
    is_it r k p = by_party_holds kind_broker refl i r ∙ rw (k, p)

    raise : only (has_key (a_broker i)) f nothing (broker_after b c)
        ≡ only (has_key (a_broker i)) f nothing b + cond (eqb n i) (g c) 0
    raise =
        let k = broker_kind own rs input v d in
        rw (is_it b k party, is_it (broker_after b c) k party) (go (eqb n i))
      where
        go : (t : Bool) → cond t (f (broker_after b c)) 0 ≡ cond t (f b) 0 + cond t (g c) 0
        go true = field.raised b c
        go false = refl

    done_gain : gain g i (step rs input).0 ≡ cond (eqb n i) (g c) 0
    unfolding gain step
    done_gain = rw (done_status rs input d)

    done_value : total (only (has_key (a_broker i)) f nothing) (outcome rs input).rows
        ≡ total (only (has_key (a_broker i)) f nothing) rs + gain g i (step rs input).0
    done_value =
        let μ = only (has_key (a_broker i)) f nothing in
        let w = view rs input in
        let law = totals own rs input v d μ in
        let p = writes (posting input w (figures input w)) in
        let o =
        sum_none μ (λ (u : Row × Row). u.0) p
        (λ u m. not_one i f u.0 (turns own rs input v d u m).old.no_broker)
        in
        let q =
        sum_none μ (λ (u : Row × Row). u.1) p
        (λ u m. not_one i f u.1 (turns own rs input v d u m).new.no_broker)
        in
        let r = raise in
        let e = done_gain in
        omega arith

  step_value : (rs : List Row) (input : Row) → Inv own rs
      → f (found (a_broker i) (step rs input).1) ≡ f (found (a_broker i) rs) + gain g i (step rs input).0
  unfolding step gain
  step_value rs input v =
      let now = value (step rs input).1 (inv_step own rs input v) in
      let was = value rs v in
      go now was (step_cases rs input)
    where
      go : f (found (a_broker i) (outcome rs input).rows)
          ≡ total (only (has_key (a_broker i)) f nothing) (outcome rs input).rows
          → f (found (a_broker i) rs) ≡ total (only (has_key (a_broker i)) f nothing) rs
          → Refused rs input ⊎ Done rs input
          → f (found (a_broker i) (outcome rs input).rows) ≡ f (found (a_broker i) rs) + gain g i (step rs input).0
      go now was (inl r) =
          let same = ap (λ (k : List Row). f (found (a_broker i) k)) r.as_found in
          let none : gain g i (step rs input).0 ≡ 0 = cond_no _ _ r.not_done in
          omega arith
      go now was (inr d) = let law = done_value rs input v d in omega arith

  -- ---- over a run, whose steps are named by places
  pub run_value : (input : ℕ → Row) (rs : List Row) (o : List ℕ) → Inv own rs
      → f (found (a_broker i) (final (λ s j. step s (input j)) rs o))
      ≡ f (found (a_broker i) rs)
      + total (λ (e : ℕ × Note). gain g i e.1) (trace (λ s j. step s (input j)) rs o)
  unfolding final trace total
  run_value input rs [] v = omega arith
  run_value input rs (j ∷ o) v =
      let one = step_value rs (input j) v in
      let ih = run_value input (step rs (input j)).1 o (inv_step own rs (input j) v) in
      omega arith
