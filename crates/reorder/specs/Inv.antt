-- What a run keeps: the book is sound, and each trade has the account that it had in the opening book. And a result of
-- another account, or of none, leaves an account's rows. Assumes nothing.
use Rattle.std.specs.Prelude.{◌≡◌, true, false, cond, List, [], ◌∷◌, ◌++◌, map, ◌⊎◌, ℕ, ◌+◌, ◌≤◌, length}
use Rattle.std.proofs.Math.Path.{refl, ap, subst}
use Rattle.std.proofs.Common.{sym, ◌∙◌, inl, inr}
use native.Mathlib.Omega.{arith}
use Rattle.laws.specs.All.{All}
use Rattle.laws.specs.Search.{bit, count, total}
use Rattle.laws.specs.Puts.{news, olds, same_sums}
use Rattle.laws.specs.Total.{total_append, total_map, total_single, total_zero}
use Rattle.record.specs.Codes.{kind_broker, kind_free, kind_trade}
use Rattle.keys.specs.Key.{key_of, same_key}
use Rattle.record.specs.Symbol.{same_symbol}
use Rattle.record.specs.declared.row.Row.{Row}
use Rattle.rules.specs.Meaning.{means_trade}
use Rattle.rules.proofs.Fits.{means_fits}
use Rattle.rules.specs.Rules.{as_kind, result_input}
use Rattle.model.specs.declared.Status.TheVariants.{BadInput, ResultNoTrade}
use Rattle.model.specs.Names.{a_broker, a_trade}
use Rattle.model.specs.Plan.{Posting, refused, verdict}
use Rattle.model.specs.Result.{broker_after, checks, figures, posting, result, view, with_broker}
use Rattle.model.specs.Rows.{found, has_key, is, most_records, nothing, same_row}
use Rattle.model.specs.Sound.{sound}
use Rattle.model.specs.SoundMeans.{means_sound}
use Rattle.model.specs.Status.{is_done}
use Rattle.model.specs.declared.Status.{Status}
use Rattle.facts.specs.Rows.{same_rows}
use Rattle.facts.specs.Found.{found_kind, found_live, found_member}
use Rattle.facts.specs.Keys.{key_kind}
use Rattle.facts.specs.Posted.{adds, frees, writes}
use Rattle.facts.specs.Checks.{decided_refused, verdict_next}
use Rattle.preserved.specs.Cases.{by_cases, no}
use Rattle.preserved.specs.Once.{key_once}
use Rattle.reorder.specs.Agree.{Agree, the_total}
use Rattle.reorder.specs.Step.{Done, Note, Refused, broker_has, done_live, done_sound, done_total, outcome}
use Rattle.reorder.specs.Step.{seen, step, step_cases, step_length}
use Rattle.reorder.specs.Whose.{mine, not_broker, not_free, not_other, whose}
use Rattle.reorder.specs.Writes.{Its, Turn, all_turns, party_if}

-- ---- the broker's row stands by itself among what is written
beside : (μ : Row → ℕ) (g : Row × Row → Row) (b : Row) (c : ℕ) (p : Posting)
    → total μ (map g (writes (with_broker b c p))) ≡ total μ (map g (writes p)) + μ (g (b, broker_after b c))
beside μ g b c p =
    let ν : Row × Row → ℕ = λ w. μ (g w) in
    let one : List (Row × Row) = (b, broker_after b c) ∷ [] in
    let a0 = total_map μ g (writes (with_broker b c p)) in
    let a1 = total_append ν (adds p.added) ((p.changes ++ one) ++ frees p.freed) in
    let a2 = total_append ν (p.changes ++ one) (frees p.freed) in
    let a3 = total_append ν p.changes one in
    let a4 = total_single ν (b, broker_after b c) in
    let b0 = total_map μ g (writes p) in
    let b1 = total_append ν (adds p.added) (p.changes ++ frees p.freed) in
    let b2 = total_append ν p.changes (frees p.freed) in
    omega arith

olds_beside : (μ : Row → ℕ) (b : Row) (c : ℕ) (p : Posting)
    → total μ (olds (writes (with_broker b c p))) ≡ total μ (olds (writes p)) + μ b
olds_beside μ b c p = beside μ (λ (w : Row × Row). w.0) b c p

news_beside : (μ : Row → ℕ) (b : Row) (c : ℕ) (p : Posting)
    → total μ (news (writes (with_broker b c p))) ≡ total μ (news (writes p)) + μ (broker_after b c)
news_beside μ b c p = beside μ (λ (w : Row × Row). w.1) b c p

pub sum_none : (μ : Row → ℕ) (g : Row × Row → Row) (ws : List (Row × Row))
    → All (λ (w : Row × Row). μ (g w) ≡ 0) ws → total μ (map g ws) ≡ 0
sum_none μ g ws h = total_map μ g ws ∙ total_zero (λ w. μ (g w)) ws h

-- ---- what a run keeps
pub record Inv (own : ℕ → ℕ) (rs : List Row) : Type 0 where
  pub good : sound rs ≡ true
  pub few : length rs ≤ most_records
  pub owns : (i : ℕ) → (found (a_trade i) rs).party ≡ own i

-- a trade that is there has an account
pub named : (rs : List Row) → sound rs ≡ true → (i : ℕ) → is kind_free (found (a_trade i) rs) ≡ false
    → 1 ≤ (found (a_trade i) rs).party
named rs good i live =
    let k = a_trade i in
    let there = found_live rs k live in
    let r = found k rs in
    let fit = (means_fits r).holds (((means_sound rs).shows good).s1 r (found_member rs k there)) in
    ((means_trade r).shows (as_kind kind_trade r (found_kind rs k there) ∙ fit)).0.0.0.2.2.2.2.0

-- a result that names no trade is told so, and changes nothing
abbrev pub nameless_note : Row → Note
nameless_note input = record {
  status = cond (result_input input) ResultNoTrade BadInput;
  answer = [];
  broker = 0;
  commission = 0;
}

module _ (own : ℕ → ℕ) (rs : List Row) (input : Row) (v : Inv own rs) (none : own input.id ≡ 0) where
  no_trade : is kind_free (found (a_trade input.id) rs) ≡ true
  no_trade =
      by_cases (is kind_free (found (a_trade input.id) rs)) (λ e. e)
      (λ e.
      let n = named rs v.good input.id e in
      let o = v.owns input.id in
      absurd (omega arith))

  no_result : result rs input ≡ refused ResultNoTrade rs
  unfolding result checks view
  no_result =
      let s = view rs input in
      let cs = checks rs input s (figures input s) in
      let e : verdict cs ≡ ResultNoTrade = verdict_next _ _ refl ∙ rw no_trade in
      decided_refused cs rs _ (ap is_done e) ∙ ap (λ (t : Status). refused t rs) e

  pub nameless : (step rs input).0 ≡ nameless_note input
  unfolding step
  nameless =
      by_cases (result_input input)
      (λ e. rw (e, no_result))
      (λ e. rw e)

module _ (own : ℕ → ℕ) (rs : List Row) (input : Row) (v : Inv own rs) where
  abbrev seen_trade : Row
  seen_trade = found (a_trade input.id) rs

  module _ (d : Done rs input) where
    its_account : own input.id ≡ seen_trade.party
    its_account = sym (v.owns input.id)

    live : is kind_free seen_trade ≡ false
    unfolding view
    live = done_live rs input d

    pub turns : All (Turn own seen_trade.party)
        (writes (posting input (view rs input) (figures input (view rs input))))
    unfolding view
    turns =
        all_turns own input (view rs input) (figures input (view rs input))
        (seen rs input v.good (done_live rs input d) own its_account)

    abbrev pub its_broker : Row
    its_broker = found (a_broker (view rs input).account.n1) rs

    pub broker_key : has_key (a_broker (view rs input).account.n1) its_broker ≡ true
    broker_key = broker_has rs input v.good (done_live rs input d)

    pub broker_kind : its_broker.kind ≡ kind_broker
    broker_kind = key_kind (a_broker (view rs input).account.n1) its_broker broker_key

    -- the law of totals, with the broker's row by itself
    pub totals : (μ : Row → ℕ)
        → total μ (outcome rs input).rows
        + total μ (olds (writes (posting input (view rs input) (figures input (view rs input)))))
        + μ its_broker
        ≡ total μ rs
        + total μ (news (writes (posting input (view rs input) (figures input (view rs input)))))
        + μ (broker_after its_broker (figures input (view rs input)).commission)
    totals μ =
        let w = view rs input in
        let f = figures input w in
        let law = done_total rs input d v.few v.good μ in
        let o = olds_beside μ its_broker f.commission (posting input w f) in
        let n = news_beside μ its_broker f.commission (posting input w f) in
        omega arith

    no_party : (i : ℕ) (r : Row) → r.kind ≡ kind_broker → party_if i r ≡ 0
    unfolding has_key same_key key_of same_symbol
    no_party i r e = rw e

    owns_done : (i : ℕ) → sound (outcome rs input).rows ≡ true
        → (found (a_trade i) (outcome rs input).rows).party ≡ own i
    unfolding found
    owns_done i good' =
        let w = view rs input in
        let f = figures input w in
        let p = posting input w f in
        let law = totals (party_if i) in
        let same = same_sums (party_if i) (writes p) (λ x m. (turns x m).party i) in
        let b0 = no_party i its_broker broker_kind in
        let b1 = no_party i (broker_after its_broker f.commission) broker_kind in
        let now =
        the_total (has_key (a_trade i)) (λ (r : Row). r.party) nothing (outcome rs input).rows refl
        (key_once (outcome rs input).rows good' (a_trade i) refl)
        in
        let was =
        the_total (has_key (a_trade i)) (λ (r : Row). r.party) nothing rs refl
        (key_once rs v.good (a_trade i) refl)
        in
        let o = v.owns i in
        omega arith

  pub inv_step : Inv own (step rs input).1
  unfolding step
  inv_step = go (step_cases rs input)
    where
      go : Refused rs input ⊎ Done rs input → Inv own (outcome rs input).rows
      go (inl r) = subst (Inv own) (sym r.as_found) v
      go (inr d) =
          let good' = done_sound rs input d v.few v.good in
          record {
            good = good';
            few = let e = step_length rs input in let f = v.few in omega arith;
            owns = λ i. owns_done d i good';
          }

  -- ---- a result of another account, or of none, leaves this account's rows
  pub not_same : (x y : Row) (a : ℕ) → mine own a x ≡ true → mine own a y ≡ false → bit (same_row x y) ≡ 0
  not_same x y a m n =
      by_cases (same_row x y)
      (λ e. no n (ap (mine own a) (sym (same_rows x y e)) ∙ m))
      (λ e. ap bit e)

  others : (a c : ℕ) (y : Row) → Its own a y → (a ≡ 0 → ⊥) → (a ≡ c → ⊥) → mine own c y ≡ false
  others a c y i z n = go i.owned
    where
      go : (y.kind ≡ kind_free) ⊎ (whose own y ≡ a) → mine own c y ≡ false
      go (inl e) = not_free own c y e
      go (inr e) = not_other own c y a e z n

  left : (c : ℕ) → (own input.id ≡ c → ⊥) → Done rs input → (x : Row) → mine own c x ≡ true
      → count (same_row x) (outcome rs input).rows ≡ count (same_row x) rs
  unfolding count
  left c n d x m =
      let w = view rs input in
      let f = figures input w in
      let a = seen_trade.party in
      let big = named rs v.good input.id (live d) in
      let z : a ≡ 0 → ⊥ = λ e. absurd (omega arith) in
      let k : a ≡ c → ⊥ = λ e. n (its_account d ∙ e) in
      let law = totals d (λ (y : Row). bit (same_row x y)) in
      let o =
      sum_none (λ (y : Row). bit (same_row x y)) (λ (u : Row × Row). u.0) (writes (posting input w f))
      (λ u e. not_same x u.0 c m (others a c u.0 (turns d u e).old z k))
      in
      let q =
      sum_none (λ (y : Row). bit (same_row x y)) (λ (u : Row × Row). u.1) (writes (posting input w f))
      (λ u e. not_same x u.1 c m (others a c u.1 (turns d u e).new z k))
      in
      let b0 = not_same x (its_broker d) c m (not_broker own c (its_broker d) (broker_kind d)) in
      let b1 =
      not_same x (broker_after (its_broker d) f.commission) c m
      (not_broker own c (broker_after (its_broker d) f.commission) (broker_kind d))
      in
      omega arith

  pub apart : (c : ℕ) → (own input.id ≡ c → ⊥) → Agree same_row (mine own c) (step rs input).1 rs
  unfolding step
  apart c n = go (step_cases rs input)
    where
      go : Refused rs input ⊎ Done rs input → Agree same_row (mine own c) (outcome rs input).rows rs
      go (inl r) = λ x m. ap (count (same_row x)) r.as_found
      go (inr d) = λ x m. left c n d x m
