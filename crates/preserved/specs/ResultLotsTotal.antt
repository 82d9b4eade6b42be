-- What a result puts in the places of others, summed: what gives way and what comes. Assumes nothing.
use Rattle.std.specs.Prelude.{◌≡◌, Bool, not, ◌&&◌, eqb}
use Rattle.std.proofs.Math.Path.{refl}
use Rattle.std.proofs.Common.{◌∙◌}
use Rattle.std.proofs.Math.Bool.{true, false, cond}
use mathlib.Core.List.{List, [], ◌∷◌, ◌++◌}
use Prim.Native.Nat.{ℕ, ◌+◌}
use native.Mathlib.Omega.{arith}
use Rattle.laws.specs.Search.{keep, total}
use Rattle.laws.specs.Total.{total_append, total_cond, total_map, total_parts, total_single, total_zero}
use Rattle.laws.specs.Puts.{news, olds}
use Rattle.record.specs.Codes.{kind_free}
use Rattle.record.specs.declared.row.Row.{Row}
use Rattle.model.specs.Flags.{cash}
use Rattle.model.specs.Lots.{Closing}
use Rattle.model.specs.Rows.{is, nothing}
use Rattle.model.specs.Result.{Sums, account_changes, added, broker_write, closed_lots, closing_rows, final_rows, gone}
use Rattle.model.specs.Result.{holding, lot_changes, opening_rows, reduced, summary_changes, summary_gone, summary_rows}
use Rattle.model.specs.Result.{summed_shares, trade_write}
use Rattle.facts.specs.Result.{Read, writes}
use Rattle.facts.specs.Posted.{adds, frees}
use Rattle.preserved.specs.ResultBase.{all}
use Rattle.preserved.specs.ResultEach.{cash_of, closing_of, history_of, lot_after, lot_opened, opening_of, settlement_of}
use Rattle.preserved.specs.ResultEach.{summary_after, summary_opened}

module _ {rs : List Row} {t summary account broker : Row} {cs : List Closing}
    (r : Read rs t summary account broker cs) (n : Sums) (μ : Row → ℕ) (none : μ nothing ≡ 0) where
  added_old : (hs : List Row) → total (λ (w : Row × Row). μ w.0) (adds hs) ≡ 0
  added_old hs =
      total_map (λ (w : Row × Row). μ w.0) (λ (h : Row). (nothing, h)) hs
      ∙ total_zero (λ (h : Row). μ nothing) hs (λ h m. none)

  freed_new : (os : List Row) → total (λ (w : Row × Row). μ w.1) (frees os) ≡ 0
  freed_new os =
      total_map (λ (w : Row × Row). μ w.1) (λ (o : Row). (o, nothing)) os
      ∙ total_zero (λ (o : Row). μ nothing) os (λ o m. none)

  -- the writes in their parts
  parted : (ν : Row × Row → ℕ)
      → total ν (all r n)
      ≡ total ν (adds (added t summary cs n)) + total ν (lot_changes t cs) + total ν (summary_changes t summary)
      + cond (cash t.flags) (ν (account, holding account n.balance)) 0
      + ν (trade_write t n)
      + ν (broker_write broker n)
      + total ν (frees (closed_lots cs ++ summary_gone t summary))
  parted ν =
      let w1 = lot_changes t cs in
      let w2 = summary_changes t summary in
      let w3 = account_changes t account n.balance in
      let w4 = trade_write t n ∷ [] in
      let w5 = broker_write broker n ∷ [] in
      let w6 = frees (closed_lots cs ++ summary_gone t summary) in
      let e6 = total_append ν (adds (added t summary cs n)) (writes t summary account broker cs n) in
      let e5 = total_append ν (w1 ++ w2 ++ w3 ++ w4 ++ w5) w6 in
      let e4 = total_append ν (w1 ++ w2 ++ w3 ++ w4) w5 in
      let e3 = total_append ν (w1 ++ w2 ++ w3) w4 in
      let e2 = total_append ν (w1 ++ w2) w3 in
      let e1 = total_append ν w1 w2 in
      let c3 = total_cond ν (cash t.flags) (account, holding account n.balance) in
      let c4 = total_single ν (trade_write t n) in
      let c5 = total_single ν (broker_write broker n) in
      omega arith

  summary_old : total (λ (w : Row × Row). μ w.0) (summary_changes t summary) + total μ (summary_gone t summary)
      ≡ cond (is kind_free summary) 0 (μ summary)
  unfolding total
  summary_old = go (is kind_free summary) (gone (summed_shares t summary))
    where
      ν : Row × Row → ℕ
      ν w = μ w.0

      go : (a b : Bool)
          → total ν (cond (not a && not b) ((summary, summary_after t summary) ∷ []) [])
          + total μ (cond (not a && b) (summary ∷ []) [])
          ≡ cond a 0 (μ summary)
      go true b = refl
      go false true = omega arith
      go false false = omega arith

  summary_new : total (λ (w : Row × Row). μ w.1) (summary_changes t summary)
      ≡ cond (is kind_free summary) 0 (cond (gone (summed_shares t summary)) 0 (μ (summary_after t summary)))
  unfolding total
  summary_new = go (is kind_free summary) (gone (summed_shares t summary))
    where
      ν : Row × Row → ℕ
      ν w = μ w.1

      go : (a b : Bool)
          → total ν (cond (not a && not b) ((summary, summary_after t summary) ∷ []) [])
          ≡ cond a 0 (cond b 0 (μ (summary_after t summary)))
      go true b = refl
      go false true = refl
      go false false = omega arith

  -- what gives way
  pub old_total : total μ (olds (all r n))
      ≡ total (λ (c : Closing). μ c.lot) cs + cond (is kind_free summary) 0 (μ summary)
      + cond (cash t.flags) (μ account) 0
      + μ t
      + μ broker
  old_total =
      let ν : Row × Row → ℕ = λ w. μ w.0 in
      let whole : Closing → Bool = λ c. not (reduced c) in
      let os = closed_lots cs ++ summary_gone t summary in
      let a = total_map μ (λ (w : Row × Row). w.0) (all r n) in
      let b = parted ν in
      let c = added_old (added t summary cs n) in
      let d : total ν (lot_changes t cs) ≡ total (λ (c : Closing). μ c.lot) (keep reduced cs) =
      total_map ν (λ (c : Closing). (c.lot, lot_after t c)) (keep reduced cs)
      in
      let e : total ν (frees os) ≡ total μ os = total_map ν (λ (o : Row). (o, nothing)) os in
      let f = total_append μ (closed_lots cs) (summary_gone t summary) in
      let g : total μ (closed_lots cs) ≡ total (λ (c : Closing). μ c.lot) (keep whole cs) =
      total_map μ (λ (c : Closing). c.lot) (keep whole cs)
      in
      let h = total_parts (λ (c : Closing). μ c.lot) reduced cs in
      let i = summary_old in
      omega arith

  opening : total μ (opening_rows t n.price n.left n.time)
      ≡ cond (eqb n.left 0) 0
      (μ (opening_of t n) + μ (lot_opened t n))
  unfolding total
  opening = go (eqb n.left 0)
    where
      go : (b : Bool)
          → total μ (cond b [] (opening_of t n ∷ lot_opened t n ∷ []))
          ≡ cond b 0 (μ (opening_of t n) + μ (lot_opened t n))
      go true = refl
      go false = omega arith

  fresh : total μ (summary_rows t summary) ≡ cond (is kind_free summary) (μ (summary_opened t summary)) 0
  unfolding total
  fresh = go (is kind_free summary)
    where
      go : (b : Bool) → total μ (cond (not b) [] (summary_opened t summary ∷ []))
          ≡ cond b (μ (summary_opened t summary)) 0
      go true = omega arith
      go false = refl

  final : total μ (final_rows t n.amount n.time)
      ≡ μ (history_of t n) + μ (settlement_of t n)
      + cond (cash t.flags) (μ (cash_of t n)) 0
  unfolding total
  final = let h = total_cond μ (cash t.flags) (cash_of t n) in omega arith

  -- what comes
  pub new_total : total μ (news (all r n))
      ≡ total (λ (c : Closing). μ (closing_of t c)) cs
      + cond (eqb n.left 0) 0
      (μ (opening_of t n) + μ (lot_opened t n))
      + cond (is kind_free summary) (μ (summary_opened t summary)) 0
      + (μ (history_of t n) + μ (settlement_of t n)
      + cond (cash t.flags) (μ (cash_of t n)) 0)
      + total (λ (c : Closing). μ (lot_after t c)) (keep reduced cs)
      + cond (is kind_free summary) 0 (cond (gone (summed_shares t summary)) 0 (μ (summary_after t summary)))
      + cond (cash t.flags) (μ (holding account n.balance)) 0
      + μ (trade_write t n).1
      + μ (broker_write broker n).1
  new_total =
      let ν : Row × Row → ℕ = λ w. μ w.1 in
      let hs = added t summary cs n in
      let h1 = closing_rows t cs in
      let h2 = opening_rows t n.price n.left n.time in
      let h3 = summary_rows t summary in
      let h4 = final_rows t n.amount n.time in
      let a = total_map μ (λ (w : Row × Row). w.1) (all r n) in
      let b = parted ν in
      let c : total ν (adds hs) ≡ total μ hs = total_map ν (λ (h : Row). (nothing, h)) hs in
      let d : total ν (lot_changes t cs) ≡ total (λ (c : Closing). μ (lot_after t c)) (keep reduced cs) =
      total_map ν (λ (c : Closing). (c.lot, lot_after t c)) (keep reduced cs)
      in
      let e = freed_new (closed_lots cs ++ summary_gone t summary) in
      let f = summary_new in
      let e3 = total_append μ (h1 ++ h2 ++ h3) h4 in
      let e2 = total_append μ (h1 ++ h2) h3 in
      let e1 = total_append μ h1 h2 in
      let g : total μ h1 ≡ total (λ (c : Closing). μ (closing_of t c)) cs = total_map μ (closing_of t) cs in
      let i = opening in
      let j = fresh in
      let k = final in
      omega arith
