-- What a result puts in the places of others: the laws of totals for what only lots or only summaries count for.
-- Assumes nothing.
use Rattle.std.specs.Prelude.{◌≡◌, refl, Bool, true, false, cond, List, ℕ, ◌+◌, ◌≤◌, eqb, length}
use Rattle.std.proofs.Common.{ap, ◌∙◌, arith}
use Rattle.laws.specs.Search.{count, keep, total}
use Rattle.laws.specs.Keep.{keep_from}
use Rattle.laws.specs.Puts.{puts_total}
use Rattle.laws.specs.Total.{total_zero}
use Rattle.record.specs.Codes.{kind_account, kind_broker, kind_cash, kind_free, kind_lot, kind_lot_history, kind_settlement}
use Rattle.record.specs.Codes.{kind_summary, kind_trade, kind_trade_history}
use Rattle.record.specs.declared.row.Row.{Row}
use Rattle.model.specs.Flags.{cash}
use Rattle.model.specs.Lots.{Closing}
use Rattle.model.specs.Rows.{is, nothing, same_row}
use Rattle.model.specs.Result.{Sums, added, broker_write, trade_write, gone, holding, reduced, summed_shares}
use Rattle.facts.specs.Rows.{row_itself, same_rows}
use Rattle.facts.specs.Result.{Read}
use Rattle.preserved.specs.ResultAfter.{after}
use Rattle.preserved.specs.ResultBase.{all, all_inside}
use Rattle.preserved.specs.ResultEach.{cash_of, closing_of, history_of, lot_after, lot_opened, opening_of, settlement_of}
use Rattle.preserved.specs.ResultEach.{summary_after, summary_opened}
use Rattle.preserved.specs.ResultLotsTotal.{new_total, old_total}

-- ---- what only one kind counts for
cond_none : (b : Bool) (x : ℕ) → x ≡ 0 → cond b x 0 ≡ 0
cond_none true x e = e
cond_none false x e = refl

cond_second : (b : Bool) (x y : ℕ) → x ≡ 0 → cond b 0 (x + y) ≡ cond b 0 y
cond_second true x y e = refl
cond_second false x y e = omega arith

none_cond : (b : Bool) (x : ℕ) → (b ≡ false → x ≡ 0) → cond b 0 x ≡ 0
none_cond true x e = refl
none_cond false x e = e refl

module _ {rs : List Row} {t summary account broker : Row} {cs : List Closing}
    (r : Read rs t summary account broker cs) (n : Sums)
    (space : length (added t summary cs n) ≤ count (same_row nothing) rs) where
  -- a measure that one kind alone counts for: a row of another kind counts for nothing
  module _ (k : ℕ) (μ : Row → ℕ) (off : (x : Row) → is k x ≡ false → μ x ≡ 0) where
    aside : (j : ℕ) (x : Row) → eqb j k ≡ false → x.kind ≡ j → μ x ≡ 0
    aside j x e q = off x (ap (λ (i : ℕ). eqb i k) q ∙ e)

    module _ (free : eqb kind_free k ≡ false) (broker-not : eqb kind_broker k ≡ false)
        (account-not : eqb kind_account k ≡ false) (history-not : eqb kind_trade_history k ≡ false)
        (lot-history-not : eqb kind_lot_history k ≡ false) (settlement-not : eqb kind_settlement k ≡ false)
        (cash-not : eqb kind_cash k ≡ false) (trade-not : eqb kind_trade k ≡ false) where
      -- lots and the summary are all that can count
      kind_law : total μ (after r n space)
          + (total (λ (c : Closing). μ c.lot) cs + cond (is kind_free summary) 0 (μ summary))
          ≡ total μ rs + (cond (eqb n.left 0) 0 (μ (lot_opened t n))
          + cond (is kind_free summary) (μ (summary_opened t summary)) 0
          + total (λ (c : Closing). μ (lot_after t c)) (keep reduced cs)
          + cond (is kind_free summary) 0 (cond (gone (summed_shares t summary)) 0 (μ (summary_after t summary))))
      kind_law =
          let law = puts_total same_row same_rows row_itself μ (all r n) rs (all_inside r n space) in
          let none = off nothing free in
          let go = old_total r n μ none in
          let come = new_total r n μ none in
          let a2 = cond_none (cash t.flags) (μ account) (aside kind_account account account-not r.a_kind) in
          let a3 = aside kind_trade t trade-not r.t_kind in
          let a4 = aside kind_broker broker broker-not r.b_kind in
          let b1 = total_zero (λ (c : Closing). μ (closing_of t c)) cs (λ c m. off (closing_of t c) lot-history-not) in
          let b2 = cond_second (eqb n.left 0) _ (μ (lot_opened t n)) (off (opening_of t n) lot-history-not) in
          let b4 = off (history_of t n) history-not in
          let b5 = off (settlement_of t n) settlement-not in
          let b6 = cond_none (cash t.flags) (μ (cash_of t n)) (off (cash_of t n) cash-not) in
          let x = holding account n.balance in
          let b8 = cond_none (cash t.flags) (μ x) (aside kind_account x account-not r.a_kind) in
          let b9 = aside kind_trade (trade_write t n).1 trade-not r.t_kind in
          let b10 = aside kind_broker (broker_write broker n).1 broker-not r.b_kind in
          omega arith

    module _ (lot-not : eqb kind_lot k ≡ false) where
      lots_none : (total (λ (c : Closing). μ c.lot) cs ≡ 0)
          × (total (λ (c : Closing). μ (lot_after t c)) (keep reduced cs) ≡ 0)
          × (cond (eqb n.left 0) 0 (μ (lot_opened t n)) ≡ 0)
      lots_none = (
        total_zero (λ (c : Closing). μ c.lot) cs (λ c m. aside kind_lot c.lot lot-not (r.c_held c m).1),
        total_zero (λ (c : Closing). μ (lot_after t c)) (keep reduced cs)
            (λ c m. aside kind_lot (lot_after t c) lot-not (r.c_held c (keep_from reduced c cs m).0).1),
        none_cond (eqb n.left 0) (μ (lot_opened t n)) (λ e. off (lot_opened t n) lot-not),
      )

    module _ (summary-not : eqb kind_summary k ≡ false) where
      summary_none : (cond (is kind_free summary) 0 (μ summary) ≡ 0)
          × (cond (is kind_free summary) (μ (summary_opened t summary)) 0 ≡ 0)
          × (cond (is kind_free summary) 0 (cond (gone (summed_shares t summary)) 0 (μ (summary_after t summary))) ≡ 0)
      summary_none = (
        none_cond (is kind_free summary) (μ summary) (λ e. aside kind_summary summary summary-not (r.s_held e).1),
        cond_none (is kind_free summary) (μ (summary_opened t summary)) (off (summary_opened t summary) summary-not),
        none_cond (is kind_free summary) _
            (λ e. none_cond (gone (summed_shares t summary)) (μ (summary_after t summary))
            (λ g. aside kind_summary (summary_after t summary) summary-not (r.s_held e).1)),
      )

  module _ (μ : Row → ℕ) (off : (x : Row) → is kind_lot x ≡ false → μ x ≡ 0) where
    pub lots_law : total μ (after r n space) + total (λ (c : Closing). μ c.lot) cs
        ≡ total μ rs + (cond (eqb n.left 0) 0 (μ (lot_opened t n))
        + total (λ (c : Closing). μ (lot_after t c)) (keep reduced cs))
    lots_law =
        let all = kind_law kind_lot μ off refl refl refl refl refl refl refl refl in
        let (s1, s2, s3) = summary_none kind_lot μ off refl in
        omega arith

  module _ (μ : Row → ℕ) (off : (x : Row) → is kind_summary x ≡ false → μ x ≡ 0) where
    pub summaries_law : total μ (after r n space) + cond (is kind_free summary) 0 (μ summary)
        ≡ total μ rs + (cond (is kind_free summary) (μ (summary_opened t summary)) 0
        + cond (is kind_free summary) 0 (cond (gone (summed_shares t summary)) 0 (μ (summary_after t summary))))
    summaries_law =
        let all = kind_law kind_summary μ off refl refl refl refl refl refl refl refl in
        let (l1, l2, l3) = lots_none kind_summary μ off refl in
        omega arith
