-- Each row that a result writes, one by one: what is shown of each of them holds of all. Assumes nothing.
use Rattle.std.specs.Prelude.{◌≡◌, refl, Bool, true, false, not, ◌&&◌, List, [], ◌∷◌, ◌++◌, ℕ, eqb, pos}
use Rattle.std.proofs.Common.{sym, ◌∙◌, to_z}
use Rattle.std.proofs.lemmas.Bool.{eqb-false, not-false, not-true}
use Rattle.std.specs.Int.{w64}
use Rattle.laws.specs.All.{All, all_append, all_cond, all_keep, all_map, all_more, all_none, all_one}
use Rattle.laws.specs.Keep.{keep_from}
use Rattle.laws.specs.Search.{keep}
use Rattle.laws.specs.Tests.{and_left, and_right}
use Rattle.record.specs.Codes.{completed, kind_account, kind_broker, kind_cash, kind_free, kind_lot, kind_lot_history}
use Rattle.record.specs.Codes.{kind_settlement, kind_summary, kind_trade, kind_trade_history}
use Rattle.record.specs.declared.row.Row.{Row}
use Rattle.keys.specs.Key.{among}
use Rattle.model.specs.Flags.{cash}
use Rattle.model.specs.Lots.{Closing}
use Rattle.model.specs.Result.{Sums, account_changes, added, broker_write, cash_row, closed_lots, closing_rows, final_rows}
use Rattle.model.specs.Result.{gone, holding, left_of, lot_changes, lot_history, new_lot, new_summary, opening_rows}
use Rattle.model.specs.Result.{reduced, settlement_row, signed, summary_changes, summary_gone, summary_rows, summed_shares}
use Rattle.model.specs.Result.{trade_write}
use Rattle.model.specs.Rows.{is, nothing}
use Rattle.model.specs.History.{history_row}
use Rattle.facts.specs.Keys.{OfKind}
use Rattle.facts.specs.Posted.{adds, frees}
use Rattle.facts.specs.Result.{Read}
use Rattle.preserved.specs.Cases.{by_cases, not_among}
use Rattle.preserved.specs.ResultBase.{all}

-- ---- the rows that are added
abbrev pub closing_of : Row → Closing → Row
closing_of t c = lot_history c.lot.id t.id (to_z w64 c.lot.m1) (left_of t.form c)

abbrev pub opening_of : Row → Sums → Row
opening_of t n = lot_history t.id t.id (pos 0) (signed t.form n.left)

abbrev pub lot_opened : Row → Sums → Row
lot_opened t n = new_lot t n.price (signed t.form n.left) n.time

abbrev pub summary_opened : Row → Row → Row
summary_opened t summary = new_summary t (summed_shares t summary)

abbrev pub history_of : Row → Sums → Row
history_of t n = history_row completed t.id n.time

abbrev pub settlement_of : Row → Sums → Row
settlement_of t n = settlement_row t n.amount n.time

abbrev pub cash_of : Row → Sums → Row
cash_of t n = cash_row t n.amount n.time

-- ---- and those that are changed
abbrev pub lot_after : Row → Closing → Row
lot_after t c = holding c.lot (left_of t.form c)

abbrev pub summary_after : Row → Row → Row
summary_after t summary = holding summary (summed_shares t summary)

-- ---- what is to be shown of each
pub record Each (t summary account : Row) (cs : List Closing) (n : Sums) (Q : Row × Row → Type 0) : Type 0 where
  pub closed : All (λ (c : Closing). Q (nothing, closing_of t c)) cs
  pub opened : eqb n.left 0 ≡ false → Q (nothing, opening_of t n)
  pub lot : eqb n.left 0 ≡ false → Q (nothing, lot_opened t n)
  pub begun : is kind_free summary ≡ true → Q (nothing, summary_opened t summary)
  pub history : Q (nothing, history_of t n)
  pub settled : Q (nothing, settlement_of t n)
  pub paid : cash t.flags ≡ true → Q (nothing, cash_of t n)
  pub less : All (λ (c : Closing). reduced c ≡ true → Q (c.lot, lot_after t c)) cs
  pub summed : is kind_free summary ≡ false → gone (summed_shares t summary) ≡ false
      → Q (summary, summary_after t summary)
  pub balanced : Q (account, holding account n.balance)
  pub trade : Q (trade_write t n)
  pub freed : All (λ (c : Closing). Q (c.lot, nothing)) cs
  pub emptied : is kind_free summary ≡ false → Q (summary, nothing)

-- free places, lots, summaries and lot histories
abbrev pub lot_kinds : List ℕ
lot_kinds = kind_free ∷ kind_lot ∷ kind_summary ∷ kind_lot_history ∷ []

module _ {t summary account : Row} {cs : List Closing} {n : Sums} {Q : Row × Row → Type 0}
    (e : Each t summary account cs n Q) where
  pub each_added : All (λ (h : Row). Q (nothing, h)) (added t summary cs n)
  each_added =
      all_append P (closing_rows t cs ++ opening_rows t n.price n.left n.time ++ summary_rows t summary)
      (final_rows t n.amount n.time)
      (all_append P (closing_rows t cs ++ opening_rows t n.price n.left n.time) (summary_rows t summary)
      (all_append P (closing_rows t cs) (opening_rows t n.price n.left n.time)
      (all_map (closing_of t) P cs e.closed)
      (all_cond P (eqb n.left 0) [] _ (λ z. all_none P)
      (λ z. all_more P _ _ (e.opened z) (all_one P _ (e.lot z)))))
      (all_cond P (not (is kind_free summary)) [] _ (λ z. all_none P)
      (λ z. all_one P _ (e.begun (not-false (is kind_free summary) z)))))
      (all_more P _ _ e.history
      (all_more P _ _ e.settled
      (all_cond P (cash t.flags) _ [] (λ z. all_one P _ (e.paid z)) (λ z. all_none P))))
    where
      P : Row → Type 0
      P h = Q (nothing, h)

  pub each_freed : All Q (frees (closed_lots cs ++ summary_gone t summary))
  each_freed =
      all_map (λ (o : Row). (o, nothing)) Q (closed_lots cs ++ summary_gone t summary)
      (all_append P (closed_lots cs) (summary_gone t summary)
      (all_map (λ (c : Closing). c.lot) P (keep (λ (c : Closing). not (reduced c)) cs)
      (all_keep (λ (c : Closing). P c.lot) (λ (c : Closing). not (reduced c)) cs e.freed))
      (all_cond P (not (is kind_free summary) && gone (summed_shares t summary)) _ []
      (λ z. all_one P _ (e.emptied (not-true (is kind_free summary) (and_left _ (gone (summed_shares t summary)) z))))
      (λ z. all_none P)))
    where
      P : Row → Type 0
      P o = Q (o, nothing)

  pub each_changed : All Q
      (lot_changes t cs ++ summary_changes t summary ++ account_changes t account n.balance ++ trade_write t n ∷ [])
  each_changed =
      let w1 = lot_changes t cs in
      let w2 = summary_changes t summary in
      let w3 = account_changes t account n.balance in
      all_append Q (w1 ++ w2 ++ w3) (trade_write t n ∷ [])
      (all_append Q (w1 ++ w2) w3
      (all_append Q w1 w2
      (all_map (λ (c : Closing). (c.lot, lot_after t c)) Q (keep reduced cs)
      (λ c m. let k = keep_from reduced c cs m in e.less c k.0 k.1))
      (all_cond Q (not (is kind_free summary) && not (gone (summed_shares t summary))) _ []
      (λ z. let live = not (is kind_free summary) in let some = not (gone (summed_shares t summary)) in
      all_one Q _ (e.summed (not-true _ (and_left live some z)) (not-true _ (and_right live some z))))
      (λ z. all_none Q)))
      (all_cond Q (cash t.flags) _ [] (λ z. all_one Q _ e.balanced) (λ z. all_none Q)))
      (all_one Q _ e.trade)

module _ {rs : List Row} {t summary account broker : Row} {cs : List Closing}
    (r : Read rs t summary account broker cs) (n : Sums) (Q : Row × Row → Type 0) where
  pub each_write : Each t summary account cs n Q → Q (broker_write broker n) → All Q (all r n)
  each_write e g =
      let ws = lot_changes t cs ++ summary_changes t summary ++ account_changes t account n.balance
      ++ trade_write t n ∷ [] in
      let w = broker_write broker n ∷ [] in
      let os = frees (closed_lots cs ++ summary_gone t summary) in
      all_append Q (adds (added t summary cs n)) (ws ++ w ++ os)
      (all_map (λ (h : Row). (nothing, h)) Q (added t summary cs n) (each_added e))
      (all_append Q (ws ++ w) os (all_append Q ws w (each_changed e) (all_one Q _ g)) (each_freed e))

  -- ---- where a test passes rows of one other kind only, no more is to be shown than of the rows of that kind
  module _ (k : ℕ) (p : Row → Bool) (only : OfKind k p) (a : among k lot_kinds ≡ false)
      (quiet : (w : Row × Row) → p w.0 ≡ false → p w.1 ≡ false → Q w) where
    off : (j : ℕ) → eqb j k ≡ false → (x : Row) → x.kind ≡ j → p x ≡ false
    off j e x h = only x (λ q. eqb-false j k e (sym h ∙ q))

    aside : (j : ℕ) → among j lot_kinds ≡ true → (x : Row) → x.kind ≡ j → p x ≡ false
    aside j e x h = only x (λ q. not_among lot_kinds k j a e (sym h ∙ q))

    off_free : p nothing ≡ false
    off_free = aside kind_free refl nothing refl

    fresh : (j : ℕ) (x : Row) → x.kind ≡ j → (eqb j k ≡ true → Q (nothing, x)) → Q (nothing, x)
    fresh j x h f = by_cases (eqb j k) f (λ e. quiet (nothing, x) off_free (off j e x h))

    turned : (j : ℕ) (o x : Row) → o.kind ≡ j → x.kind ≡ j → (eqb j k ≡ true → Q (o, x)) → Q (o, x)
    turned j o x h i f = by_cases (eqb j k) f (λ e. quiet (o, x) (off j e o h) (off j e x i))

    pub by_kind : (eqb kind_trade_history k ≡ true → Q (nothing, history_of t n))
        → (eqb kind_settlement k ≡ true → Q (nothing, settlement_of t n))
        → (eqb kind_cash k ≡ true → cash t.flags ≡ true → Q (nothing, cash_of t n))
        → (eqb kind_account k ≡ true → Q (account, holding account n.balance))
        → (eqb kind_trade k ≡ true → Q (trade_write t n))
        → (eqb kind_broker k ≡ true → Q (broker_write broker n))
        → All Q (all r n)
    by_kind f1 f2 f3 f4 f5 f6 =
        each_write (record {
          closed = λ c m. quiet (nothing, closing_of t c) off_free (aside kind_lot_history refl (closing_of t c) refl);
          opened = λ z. quiet (nothing, opening_of t n) off_free (aside kind_lot_history refl (opening_of t n) refl);
          lot = λ z. quiet (nothing, lot_opened t n) off_free (aside kind_lot refl (lot_opened t n) refl);
          begun = λ z.
              quiet (nothing, summary_opened t summary) off_free (aside kind_summary refl (summary_opened t summary)
              refl);
          history = fresh kind_trade_history (history_of t n) refl f1;
          settled = fresh kind_settlement (settlement_of t n) refl f2;
          paid = λ z. fresh kind_cash (cash_of t n) refl (λ e. f3 e z);
          less = λ c m z.
              quiet (c.lot, lot_after t c) (aside kind_lot refl c.lot (r.c_held c m).1)
              (aside kind_lot refl (lot_after t c) (r.c_held c m).1);
          summed = λ z g.
              quiet (summary, summary_after t summary) (aside kind_summary refl summary (r.s_held z).1)
              (aside kind_summary refl (summary_after t summary) (r.s_held z).1);
          balanced = turned kind_account account (holding account n.balance) r.a_kind r.a_kind f4;
          trade = turned kind_trade t (trade_write t n).1 r.t_kind r.t_kind f5;
          freed = λ c m. quiet (c.lot, nothing) (aside kind_lot refl c.lot (r.c_held c m).1) off_free;
          emptied = λ z. quiet (summary, nothing) (aside kind_summary refl summary (r.s_held z).1) off_free;
        })
        (turned kind_broker broker (broker_write broker n).1 r.b_kind r.b_kind f6)
