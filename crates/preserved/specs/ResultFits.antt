-- S1 after a result that is accepted: each row was there, or comes and fits the grid. Assumes nothing.
use Rattle.std.specs.Prelude.{◌≡◌, true, false, ℕ, ◌-◌, ◌≤◌, eqb, pos, nat_abs, get_or, length}
use Rattle.std.proofs.Common.{sym, ◌∙◌, arith, to_z}
use mathlib.Core.List.{List, [], Memᴰ}
use Rattle.std.proofs.lemmas.Bool.{eqb-false}
use Rattle.std.specs.Int.{w64}
use Rattle.laws.specs.Search.{count}
use Rattle.record.specs.Codes.{kind_account, kind_broker, kind_free, kind_lot, kind_summary, kind_trade}
use Rattle.record.specs.declared.row.Row.{Row}
use Rattle.rules.specs.Meaning.{Lot, Trade, means_account, means_broker, means_lot, means_summary}
use Rattle.rules.proofs.Fits.{Fits, means_fits}
use Rattle.rules.specs.Meaning.{means_trade}
use Rattle.rules.specs.Rules.{as_kind, rules}
use Rattle.model.specs.Lots.{Closing, size}
use Rattle.model.specs.Money.{buys}
use Rattle.model.specs.Result.{left_of, signed, Sums, added, broker_write, trade_write, gone, holding, reduced}
use Rattle.model.specs.Result.{summed_shares}
use Rattle.model.specs.Rows.{is, nothing, same_row}
use Rattle.model.specs.SoundMeans.{S1, means_sound}
use Rattle.facts.specs.Signed.{sum_size}
use Rattle.facts.specs.Result.{Read}
use Rattle.preserved.specs.ResultAfter.{after, after_each}
use Rattle.preserved.specs.ResultFitsRanges.{new_put}
use Rattle.preserved.specs.ResultFitsRows.{Small, account_left_fits, broker_left_fits, cash_fits_holds, history_fits_holds}
use Rattle.preserved.specs.ResultFitsRows.{lot_fits_holds, lot_history_fits, lot_left_fits, settlement_fits_holds, summary_fits}
use Rattle.preserved.specs.ResultFitsRows.{summary_left_fits, trade_fits}
use Rattle.preserved.specs.ResultLots.{fresh_some, not_gone}
use Rattle.preserved.specs.ResultLotsSides.{left_size, signed_size}
use Rattle.preserved.specs.ResultLotsSum.{Walked, left_most, more_left}
use Rattle.preserved.specs.ResultEach.{Each, closing_of, each_write, lot_after, opening_of, summary_after}

-- ---- a row of a kind fits where it obeys the kind's rule
pub fits_as : (k : ℕ) (x : Row) → x.kind ≡ k → get_or rules k (λ (s : Row). false) x ≡ true → Fits x
fits_as k x e h = (means_fits x).shows (sym (as_kind k x e) ∙ h)

module _ {rs : List Row} {t summary account broker : Row} {cs : List Closing}
    (r : Read rs t summary account broker cs) (n : Sums)
    (space : length (added t summary cs n) ≤ count (same_row nothing) rs) (v : Walked rs t summary cs n)
    (q : Small broker n) where
  rule_of : (k : ℕ) (x : Row) → Memᴰ x rs → x.kind ≡ k → get_or rules k (λ (s : Row). false) x ≡ true
  rule_of k x m e = as_kind k x e ∙ (means_fits x).holds (((means_sound rs).shows r.good).s1 x m)

  trade_fit : Trade t
  trade_fit = (means_trade t).shows (rule_of kind_trade t r.t_held r.t_kind)

  lot_fit : (c : Closing) → Memᴰ c cs → Lot c.lot
  lot_fit c m = (means_lot c.lot).shows (rule_of kind_lot c.lot (r.c_held c m).0 (r.c_held c m).1)

  -- the summary stays far from the ends of its range
  summed_near : nat_abs (summed_shares t summary) ≤ 9_000_000_000_000_000_000
  summed_near =
      let a = sum_size (to_z w64 summary.m1) (signed t.form t.n1) in
      let b = signed_size (buys t.form) t.n1 in
      let c = v.near in
      let d = v.most in
      omega arith

  some_left : eqb n.left 0 ≡ false → 1 ≤ n.left
  some_left e = let h = eqb-false n.left 0 e in omega arith

  closing_fits : (c : Closing) → Memᴰ c cs → Fits (closing_of t c)
  closing_fits c m =
      let w = v.closed c m in
      let l = (lot_fit c m).0.0.0 in
      let z = left_size (buys t.form) (size c.lot - c.shares) in
      let a = w.most in
      let b = w.some in
      let d = w.within in
      lot_history_fits t trade_fit c.lot.id (to_z w64 c.lot.m1) (left_of t.form c) l.2.2.2.2.2.0
      l.2.2.2.2.2.1 a (omega arith) (λ e. omega arith)

  left_fits : (c : Closing) → Memᴰ c cs → reduced c ≡ true → Fits (lot_after t c)
  left_fits c m e =
      let z = left_size (buys t.form) (size c.lot - c.shares) in
      let a = (v.closed c m).most in
      let b = more_left r n space v c m e in
      fits_as kind_lot (lot_after t c) (r.c_held c m).1
      ((means_lot (lot_after t c)).holds
      (lot_left_fits c.lot (left_of t.form c) (lot_fit c m) (omega arith) (omega arith)))

  opening_fits : 1 ≤ n.left → Fits (opening_of t n)
  opening_fits h =
      let l = trade_fit.0.0.0 in
      let z = signed_size (buys t.form) n.left in
      let a = left_most r n space v in
      lot_history_fits t trade_fit t.id (pos 0) (signed t.form n.left) l.2.2.2.2.2.0
      l.2.2.2.2.2.1 (omega arith) (omega arith) (λ e. omega arith)

  follows_fits : is kind_free summary ≡ false → gone (summed_shares t summary) ≡ false → Fits (summary_after t summary)
  follows_fits e g =
      let h = r.s_held e in
      fits_as kind_summary (summary_after t summary) h.1
      ((means_summary (summary_after t summary)).holds
      (summary_left_fits summary (summed_shares t summary)
      ((means_summary summary).shows (rule_of kind_summary summary h.0 h.1)) summed_near
      (not_gone (summed_shares t summary) g)))

  all_fit : Each t summary account cs n (λ (w : Row × Row). Fits w.1)
  all_fit = record {
    closed = closing_fits;
    opened = λ z. opening_fits (some_left z);
    lot = λ z.
        lot_fits_holds t trade_fit n q.price_least q.price_most q.time_most (some_left z) (left_most r n space v);
    begun = λ z. summary_fits t trade_fit (summed_shares t summary) summed_near (fresh_some r n space v z);
    history = history_fits_holds t trade_fit n.time q.time_most;
    settled = settlement_fits_holds t trade_fit n.amount n.time q.amount_most q.time_most;
    paid = λ z. cash_fits_holds t trade_fit n.amount n.time q.amount_most q.time_most;
    less = left_fits;
    summed = follows_fits;
    balanced =
        fits_as kind_account (holding account n.balance) r.a_kind
        ((means_account (holding account n.balance)).holds
        (account_left_fits account n.balance
        ((means_account account).shows (rule_of kind_account account r.a_held r.a_kind)) q.balance_most));
    trade =
        fits_as kind_trade (trade_write t n).1 r.t_kind
        ((means_trade (trade_write t n).1).holds
        (trade_fits t trade_fit n q.price_least q.price_most q.time_most q.commission_most q.tax_most));
    freed = λ c m. new_put [];
    emptied = λ z. new_put [];
  }

  pub s1_after : S1 (after r n space)
  s1_after =
      after_each r n space Fits ((means_sound rs).shows r.good).s1
      (each_write r n (λ (w : Row × Row). Fits w.1) all_fit
      (fits_as kind_broker (broker_write broker n).1 r.b_kind
      ((means_broker (broker_write broker n).1).holds
      (broker_left_fits broker n ((means_broker broker).shows (rule_of kind_broker broker r.b_held r.b_kind))
      q.trades_most q.total_most))))
