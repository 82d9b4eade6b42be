-- The lots and summaries after a result: each was there, or is of the trade's account and symbol; and the trade that a
-- lot names is completed and of the lot's account and symbol. Assumes nothing.
use Rattle.std.specs.Prelude.{◌≡◌, refl, true, false, ◌||◌, ◌⊎◌, ℕ, ◌≤◌, eqb, length}
use Rattle.std.proofs.Common.{sym, ap, subst, ◌∙◌, inl, inr, eq-eqb, eqb-true}
use mathlib.Core.List.{List, Memᴰ}
use Rattle.laws.specs.Search.{count}
use Rattle.laws.specs.Tests.{or_left, or_right}
use Rattle.record.specs.Codes.{completed, kind_account, kind_broker, kind_cash, kind_free, kind_lot, kind_lot_history}
use Rattle.record.specs.Codes.{kind_settlement, kind_summary, kind_trade, kind_trade_history}
use Rattle.record.specs.declared.row.Row.{Row}
use Rattle.model.specs.Lots.{Closing}
use Rattle.model.specs.Names.{a_trade}
use Rattle.model.specs.Rows.{found, is, nothing, same_row}
use Rattle.model.specs.Result.{Sums, added, broker_write, trade_write, holding}
use Rattle.facts.specs.Result.{Read}
use Rattle.preserved.specs.Cases.{no}
use Rattle.preserved.specs.ResultAfter.{after, after_each}
use Rattle.preserved.specs.ResultEach.{Each, cash_of, closing_of, each_write, history_of, lot_opened, opening_of}
use Rattle.preserved.specs.ResultEach.{settlement_of}
use Rattle.preserved.specs.ResultFresh.{book, not_done}
use Rattle.preserved.specs.ResultLotsSigns.{lot_party, lot_symbol}
use Rattle.preserved.specs.ResultLotsSum.{Walked}
use Rattle.preserved.specs.ResultLotsSummary.{key_party, key_symbol, summary_own}
use Rattle.preserved.specs.ResultTrades.{trade_done, trade_other}

module _ {rs : List Row} {t summary account broker : Row} {cs : List Closing}
    (r : Read rs t summary account broker cs) (n : Sums)
    (space : length (added t summary cs n) ≤ count (same_row nothing) rs) (v : Walked rs t summary cs n) where
  abbrev Names : Row → Row → Type 0
  Names l x = ((x.status ≡ completed) × (x.party ≡ l.party)) × (x.symbol ≡ l.symbol)

  abbrev TradeRight : Row → Type 0
  TradeRight l = Names l (found (a_trade l.id) (after r n space))

  -- a lot's trade is completed, so that it is not the one that the result completes
  old_right : (l : Row) → Memᴰ l rs → l.kind ≡ kind_lot → TradeRight l
  old_right l m k =
      let w = (((book r n).s8 l m).0 k).0.0 in
      let other = trade_other r n (sym v.own) space l.id (λ q. not_done r n l.id q w.0.0) in
      subst (Names l) (sym other) w

  abbrev Held : Row → Type 0
  Held x = Memᴰ x rs ⊎ ((x.party ≡ t.party) × (x.symbol ≡ t.symbol))

  abbrev Origin : Row → Type 0
  Origin x = (is kind_lot x || is kind_summary x) ≡ true → Held x × (is kind_lot x ≡ true → TradeRight x)

  other : (j : ℕ) (x : Row) → x.kind ≡ j → (eqb j kind_lot || eqb j kind_summary) ≡ false → Origin x
  other j x k e h = no (ap (λ (i : ℕ). eqb i kind_lot || eqb i kind_summary) k ∙ e) h

  come : Each t summary account cs n (λ (w : Row × Row). Origin w.1)
  come = record {
    closed = λ c m. other kind_lot_history (closing_of t c) refl refl;
    opened = λ z. other kind_lot_history (opening_of t n) refl refl;
    lot = λ z h. (
      inr (refl, refl),
      λ k. subst (Names (lot_opened t n)) (sym (trade_done r n (sym v.own) space)) ((refl, refl), refl),
    );
    begun = λ z h. (inr (refl, refl), λ k. no refl k);
    history = other kind_trade_history (history_of t n) refl refl;
    settled = other kind_settlement (settlement_of t n) refl refl;
    paid = λ z. other kind_cash (cash_of t n) refl refl;
    less = λ c m z h.
        let l = r.c_held c m in
        let e = (v.closed c m).held in (
          inr (lot_party t.party t.symbol c.lot e, lot_symbol t.party t.symbol c.lot e),
          λ k. old_right c.lot l.0 l.1,
        );
    summed = λ z g h.
        let e = summary_own r n space v z in (
          inr (key_party t.party t.symbol summary e, key_symbol t.party t.symbol summary e),
          λ k. no (ap (λ (i : ℕ). eqb i kind_lot) (r.s_held z).1) k,
        );
    balanced = other kind_account (holding account n.balance) r.a_kind refl;
    trade = other kind_trade (trade_write t n).1 r.t_kind refl;
    freed = λ c m. other kind_free nothing refl refl;
    emptied = λ z. other kind_free nothing refl refl;
  }

  origin : (x : Row) → Memᴰ x (after r n space) → Origin x
  origin =
      after_each r n space Origin (λ x m h. (inl m, λ k. old_right x m (eqb-true x.kind kind_lot k)))
      (each_write r n (λ (w : Row × Row). Origin w.1) come
      (other kind_broker (broker_write broker n).1 r.b_kind refl))

  pub lot_origin : (l : Row) → Memᴰ l (after r n space) → l.kind ≡ kind_lot → Held l × TradeRight l
  lot_origin l m k =
      let e = eq-eqb l.kind kind_lot k in
      let o = origin l m (or_left (is kind_lot l) (is kind_summary l) e) in
      (o.0, o.1 e)

  pub summary_origin : (s : Row) → Memᴰ s (after r n space) → s.kind ≡ kind_summary → Held s
  summary_origin s m k =
      (origin s m (or_right (is kind_lot s) (is kind_summary s) (eq-eqb s.kind kind_summary k))).0
