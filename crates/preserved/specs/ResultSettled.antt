-- A result that is done leaves S9: the trade has its settlement now, and cash where it is a cash trade, of one amount.
-- Assumes nothing.
use Rattle.std.specs.Prelude.{◌≡◌, refl, Bool, true, false, cond, ℕ, ◌≤◌, eqb, length}
use Rattle.std.proofs.Common.{sym, ap, ◌∙◌, arith, eq-eqb}
use mathlib.Core.List.{List, Memᴰ}
use Rattle.std.proofs.lemmas.Bool.{eqb-false}
use Rattle.laws.specs.All.{All}
use Rattle.laws.specs.Keep.{count_has}
use Rattle.laws.specs.Search.{bit, count}
use Rattle.laws.specs.Puts.{Fewer, Quiet}
use Rattle.record.specs.Codes.{completed, kind_cash, kind_settlement, kind_trade}
use Rattle.keys.specs.declared.Key.{Key}
use Rattle.record.specs.declared.row.Row.{Row}
use Rattle.keys.specs.Key.{among}
use Rattle.model.specs.Flags.{cash}
use Rattle.model.specs.Lots.{Closing}
use Rattle.model.specs.Names.{a_cash, a_settlement, a_summary, a_trade, by_id}
use Rattle.model.specs.Rows.{found, has_key, is, nothing, same_row}
use Rattle.model.specs.SoundMeans.{Each, S9}
use Rattle.model.specs.Result.{Sums, added}
use Rattle.facts.specs.Found.{own_number}
use Rattle.facts.specs.Names.{id_kinds}
use Rattle.facts.specs.Keys.{key_of_holds, kind_of_holds}
use Rattle.facts.specs.Result.{Read}
use Rattle.preserved.specs.Cases.{no}
use Rattle.preserved.specs.ResultAfter.{after_each, after_fewer, quiet_count, quiet_found}
use Rattle.preserved.specs.ResultBase.{all}
use Rattle.preserved.specs.ResultEach.{by_kind, cash_of, settlement_of}
use Rattle.preserved.specs.ResultFresh.{book, found_one, no_cash, no_settlement, one_key}
use Rattle.preserved.specs.ResultTrades.{cash_comes, each_trade, left, others, settlement_comes, trade_done}
use Rattle.preserved.specs.ResultTrades.{trade_other, unique}

flag_bit : (b : Bool) → cond b 1 0 ≡ bit b
flag_bit true = refl
flag_bit false = refl

module _ {rs : List Row} {t summary account broker : Row} {cs : List Closing}
    (r : Read rs t summary account broker cs) (n : Sums)
    (s_own : summary ≡ found (a_summary t.party t.symbol) rs)
    (space : length (added t summary cs n) ≤ count (same_row nothing) rs) where
  abbrev now : List Row
  now = left r n s_own space

  -- ---- settlements and cash rows of other trades
  settlements_quiet : (i : ℕ) → (t.id ≡ i → ⊥) → All (Quiet (has_key (a_settlement i))) (all r n)
  settlements_quiet = others r n s_own space kind_settlement refl refl refl refl refl

  cash_quiet : (i : ℕ) → (t.id ≡ i → ⊥) → All (Quiet (has_key (a_cash i))) (all r n)
  cash_quiet = others r n s_own space kind_cash refl refl refl refl refl

  -- a settlement or a cash row that was there is one of another trade
  not_own : (k : ℕ) → among k id_kinds ≡ true → count (has_key (by_id k t.id)) rs ≡ 0 → (x : Row) → Memᴰ x rs
      → x.kind ≡ k → t.id ≡ x.id → ⊥
  not_own k known none x m e i =
      let own = own_number k known t.id x (eq-eqb x.kind k e) (sym i) in
      let some = count_has (has_key (by_id k t.id)) x rs m own in
      omega arith

  -- ---- those of this trade
  settlement_own : has_key (a_settlement t.id) (settlement_of t n) ≡ true
  settlement_own = own_number kind_settlement refl t.id (settlement_of t n) refl refl

  settlement_found : found (a_settlement t.id) now ≡ settlement_of t n
  settlement_found =
      found_one now (unique r n s_own space) (a_settlement t.id) (settlement_of t n) (λ z. omega arith)
      (settlement_comes r n s_own space) settlement_own

  one_settlement : count (has_key (a_settlement t.id)) now ≡ 1
  one_settlement =
      let k = a_settlement t.id in
      let some = count_has (has_key k) (settlement_of t n) now (settlement_comes r n s_own space) settlement_own in
      let most = one_key now (unique r n s_own space) k (λ z. omega arith) in
      omega arith

  cash_rows : count (has_key (a_cash t.id)) now ≡ cond (cash t.flags) 1 0
  cash_rows = go (cash t.flags) refl
    where
      k : Key
      k = a_cash t.id

      go : (b : Bool) → cash t.flags ≡ b → count (has_key k) now ≡ cond b 1 0
      go true e =
          let own = own_number kind_cash refl t.id (cash_of t n) refl refl in
          let some = count_has (has_key k) (cash_of t n) now (cash_comes r n s_own space e) own in
          let most = one_key now (unique r n s_own space) k (λ z. omega arith) in
          omega arith
      go false e =
          let none = no_cash r n in
          let few =
          after_fewer r n space (has_key k)
          (by_kind r n (Fewer (has_key k)) kind_cash (has_key k) (key_of_holds k) refl
          (λ w a b h. no b h) (no refl) (no refl) (λ q z. no e z) (no refl) (no refl) (no refl))
          in
          omega arith

  -- ---- S9
  trades_settled : Each kind_trade
      (λ (x : Row). count (has_key (a_settlement x.id)) now ≡ bit (eqb x.status completed))
      now
  trades_settled =
      each_trade r n s_own space
      (λ (x : Row). count (has_key (a_settlement x.id)) now ≡ bit (eqb x.status completed))
      one_settlement
      (λ x m k ne.
      quiet_count r n space (has_key (a_settlement x.id)) (settlements_quiet x.id ne) ∙ ((book r n).s9 x m).0.0 k)

  abbrev Settled : Row → Type 0
  Settled x =
      x.kind ≡ kind_settlement
      → (x.flags ≡ bit (cash (found (a_trade x.id) now).flags)) × (count (has_key (a_cash x.id)) now ≡ x.flags)

  settlements_right : All Settled now
  settlements_right =
      after_each r n space Settled
      (λ x m k.
      let was = ((book r n).s9 x m).0.1 k in
      let ne = not_own kind_settlement refl (no_settlement r n) x m k in (
        was.0 ∙ ap (λ (y : Row). bit (cash y.flags)) (sym (trade_other r n s_own space x.id ne)),
        quiet_count r n space (has_key (a_cash x.id)) (cash_quiet x.id ne) ∙ was.1,
      ))
      (by_kind r n (λ (w : Row × Row). Settled w.1) kind_settlement (is kind_settlement)
      (kind_of_holds kind_settlement) refl
      (λ w a b k. absurd (eqb-false w.1.kind kind_settlement b k)) (no refl)
      (λ e k. (
        flag_bit (cash t.flags) ∙ ap (λ (y : Row). bit (cash y.flags)) (sym (trade_done r n s_own space)),
        cash_rows,
      ))
      (no refl) (no refl) (no refl) (no refl))

  abbrev Paid : Row → Type 0
  Paid x =
      x.kind ≡ kind_cash
      → ((found (a_settlement x.id) now).flags ≡ 1) × ((found (a_settlement x.id) now).m1 ≡ x.m1)

  cash_right_holds : All Paid now
  cash_right_holds =
      after_each r n space Paid
      (λ x m k.
      let was = ((book r n).s9 x m).1 k in
      let ne = not_own kind_cash refl (no_cash r n) x m k in
      let same = quiet_found r n space (a_settlement x.id) (settlements_quiet x.id ne) in
      (ap (λ (y : Row). y.flags) same ∙ was.0, ap (λ (y : Row). y.m1) same ∙ was.1))
      (by_kind r n (λ (w : Row × Row). Paid w.1) kind_cash (is kind_cash) (kind_of_holds kind_cash) refl
      (λ w a b k. absurd (eqb-false w.1.kind kind_cash b k)) (no refl) (no refl)
      (λ e z k. (
        ap (λ (y : Row). y.flags) settlement_found ∙ ap (λ (b : Bool). cond b 1 0) z,
        ap (λ (y : Row). y.m1) settlement_found,
      ))
      (no refl) (no refl) (no refl))

  pub settlements_left : S9 now
  settlements_left x m = ((trades_settled x m, settlements_right x m), cash_right_holds x m)
