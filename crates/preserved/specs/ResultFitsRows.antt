-- Each row that comes with a result fits the grid. Assumes nothing.
use Rattle.std.specs.Prelude.{◌≡◌, refl, Bool, true, false, cond, [], ◌∷◌, ℕ, ◌+◌, ◌≤◌, ℤ, nat_abs}
use Rattle.std.proofs.Common.{inr, arith}
use Rattle.record.specs.Codes.{completed, kind_cash, kind_lot, kind_lot_history, kind_settlement, kind_summary}
use Rattle.record.specs.Codes.{kind_trade_history}
use Rattle.record.specs.Symbol.{symbol_number}
use Rattle.record.specs.declared.row.Row.{Row}
use Rattle.rules.specs.Meaning.{Account, Broker, Cash, Lot, LotHistory, Settlement, Summary, Trade, TradeHistory}
use Rattle.rules.specs.Ranges.{◌⋯◌, any32, any64, broker_trades, cash_flag, commission_total, due_time, fee, flags, id}
use Rattle.rules.specs.Ranges.{kind, m1, m2, money_most, n1, n2, n3, number, party, price, price_most, shares_most}
use Rattle.rules.specs.Ranges.{status, symbol, time, trade_number, trade_status, values, when}
use Rattle.rules.specs.Rules.{account_limits, broker_limits, lot_limits, summary_limits, trade_limits}
use Rattle.model.specs.Edit.{bits32, bits64}
use Rattle.model.specs.Flags.{cash}
use Rattle.model.specs.Money.{buys}
use Rattle.model.specs.Result.{settlement_seconds, signed, Sums, broker_write, trade_write, cash_row, holding, lot_history}
use Rattle.model.specs.Result.{new_summary, settlement_row}
use Rattle.model.specs.History.{history_row}
use Rattle.preserved.specs.ResultFitsRanges.{Field, all_put, bits_most, bits_none, field, low_apart, low_most}
use Rattle.preserved.specs.ResultFitsRanges.{low_tell, new_put}
use Rattle.preserved.specs.ResultLotsSides.{bits_tell, signed_size}
use Rattle.preserved.specs.ResultEach.{lot_opened}

-- what a result writes is in its range
pub record Small (broker : Row) (n : Sums) : Type 0 where
  pub price_least : 1 ≤ n.price
  pub price_most : n.price ≤ price_most
  pub time_most : n.time ≤ time.high
  pub commission_most : n.commission ≤ fee.high
  pub tax_most : n.tax ≤ fee.high
  pub amount_most : nat_abs n.amount ≤ money_most
  pub balance_most : nat_abs n.balance ≤ money_most
  pub trades_most : broker.n1 + 1 ≤ broker_trades.high
  pub total_most : broker.m1 + n.commission ≤ commission_total.high

abbrev pub of : ℕ → Field
of k = field kind k (k ⋯ k) (omega arith) (omega arith)

abbrev bits : (z : ℤ) → nat_abs z ≤ 9_000_000_000_000_000_000 → Field
bits z h = field m1 (bits64 z) any64 (omega arith) (bits_most z h)

-- ---- new rows, of a trade that fits
module _ (t : Row) (fit : Trade t) where
  abbrev own : Field
  own = field id t.id trade_number fit.0.0.0.2.2.2.2.2.0 fit.0.0.0.2.2.2.2.2.1

  abbrev holder : Field
  holder = field party t.party number fit.0.0.0.2.2.2.2.0 fit.0.0.0.2.2.2.2.1

  abbrev traded : Field
  traded = field symbol (symbol_number t.symbol) any64 (omega arith) fit.0.0.0.2.2.2.2.2.2.1

  pub history_fits_holds : (at : ℕ) → at ≤ time.high → TradeHistory (history_row completed t.id at)
  history_fits_holds at h =
      new_put (
      of kind_trade_history ∷ field status completed trade_status (omega arith) (omega arith) ∷ own
      ∷ field when at time (omega arith) h ∷ [])

  flag_most : (b : Bool) → cond b 1 0 ≤ cash_flag.high
  flag_most true = omega arith
  flag_most false = omega arith

  pub settlement_fits_holds : (z : ℤ) (at : ℕ) → nat_abs z ≤ money_most → at ≤ time.high → Settlement (settlement_row t z at)
  settlement_fits_holds z at m h = (
    new_put (
        of kind_settlement
        ∷ field flags (cond (cash t.flags) 1 0) cash_flag (omega arith) (flag_most (cash t.flags))
        ∷ own ∷ bits z (omega arith)
        ∷ field when (at + settlement_seconds) due_time (omega arith) (omega arith) ∷ []),
    rw (bits_tell z (omega arith)) m,
  )

  pub cash_fits_holds : (z : ℤ) (at : ℕ) → nat_abs z ≤ money_most → at ≤ time.high → Cash (cash_row t z at)
  cash_fits_holds z at m h = (
    new_put (of kind_cash ∷ own ∷ bits z (omega arith) ∷ field when at time (omega arith) h ∷ []),
    rw (bits_tell z (omega arith)) m,
  )

  -- a lot history of a lot that fits
  pub lot_history_fits : (i : ℕ) (a b : ℤ) → 1 ≤ i → i ≤ trade_number.high → nat_abs a ≤ shares_most
      → nat_abs b ≤ shares_most → (nat_abs a ≡ nat_abs b → ⊥) → LotHistory (lot_history i t.id a b)
  lot_history_fits i a b l m h k f = (
    (
      (
        new_put (
            of kind_lot_history ∷ field id i trade_number l m
            ∷ field m2 t.id trade_number own.least own.most
            ∷ field n1 (bits32 a) any32 (omega arith) (low_most a h)
            ∷ field n2 (bits32 b) any32 (omega arith) (low_most b k) ∷ []),
        low_apart a b h k f,
      ),
      rw (low_tell a h) h,
    ),
    rw (low_tell b k) k,
  )

  pub lot_fits_holds : (n : Sums) → 1 ≤ n.price → n.price ≤ price_most → n.time ≤ time.high → 1 ≤ n.left
      → n.left ≤ shares_most → Lot (lot_opened t n)
  lot_fits_holds n a b h k m =
      let z = signed t.form n.left in
      let s = signed_size (buys t.form) n.left in (
        (
          (
            new_put (
                of kind_lot ∷ holder ∷ own ∷ traded ∷ field n1 n.price price a b ∷ bits z (omega arith)
                ∷ field when n.time time (omega arith) h ∷ []),
            bits_none z (omega arith) (omega arith),
          ),
          rw (bits_tell z (omega arith)) (omega arith),
        ),
        fit.1,
      )

  pub summary_fits : (z : ℤ) → nat_abs z ≤ 9_000_000_000_000_000_000 → 1 ≤ nat_abs z → Summary (new_summary t z)
  summary_fits z h k =
      ((new_put (of kind_summary ∷ holder ∷ traded ∷ bits z h ∷ []), bits_none z h k), fit.1)

  pub trade_fits : (n : Sums) → 1 ≤ n.price → n.price ≤ price_most → n.time ≤ time.high → n.commission ≤ fee.high
      → n.tax ≤ fee.high → Trade (trade_write t n).1
  trade_fits n a b h k m = (
    (
      (
        all_put (values t) trade_limits fit.0.0.0 (
            field status completed trade_status (omega arith) (omega arith)
            ∷ field n3 n.price (0 ⋯ price_most) (omega arith) b
            ∷ field m1 n.commission fee (omega arith) k
            ∷ field m2 n.tax fee (omega arith) m
            ∷ field when n.time time (omega arith) h ∷ []),
        (λ e. refl, λ e z. omega arith),
      ),
      inr refl,
    ),
    fit.1,
  )

-- ---- rows that are changed
pub lot_left_fits : (l : Row) (z : ℤ) → Lot l → 1 ≤ nat_abs z → nat_abs z ≤ shares_most → Lot (holding l z)
lot_left_fits l z fit a b = (
  (
    (all_put (values l) lot_limits fit.0.0.0 (bits z (omega arith) ∷ []), bits_none z (omega arith) a),
    rw (bits_tell z (omega arith)) b,
  ),
  fit.1,
)

pub summary_left_fits : (s : Row) (z : ℤ) → Summary s → nat_abs z ≤ 9_000_000_000_000_000_000 → 1 ≤ nat_abs z
    → Summary (holding s z)
summary_left_fits s z fit h k =
    ((all_put (values s) summary_limits fit.0.0 (bits z h ∷ []), bits_none z h k), fit.1)

pub account_left_fits : (a : Row) (z : ℤ) → Account a → nat_abs z ≤ money_most → Account (holding a z)
account_left_fits a z fit m =
    (all_put (values a) account_limits fit.0 (bits z (omega arith) ∷ []), rw (bits_tell z (omega arith)) m)

pub broker_left_fits : (b : Row) (n : Sums) → Broker b → b.n1 + 1 ≤ broker_trades.high
    → b.m1 + n.commission ≤ commission_total.high → Broker (broker_write b n).1
broker_left_fits b n fit h k =
    all_put (values b) broker_limits fit (
    field n1 (b.n1 + 1) broker_trades (omega arith) h
    ∷ field m1 (b.m1 + n.commission) commission_total (omega arith) k ∷ [])
