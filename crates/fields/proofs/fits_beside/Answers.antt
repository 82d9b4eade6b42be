-- Each kind goes to its own ranges and to what it asks beyond them, which are the table's by computation: `as_kind`;
-- a number above the kinds goes to none, `no_kind`. The kind is the record's first byte.
use Rattle.std.proofs.Common.{◌≡◌, Bool, ℕ, refl, sym, false, List, ◌∙◌, get_or}
use Rattle.laws.specs.Numbers.{missed}
use Rattle.record.specs.Grid.{decode}
use Rattle.record.specs.declared.row.Row.{Row}
use Rattle.kinds.specs.declared.limits.Beyond.{Beyond}
use Rattle.kinds.specs.declared.limits.Limits.{Limits}
use Rattle.rules.specs.Ranges.{Range, ranges}
use Rattle.rules.specs.Rules.{account_shape, as_kind, band_shape, broker_shape, cash_shape, charge_shape}
use Rattle.rules.specs.Rules.{customer_rate_shape, customer_shape, fits, free_shape, lot_history_shape, lot_shape}
use Rattle.rules.specs.Rules.{no_kind, obeys, permission_shape, request_shape, rules, security_shape, settlement_shape, shaped}
use Rattle.rules.specs.Rules.{summary_shape, tax_rate_shape, trade_history_shape, trade_shape}
use Rattle.fields.proofs.fits_beside.Goals as goal

listed : (k : ℕ) (b : List ℕ) (l : Limits) (u : Beyond) {x : Bool} {gs : List Range} → ranges l ≡ gs
    → x ≡ obeys (shaped (ranges l) u) (decode b) → get_or b 0 0 ≡ k
    → get_or rules k (λ (s : Row). false) (decode b) ≡ obeys (shaped gs u) (decode b) → x ≡ fits (decode b)
unfolding decode
listed k b l u e h is t = rw e at h ∙ sym t ∙ as_kind k _ is

pub returns-in-0 : goal.returns-in-0
unfolding free_shape
returns-in-0 c =
    listed 0 _ _ _ c.free.ensures c.fits_as.ensures c.in-0.is refl

pub returns-in-1 : goal.returns-in-1
unfolding broker_shape
returns-in-1 c =
    listed 1 _ _ _ c.broker.ensures c.fits_as-in-1.ensures c.in-1.is refl

pub returns-in-2 : goal.returns-in-2
unfolding customer_shape
returns-in-2 c =
    listed 2 _ _ _ c.customer.ensures c.fits_as-in-2.ensures c.in-2.is refl

pub returns-in-3 : goal.returns-in-3
unfolding tax_rate_shape
returns-in-3 c =
    listed 3 _ _ _ c.tax_rate.ensures c.fits_as-in-3.ensures c.in-3.is refl

pub returns-in-4 : goal.returns-in-4
unfolding customer_rate_shape
returns-in-4 c =
    listed 4 _ _ _ c.customer_rate.ensures c.fits_as-in-4.ensures c.in-4.is refl

pub returns-in-5 : goal.returns-in-5
unfolding account_shape
returns-in-5 c =
    listed 5 _ _ _ c.account.ensures c.fits_as-in-5.ensures c.in-5.is refl

pub returns-in-6 : goal.returns-in-6
unfolding security_shape
returns-in-6 c =
    listed 6 _ _ _ c.security.ensures c.fits_as-in-6.ensures c.in-6.is refl

pub returns-in-7 : goal.returns-in-7
unfolding band_shape
returns-in-7 c =
    listed 7 _ _ _ c.band.ensures c.fits_as-in-7.ensures c.in-7.is refl

pub returns-in-8 : goal.returns-in-8
unfolding charge_shape
returns-in-8 c =
    listed 8 _ _ _ c.charge.ensures c.fits_as-in-8.ensures c.in-8.is refl

pub returns-in-9 : goal.returns-in-9
unfolding trade_shape
returns-in-9 c =
    listed 9 _ _ _ c.trade.ensures c.fits_as-in-9.ensures c.in-9.is refl

pub returns-in-10 : goal.returns-in-10
unfolding request_shape
returns-in-10 c =
    listed 10 _ _ _ c.request.ensures c.fits_as-in-10.ensures c.in-10.is refl

pub returns-in-11 : goal.returns-in-11
unfolding trade_history_shape
returns-in-11 c =
    listed 11 _ _ _ c.trade_history.ensures c.fits_as-in-11.ensures c.in-11.is refl

pub returns-in-12 : goal.returns-in-12
unfolding lot_shape
returns-in-12 c =
    listed 12 _ _ _ c.lot.ensures c.fits_as-in-12.ensures c.in-12.is refl

pub returns-in-13 : goal.returns-in-13
unfolding summary_shape
returns-in-13 c =
    listed 13 _ _ _ c.summary.ensures c.fits_as-in-13.ensures c.in-13.is refl

pub returns-in-14 : goal.returns-in-14
unfolding lot_history_shape
returns-in-14 c =
    listed 14 _ _ _ c.lot_history.ensures c.fits_as-in-14.ensures c.in-14.is refl

pub returns-in-15 : goal.returns-in-15
unfolding settlement_shape
returns-in-15 c =
    listed 15 _ _ _ c.settlement.ensures c.fits_as-in-15.ensures c.in-15.is refl

pub returns-in-16 : goal.returns-in-16
unfolding cash_shape
returns-in-16 c =
    listed 16 _ _ _ c.cash.ensures c.fits_as-in-16.ensures c.in-16.is refl

pub returns-in-17 : goal.returns-in-17
unfolding permission_shape
returns-in-17 c =
    listed 17 _ _ _ c.permission.ensures c.fits_as-in-17.ensures c.in-17.is refl

pub returns-in_default : goal.returns-in_default
unfolding decode
returns-in_default c = no_kind _ (missed 18 _ (search rules))
