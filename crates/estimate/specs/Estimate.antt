-- What an order works out from what it read, as the code has it. Assumes nothing.
use Rattle.std.specs.Prelude.{◌≡◌, Bool, true, false, cond, List, ℕ, ◌≤◌, ◌<◌, leb, pos, length}
use Rattle.std.proofs.Common.{le-leb}
use Rattle.std.proofs.lemmas.Bool.{lt-leb}
use Rattle.record.specs.Codes.{tms}
use Rattle.record.specs.Signed.{up}
use Rattle.record.specs.declared.row.Row.{Row}
use Rattle.units.specs.Units.{cents}
use Rattle.kinds.specs.declared.inputs.OrderInput.{OrderInput}
use Rattle.kinds.specs.declared.rows.Security.{Security}
use Rattle.units.specs.declared.Cents.{Cents}
use Rattle.units.specs.declared.Price.{Price}
use Rattle.rules.specs.Ranges.{price_most}
use Rattle.model.specs.Band.{commission_rate}
use Rattle.model.specs.Lots.{closings, lots_for}
use Rattle.model.specs.Lots
use Rattle.model.specs.Money.{buys, commission_of, tax_of, untaxed}
use Rattle.walk.specs.Walk.{made}
use Rattle.walk.specs.declared.Walk.{Walk}
use Rattle.estimate.specs.declared.figures.Estimate.{Estimate}
use Rattle.estimate.specs.declared.terms.Terms.{Terms}
use Rattle.estimate.specs.Terms.{Fits, Ranged}

abbrev pub used_price : OrderInput → Security → Price
used_price i s = record { 0 = cond (leb i.trade_type tms) s.last_price.0 i.bid.0 }

abbrev lots : List Row → OrderInput → List Row
lots rs i = lots_for rs i.trade_type i.flags i.account.0 i.symbol

-- the walk of the rules, and the lots that they close counted
unfoldable pub walk_of : List Row → OrderInput → Price → Walk
walk_of rs i price =
    made (buys i.trade_type) price (Lots.walk i.trade_type price.0 (up i.shares.0) (lots rs i))
    (length (closings (up i.shares.0) (lots rs i)))

unfoldable pub estimate_of : List Row → OrderInput → Terms → Estimate
estimate_of rs i t =
    let price = used_price i t.paper.row in
    let w = walk_of rs i price in
    let status = t.holder.row.tax_status in
    record {
      price = price;
      walk = w;
      tax = cents (pos (tax_of status t.rates.0 (up w.bought.0) (up w.sold.0)));
      untaxed = untaxed status t.rates.0 (up w.bought.0) (up w.sold.0);
      commission = cents (pos (commission_of (commission_rate t.band) (up i.shares.0) price.0));
    }

-- ---- the price used
pub price_last : (i : OrderInput) (s : Security) → i.trade_type ≤ tms → s.last_price ≡ used_price i s
price_last i s h = rw (le-leb i.trade_type tms h)

pub price_bid : (i : OrderInput) (s : Security) → tms < i.trade_type → i.bid ≡ used_price i s
price_bid i s h = rw (lt-leb i.trade_type tms h)

pub price_fits : (i : OrderInput) (t : Terms) {p : Price} → Fits i → Ranged t → p ≡ used_price i t.paper.row
    → p.0 ≤ price_most
price_fits i t f r e = rw e (go (leb i.trade_type tms))
  where
    go : (m : Bool) → cond m t.paper.row.last_price.0 i.bid.0 ≤ price_most
    go true = r.price
    go false = f.bid

-- ---- each value as it is worked out
pub estimate_is : (rs : List Row) (i : OrderInput) (t : Terms) {p : Price} {w : Walk} {x k : Cents} {u : Bool} {z : ℕ}
    → p ≡ used_price i t.paper.row
    → w ≡ walk_of rs i p
    → x ≡ cents (pos (tax_of t.holder.row.tax_status t.rates.0 (up w.bought.0) (up w.sold.0)))
    → u ≡ untaxed t.holder.row.tax_status t.rates.0 (up w.bought.0) (up w.sold.0)
    → z ≡ commission_rate t.band
    → k ≡ cents (pos (commission_of z (up i.shares.0) p.0))
    → ◌≡◌ {A = Estimate} (record { price = p; walk = w; tax = x; untaxed = u; commission = k }) (estimate_of rs i t)
unfolding estimate_of
estimate_is rs i t e g x u z k = rw (k, z, u, x, g, e)
