-- The figures of a result, as the code has them; and that they are those of the rules, in a sound book in their ranges.
-- Assumes nothing.
use Rattle.std.specs.Prelude.{◌≡◌, true, cond, List, ◌*◌, ◌≤◌, ◌+ℤ◌, nat_abs, pos, length}
use Rattle.std.proofs.Common.{arith}
use Rattle.record.specs.Signed.{up}
use Rattle.record.specs.declared.row.Row.{Row}
use Rattle.kinds.specs.Inputs.{result_input_of}
use Rattle.kinds.specs.Kinds.{account_of, summary_of, trade_of}
use Rattle.units.specs.Units.{cents, shares}
use Rattle.kinds.specs.declared.inputs.ResultInput.{ResultInput}
use Rattle.rules.specs.Ranges.{charged, commission_part, money_most, price_most, shares_most, tax_part}
use Rattle.rules.specs.Rules.{result_input}
use Rattle.model.specs.Band.{commission_rate}
use Rattle.model.specs.Flags.{cash}
use Rattle.model.specs.Lots.{closings}
use Rattle.model.specs.Lots
use Rattle.model.specs.Money.{buys, commission_of, settlement_of, tax_of, untaxed}
use Rattle.model.specs.Result.{signed, view}
use Rattle.model.specs.Rows.{most_records}
use Rattle.model.specs.Sound.{sound}
use Rattle.facts.specs.Most.{balance_near, charge_near, price_fits, rate_near, rates_near, shares_near, summary_near}
use Rattle.money.specs.Amounts.{UpTo, up_to, value_most}
use Rattle.walk.specs.Walk.{Within, made}
use Rattle.walk.specs.declared.Walk.{Walk}
use Rattle.reading.specs.declared.terms.Terms.{Terms}
use Rattle.reading.specs.Terms.{terms_of}
use Rattle.figures.specs.declared.Figures.{Figures}

-- what is worked out, of what is read and the walk
unfoldable pub figures_by : ResultInput → Terms → Walk → Figures
figures_by i t w =
    let n = up t.trade.shares.0 in
    let form = t.trade.trade_type in
    let taxed = t.account.tax_status in
    let tax = tax_of taxed t.rates.0 (up w.bought.0) (up w.sold.0) in
    let commission = commission_of (commission_rate t.band) n i.price.0 in
    let s = settlement_of form taxed (n * i.price.0) (up t.trade.charge.0) commission tax in
    let before = t.account.balance.0 in
    record {
      walk = w;
      tax = cents (pos tax);
      untaxed = untaxed taxed t.rates.0 (up w.bought.0) (up w.sold.0);
      commission = cents (pos commission);
      settlement = cents s;
      balance = cents (cond (cash t.trade.flags) (before +ℤ s) before);
      shares = shares (t.summary.shares.0 +ℤ signed form n);
    }

-- in their ranges
pub record Ranged (i : ResultInput) (t : Terms) (w : Walk) : Type 0 where
  pub price : i.price.0 ≤ price_most
  pub count : UpTo shares_most t.trade.shares.0
  pub charge : UpTo charged.high t.trade.charge.0
  pub rates : t.rates.0 ≤ tax_part.high
  pub rate : commission_rate t.band ≤ commission_part.high
  pub balance : nat_abs t.account.balance.0 ≤ money_most
  pub holding : nat_abs t.summary.shares.0 ≤ money_most
  pub sold : up w.sold.0 ≤ value_most

-- ---- those of the rules
-- the walk over the lots that are read
unfoldable pub walk_of : List Row → Row → Walk
walk_of rs input =
    let v = view rs input in
    let t = v.trade in
    made (buys t.form) (record { 0 = input.n1 }) (Lots.walk t.form input.n1 t.n1 v.lots)
    (length (closings t.n1 v.lots))

unfoldable pub figures_of : List Row → Row → Figures
figures_of rs input = figures_by (result_input_of input) (terms_of rs input) (walk_of rs input)

pub ranged : (rs : List Row) (input : Row) {t : Terms} {w : Walk} → sound rs ≡ true → result_input input ≡ true
    → length rs ≤ most_records → t ≡ terms_of rs input → Within value_most w → Ranged (result_input_of input) t w
unfolding terms_of result_input_of trade_of account_of summary_of
ranged rs input {t} {w} good right few e h = rw e (record {
  price = price_fits input right;
  count = up_to shares_most (view rs input).trade.n1 (shares_near rs input good);
  charge = up_to charged.high (view rs input).trade.n4 (charge_near rs input good);
  rates = rates_near rs input good;
  rate = rate_near rs input good;
  balance = balance_near rs input good;
  holding = summary_near rs input good few;
  sold = let s = h.sold_most in omega arith;
})
