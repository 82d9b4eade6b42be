-- A result that is accepted leaves S1 and S8. Assumes nothing.
use Rattle.std.specs.Prelude.{◌≡◌, true, ◌&&◌, List, ◌+◌, ◌*◌, ◌≤◌, leb, nat_abs, length}
use Rattle.std.proofs.Common.{mul-le-mul, leb-true}
use Rattle.laws.specs.All.{All}
use Rattle.laws.specs.Tests.{and_left, and_right}
use Rattle.record.specs.declared.row.Row.{Row}
use Rattle.rules.specs.Meaning.{means_result_input}
use Rattle.rules.specs.Ranges.{broker_trades, commission_total, fee, money_most, price_most, shares_most}
use Rattle.rules.specs.Rules.{result_input}
use Rattle.model.specs.Band.{commission_rate}
use Rattle.model.specs.Names.{a_broker}
use Rattle.model.specs.Result.{figures, posting, view, sums_of}
use Rattle.model.specs.Rows.{found, most_records}
use Rattle.model.specs.Sound.{sound}
use Rattle.model.specs.SoundMeans.{S1, S8}
use Rattle.facts.specs.Most.{price_fits, charge_near, rate_near, rates_near, shares_near}
use Rattle.preserved.specs.ResultBase.{Accepted}
use Rattle.preserved.specs.ResultFits.{s1_after}
use Rattle.preserved.specs.ResultFitsFigures.{commission_in_range, settlement_in_range, sold_in_range, tax_in_range}
use Rattle.preserved.specs.ResultFitsRows.{Small}
use Rattle.preserved.specs.ResultLeft.{read, result_leaves, space}
use Rattle.preserved.specs.ResultLots.{s8_after}
use Rattle.preserved.specs.ResultLotsWalk.{lot_fits_holds, walked}

module _ (rs : List Row) (input : Row) (good : sound rs ≡ true) (right : result_input input ≡ true)
    (few : length rs ≤ most_records) (ok : Accepted rs input) where
  -- ---- what it reads is in its range, the lots, too
  prices_near : All (λ (l : Row). l.n1 ≤ price_most) (view rs input).lots
  unfolding view
  prices_near l m =
      let t = (view rs input).trade in
      (lot_fits_holds rs good t.form t.flags t.party t.symbol l m).0.0.0.2.2.2.2.2.2.2.1

  -- ---- and so is what it works out
  commission_most : (figures input (view rs input)).commission ≤ fee.high
  unfolding figures
  commission_most =
      let v = view rs input in
      commission_in_range (commission_rate v.band) v.trade.n1 input.n1 (rate_near rs input good) (shares_near rs input good)
      (price_fits input right)

  tax_most : (figures input (view rs input)).tax ≤ fee.high
  unfolding figures
  tax_most =
      let v = view rs input in
      let t = v.trade in
      let price = price_fits input right in
      let sold = sold_in_range t.form input.n1 t.n1 v.lots price prices_near (shares_near rs input good) in
      tax_in_range v.account.form v.rates _ _ (rates_near rs input good) sold

  amount_most : nat_abs (figures input (view rs input)).settlement ≤ money_most
  unfolding figures
  amount_most =
      let v = view rs input in
      let t = v.trade in
      settlement_in_range t.form v.account.form (t.n1 * input.n1) t.n4 _ _
      (mul-le-mul {n₂ = shares_most} (shares_near rs input good) (price_fits input right)) (charge_near rs input good)
      commission_most tax_most

  small : Small (found (a_broker (view rs input).account.n1) rs) (sums_of input (figures input (view rs input)))
  small =
      let f = figures input (view rs input) in
      let b = found (a_broker (view rs input).account.n1) rs in
      let a1 = leb (nat_abs f.balance) money_most in
      let a2 = leb (b.n1 + 1) broker_trades.high in
      let a3 = leb (b.m1 + f.commission) commission_total.high in
      let both = and_left (a1 && a2) a3 ok.within in
      let said = (means_result_input input).shows right in
      record {
        price_least = said.2.2.2.2.2.2.2.0;
        price_most = said.2.2.2.2.2.2.2.1;
        time_most = said.2.2.2.2.2.2.2.2.2.2.2.2.2.1;
        commission_most = commission_most;
        tax_most = tax_most;
        amount_most = amount_most;
        balance_most = leb-true (nat_abs f.balance) money_most (and_left a1 a2 both);
        trades_most = leb-true (b.n1 + 1) broker_trades.high (and_right a1 a2 both);
        total_most = leb-true (b.m1 + f.commission) commission_total.high (and_right (a1 && a2) a3 ok.within);
      }

  pub s1_result : S1 (result_leaves rs input good ok)
  unfolding posting
  s1_result =
      s1_after (read rs input good ok) (sums_of input (figures input (view rs input))) (space rs input good ok)
      (walked rs input good few ok.live ok.sent) small

  pub s8_result : S8 (result_leaves rs input good ok)
  unfolding posting
  s8_result =
      s8_after (read rs input good ok) (sums_of input (figures input (view rs input))) (space rs input good ok)
      (walked rs input good few ok.live ok.sent) s1_result
