-- Of each call: the tests of its own lines mean their conditions, in turn, and its status is that of the first that
-- passes.
use Rattle.std.specs.Prelude.{◌≡◌, Bool, not, List, ◌∷◌, ℕ, ◌+◌, leb, nat_abs, length}
use Rattle.std.proofs.Math.Path.{refl}
use Rattle.std.proofs.Common.{sym, ap, ◌∙◌}
use Rattle.std.proofs.Math.Bool.{true, false}
use Rattle.std.proofs.lemmas.Bool.{not-false}
use Rattle.laws.specs.Tests.{Means, means_eq}
use Rattle.record.specs.Codes.{submitted}
use Rattle.record.specs.Grid.{decode}
use Rattle.record.specs.declared.row.Row.{Row}
use Rattle.rules.specs.Ranges.{broker_trades, commission_total, money_most, trade_number, volume}
use Rattle.model.specs.Call.{Call, a_feed, a_lookup, a_result, an_order, decide_of, fields_of, lengths_of, replied, run}
use Rattle.model.specs.Call.{shell}
use Rattle.model.specs.Feed as feed
use Rattle.model.specs.Lookup as lookup
use Rattle.model.specs.Names.{a_broker, a_security, a_trade, an_account}
use Rattle.model.specs.Order as order
use Rattle.model.specs.Plan.{room}
use Rattle.model.specs.Result as result
use Rattle.model.specs.Rows.{found, is, most_records, rows, there, whole_records}
use Rattle.model.specs.Sound.{sound}
use Rattle.model.specs.SoundMeans.{SoundBook, means_sound}
use Rattle.model.specs.Status.{number}
use Rattle.facts.specs.Status.{one_status}
use Rattle.facts.specs.Checks.{decided_status}
use Rattle.preserved.specs.Cases.{not_so}
use Rattle.demands.proofs.Conditions.{means_a_security, means_a_trade, means_absent, means_an_account}
use Rattle.demands.proofs.Conditions.{means_bad_book, means_fields, means_lengths, means_more, means_no_band}
use Rattle.demands.proofs.Conditions.{means_no_charge, means_no_rate, means_not, means_not_permitted}
use Rattle.demands.proofs.Conditions.{means_one_fails, means_some, means_unknown, means_untaxed}
use Rattle.demands.specs.Demand2.{Demand2, fed_by, feed_lines, lookup_lines, order_lines, own_lines, result_lines}
use Rattle.demands.specs.Demand2.{table}
use Rattle.demands.proofs.Lines.{Told, exactly, fails, given, given_checks}

-- a check that something is not so fails where it is so
pub fails_not : (b : Bool) {P : Type 0} → Means b P → Means (not (not b)) P
fails_not true m = m
fails_not false m = m

-- ---- order
abbrev pub order_tests : List Row → Row → List Bool
order_tests rs i = fails (order.checks rs i (order.view rs i))

pub order_told : (rs : List Row) (i : Row) → sound rs ≡ true → Told (order_lines rs i) (order_tests rs i)
unfolding order.view order.checks
order_told rs i good =
    let v = order.view rs i in (
      fails_not _ (means_absent rs (an_account i.party) (means_an_account i.party) refl),
      λ _. (
        means_not_permitted rs i.party i.n3,
        λ _. (
          fails_not _ (means_absent rs (a_security i.symbol) (means_a_security i.symbol) refl),
          λ _. (
            fails_not _ (means_untaxed rs good i.party v.rates (order.walked i v)),
            λ _. (
              fails_not _ (means_no_rate rs good i.form _ _ i.n1),
              λ _. (
                fails_not _ (means_no_band rs good i.form _ _ i.n1),
                λ _. (
                  means_no_charge rs good i.form _,
                  λ _. (
                    means_more (order.next_number rs) trade_number.high,
                    λ _. (means_more (length (order.posting i v).added) (room rs), λ _. tt),
                  ),
                ),
              ),
            ),
          ),
        ),
      ),
    )

pub order_status : (rs : List Row) (i : Row) → (order.order rs i).status ≡ given (order_lines rs i) (order_tests rs i)
unfolding order.order order.checks
order_status rs i =
    let cs = order.checks rs i (order.view rs i) in
    decided_status cs rs _ refl
    ∙ given_checks (order_lines rs i) cs refl

-- ---- result
abbrev pub result_tests : List Row → Row → List Bool
result_tests rs i = let v = result.view rs i in fails (result.checks rs i v (result.figures i v))

pub result_told : (rs : List Row) (i : Row) → sound rs ≡ true → Told (result_lines rs i) (result_tests rs i)
unfolding result.view result.checks
result_told rs i good =
    let v = result.view rs i in
    let f = result.figures i v in
    let b = found (a_broker v.account.n1) rs in (
      fails_not _ (means_absent rs (a_trade i.id) (means_a_trade i.id) refl),
      λ _. (
        means_not (means_eq v.trade.status submitted),
        λ _. (
          fails_not _ (means_untaxed rs good v.trade.party v.rates f.walked),
          λ _. (
            fails_not _ (means_no_rate rs good v.trade.form _ _ v.trade.n1),
            λ _. (
              fails_not _ (means_no_band rs good v.trade.form _ _ v.trade.n1),
              λ _. (
                means_one_fails (leb (nat_abs f.balance) money_most) (leb (b.n1 + 1) broker_trades.high)
                    (leb (b.m1 + f.commission) commission_total.high) (means_more (nat_abs f.balance) money_most)
                    (means_more (b.n1 + 1) broker_trades.high)
                    (means_more (b.m1 + f.commission) commission_total.high),
                λ _. (means_more (length (result.posting i v f).added) (room rs), λ _. tt),
              ),
            ),
          ),
        ),
      ),
    )

pub result_status : (rs : List Row) (i : Row) → (result.result rs i).status ≡ given (result_lines rs i) (result_tests rs i)
unfolding result.result result.checks
result_status rs i =
    let v = result.view rs i in
    let cs = result.checks rs i v (result.figures i v) in
    decided_status cs rs _ refl
    ∙ given_checks (result_lines rs i) cs refl

-- ---- feed
abbrev pub feed_tests : List Row → List Row → List Bool
feed_tests rs es = fails (feed.checks rs es)

pub feed_told : (rs es : List Row) → Told (feed_lines rs es) (feed_tests rs es)
unfolding feed.checks
feed_told rs es = (
  means_some (λ (e : Row). there (a_security e.symbol) rs) es
      (λ e. means_unknown rs (a_security e.symbol) (means_a_security e.symbol)),
  λ _. (
    means_some (λ (e : Row). leb (found (a_security e.symbol) (fed_by rs es).rows).m1 volume.high) es
        (λ e. means_more (found (a_security e.symbol) (fed_by rs es).rows).m1 volume.high),
    λ _. (means_more (fed_by rs es).trades (room rs), λ _. tt),
  ),
)

pub feed_status : (rs es : List Row) → (feed.feed rs es).status ≡ given (feed_lines rs es) (feed_tests rs es)
unfolding feed.feed feed.checks
feed_status rs es =
    decided_status (feed.checks rs es) rs _ refl
    ∙ given_checks (feed_lines rs es) (feed.checks rs es) refl

-- ---- lookup
abbrev pub lookup_tests : List Row → List Row → List Bool
lookup_tests rs is = fails (lookup.checks rs is)

pub lookup_told : (rs is : List Row) → Told (lookup_lines rs is) (lookup_tests rs is)
unfolding lookup.checks
lookup_told rs is = (
  means_some (λ (i : Row). there (a_trade i.id) rs) is
      (λ i. means_unknown rs (a_trade i.id) (means_a_trade i.id)),
  λ _. tt,
)

pub lookup_status : (rs is : List Row) → (lookup.lookup rs is).status ≡ given (lookup_lines rs is) (lookup_tests rs is)
unfolding lookup.lookup lookup.checks
lookup_status rs is =
    decided_status (lookup.checks rs is) rs _ refl
    ∙ given_checks (lookup_lines rs is) (lookup.checks rs is) refl
