-- Demand 2, proved: a call's status is that of the first of its checks that fails, that a check fails means its
-- condition, and so the one law of tables says when each status is given.
use Rattle.std.specs.Prelude.{◌≡◌, Bool, not, List, ◌∷◌, ℕ, ◌+◌, leb, nat_abs, length}
use Rattle.std.proofs.Math.Path.{refl}
use Rattle.std.proofs.Common.{sym, ap, ◌∙◌}
use Rattle.std.proofs.Math.Bool.{true, false}
use Rattle.std.proofs.lemmas.Bool.{not-false}
use Rattle.laws.specs.Tests.{Means, means_eq}
use Rattle.record.specs.Codes.{submitted}
use Rattle.record.specs.Grid.{decode}
use Rattle.record.specs.declared.row.Row.{Row}
use Rattle.rules.specs.Ranges.{broker_trades, commission_total, money_most, trade_number, volume}
use Rattle.model.specs.Call.{Call, a_feed, a_lookup, a_result, an_order, decide_of, fields_of, lengths_of, replied, run}
use Rattle.model.specs.Call.{shell}
use Rattle.model.specs.Feed as feed
use Rattle.model.specs.Lookup as lookup
use Rattle.model.specs.Names.{a_broker, a_security, a_trade, an_account}
use Rattle.model.specs.Order as order
use Rattle.model.specs.Plan.{room}
use Rattle.model.specs.Result as result
use Rattle.model.specs.Rows.{found, is, most_records, rows, there, whole_records}
use Rattle.model.specs.Sound.{sound}
use Rattle.model.specs.SoundMeans.{SoundBook, means_sound}
use Rattle.model.specs.Status.{number}
use Rattle.facts.specs.Status.{one_status}
use Rattle.facts.specs.Checks.{decided_status}
use Rattle.preserved.specs.Cases.{not_so}
use Rattle.demands.proofs.Conditions.{means_a_security, means_a_trade, means_absent, means_an_account}
use Rattle.demands.proofs.Conditions.{means_bad_book, means_fields, means_lengths, means_more, means_no_band}
use Rattle.demands.proofs.Conditions.{means_no_charge, means_no_rate, means_not, means_not_permitted}
use Rattle.demands.proofs.Conditions.{means_one_fails, means_some, means_unknown, means_untaxed}
use Rattle.demands.specs.Demand2.{Demand2, fed_by, feed_lines, lookup_lines, order_lines, own_lines, result_lines}
use Rattle.demands.specs.Demand2.{table}
use Rattle.demands.proofs.Lines.{Told, exactly, fails, given, given_checks}
use Rattle.demands.proofs.Told.{fails_not, feed_status, feed_tests, feed_told, lookup_status, lookup_tests, lookup_told}
use Rattle.demands.proofs.Told.{order_status, order_tests, order_told, result_status, result_tests, result_told}

-- ---- a call's own lines
abbrev own_tests : Call → List Row → List ℕ → List Bool
own_tests an_order rs input = order_tests rs (decode input)
own_tests a_result rs input = result_tests rs (decode input)
own_tests a_feed rs input = feed_tests rs (rows input)
own_tests a_lookup rs input = lookup_tests rs (rows input)

own_told : (c : Call) (rs : List Row) (input : List ℕ) → sound rs ≡ true
    → Told (own_lines c rs input) (own_tests c rs input)
own_told an_order rs input good = order_told rs (decode input) good
own_told a_result rs input good = result_told rs (decode input) good
own_told a_feed rs input good = feed_told rs (rows input)
own_told a_lookup rs input good = lookup_told rs (rows input)

own_status : (c : Call) (rs : List Row) (input : List ℕ)
    → (decide_of c input rs).status ≡ given (own_lines c rs input) (own_tests c rs input)
own_status an_order rs input = order_status rs (decode input)
own_status a_result rs input = result_status rs (decode input)
own_status a_feed rs input = feed_status rs (rows input)
own_status a_lookup rs input = lookup_status rs (rows input)

-- ---- the whole table
module _ (c : Call) (book input answer : List ℕ) where
  abbrev tests : List Bool
  tests =
      not (lengths_of c (length input) (length answer)) ∷ not (whole_records most_records (length book))
      ∷ not (sound (rows book)) ∷ not (fields_of c input) ∷ own_tests c (rows book) input

  told : Told (table c book input answer) tests
  told = (
    means_not (means_lengths c (length input) (length answer)),
    λ _. (
      means_bad_book (length book),
      λ _. (
        means_not (means_sound (rows book)),
        λ s. (means_not (means_fields c input), λ _. own_told c (rows book) input (not_not_so s)),
      ),
    ),
  )
    where
      not_not_so : ((SoundBook (rows book) → ⊥) → ⊥) → sound (rows book) ≡ true
      not_not_so s =
          not-false (sound (rows book))
          (not_so (not (sound (rows book))) (λ e. s ((means_not (means_sound (rows book))).shows e)))

  status_is : (run c book input answer).status ≡ given (table c book input answer) tests
  unfolding run shell replied
  status_is =
      go (lengths_of c (length input) (length answer)) (whole_records most_records (length book)) (sound (rows book))
      (fields_of c input) refl refl refl refl
    where
      go : (l w s f : Bool) → lengths_of c (length input) (length answer) ≡ l
          → whole_records most_records (length book) ≡ w → sound (rows book) ≡ s → fields_of c input ≡ f
          → (run c book input answer).status ≡ given (table c book input answer) tests
      go false w s f el ew es ef = rw el
      go true false s f el ew es ef = rw (el, ew)
      go true true false f el ew es ef = rw (el, ew, es)
      go true true true false el ew es ef = rw (el, ew, es, ef)
      go true true true true el ew es ef = rw (el, ew, es, ef) (own_status c (rows book) input)

pub demand_2 : Demand2
demand_2 c book input answer returned book' answer' p s =
    let due = exactly (table c book input answer) (tests c book input answer) (told c book input answer) s in
    let same = status_is c book input answer in (
      λ e. due.0 (sym same ∙ one_status _ s (sym p.returns ∙ e)),
      λ d. p.returns ∙ ap number (same ∙ due.1 d),
    )
