-- Each row that an order adds fits the grid. Assumes nothing.
use Rattle.std.specs.Prelude.{refl, Bool, true, false, cond, List, [], ◌∷◌, ℕ, ◌%◌, ◌≤◌, leb}
use Rattle.std.proofs.Common.{◌∙◌, inl, arith}
use Rattle.record.specs.Codes.{kind_account, kind_request, kind_trade, kind_trade_history, pending, submitted, tms}
use Rattle.record.specs.Symbol.{symbol_number}
use Rattle.record.specs.declared.row.Row.{Row}
use Rattle.rules.specs.Meaning.{OrderInput, means_account, means_order_input}
use Rattle.rules.proofs.Fits.{Fits, means_fits}
use Rattle.rules.specs.Ranges.{◌⋯◌, any64, charged, fee, flags, form, id, m1, m2, n1, n2, n3, n4, number, party}
use Rattle.rules.specs.Ranges.{price, price_most, shares, status, symbol, time, trade_flags, trade_number, trade_status}
use Rattle.rules.specs.Ranges.{trade_type, when}
use Rattle.rules.specs.Rules.{as_kind}
use Rattle.model.specs.Names.{an_account}
use Rattle.model.specs.Order.{first_status}
use Rattle.model.specs.Rows.{found}
use Rattle.model.specs.SoundMeans.{S1}
use Rattle.facts.specs.Found.{found_kind, found_member}
use Rattle.preserved.specs.OrderAdds.{grown_each}
use Rattle.preserved.specs.OrderFresh.{Taken, added, book, each_added, history, request, trade}
use Rattle.preserved.specs.OrderNames.{left, there_test}
use Rattle.preserved.specs.ResultFitsRanges.{Field, field, new_put}
use Rattle.preserved.specs.ResultFitsRows.{of}

first_least : (t : Bool) → 1 ≤ cond t submitted pending
first_least true = omega arith
first_least false = omega arith

first_most : (t : Bool) → cond t submitted pending ≤ 2
first_most true = omega arith
first_most false = omega arith

module _ {rs : List Row} {input : Row} {broker no cost charge commission : ℕ}
    (o : Taken rs input broker no cost charge commission) where
  asked : OrderInput input
  asked = (means_order_input input).shows o.right

  -- the account's broker has a number
  broker_number : (number.low ≤ broker) × (broker ≤ number.high)
  broker_number =
      let k = an_account input.party in
      let a = found k rs in
      let some = there_test o k o.account in
      let here = (means_fits a).holds ((book o).s1 a (found_member rs k some)) in
      let fit = ((means_account a).shows (as_kind kind_account a (found_kind rs k some) ∙ here)).0 in
      let e = o.broker_is in
      (omega (arith, e, fit.2.2.2.2.2.2.2.0), omega (arith, e, fit.2.2.2.2.2.2.2.1))

  -- ---- fields that are the input's, or new
  abbrev first : ℕ
  first = first_status input

  abbrev stands : Field
  stands =
      field status first trade_status (first_least (leb input.form tms))
      (omega (arith, first_most (leb input.form tms)))

  abbrev numbered : Field
  numbered = field id no trade_number (omega (arith, o.next)) o.number_most

  abbrev typed : Field
  typed = field form input.form trade_type asked.0.0.2.0 asked.0.0.2.1

  abbrev traded : Field
  traded = field symbol (symbol_number input.symbol) any64 (omega arith) asked.0.0.2.2.2.2.2.2.1

  abbrev many : Field
  many = field n1 input.n1 shares asked.0.0.2.2.2.2.2.2.2.0 asked.0.0.2.2.2.2.2.2.2.1

  abbrev bid : Field
  bid = field n2 cost price o.price_least o.price_most

  abbrev timed : Field
  timed =
      field when input.time time (omega arith)
      asked.0.0.2.2.2.2.2.2.2.2.2.2.2.2.2.1

  -- ---- the rows
  trade_fits : Fits (trade o)
  trade_fits = (
    (
      (
        new_put (
            of kind_trade ∷ typed ∷ stands
            ∷ field flags (input.flags % 4) trade_flags (omega arith) (omega arith)
            ∷ field party input.party number asked.0.0.2.2.2.2.0 asked.0.0.2.2.2.2.1
            ∷ numbered ∷ traded ∷ many ∷ bid ∷ field n3 0 (0 ⋯ price_most) (omega arith) (omega arith)
            ∷ field n4 charge charged (omega arith) o.charge_most
            ∷ field m1 commission fee (omega arith) o.commission_most
            ∷ field m2 0 fee (omega arith) (omega arith) ∷ timed ∷ []),
        (
          λ n. absurd (n refl),
          λ e z. let m = first_most (leb input.form tms) in omega arith,
        ),
      ),
      inl refl,
    ),
    asked.1,
  )

  history_fits_holds : Fits (history o)
  history_fits_holds = new_put (of kind_trade_history ∷ stands ∷ numbered ∷ timed ∷ [])

  request_fits_holds : Fits (request o)
  request_fits_holds =
      let b = broker_number in (
        new_put (
            of kind_request ∷ typed ∷ field party broker number b.0 b.1 ∷ numbered ∷ traded ∷ many ∷ bid ∷ []),
        asked.1,
      )

  pub fits_left : S1 (left o)
  fits_left =
      grown_each rs (added o) o.space Fits (book o).s1
      (each_added o Fits trade_fits history_fits_holds (λ e. request_fits_holds))
