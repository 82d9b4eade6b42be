-- Rules for a result of which demand 3 is false: the answer is the broker's row, or all lots of the book; a result sets
-- the last price of its security; the walk goes over the lots of all accounts; the commission rises with the broker's
-- trades. Each is the rule with one thing changed. Two results of two accounts, accepted in both orders, are answered
-- or posted otherwise in the one than in the other, which is found by computation. Assumes nothing.
use Rattle.std.specs.Prelude.{◌≡◌, refl, true, cond, List, [], ◌∷◌, ℕ, ◌+◌, length}
use Rattle.std.proofs.Common.{ap, arith}
use Rattle.laws.specs.Change.{put}
use Rattle.laws.specs.Search.{count, keep, seek}
use Rattle.laws.specs.Sort.{sort}
use Rattle.record.specs.Codes.{kind_lot, kind_lot_history, kind_security}
use Rattle.record.specs.Grid.{decode, encode}
use Rattle.record.specs.Symbol.{symbol_number}
use Rattle.record.specs.declared.row.Row.{Row}
use Rattle.rules.specs.Ranges.{form, id, kind, m2, n1, n2, symbol}
use Rattle.model.specs.Status.{is_done}
use Rattle.model.specs.Band.{commission_rate, rated}
use Rattle.model.specs.Call.{Reply, a_result, fields_of, lengths_of, result_call, run, shell}
use Rattle.model.specs.Edit.{◌≔◌, changed, new}
use Rattle.model.specs.Evaluate.{result_opened}
use Rattle.model.specs.Flags.{lifo}
use Rattle.model.specs.Lots.{before, closes}
use Rattle.model.specs.Names.{a_broker, a_security}
use Rattle.model.specs.Plan.{decided, posted}
use Rattle.model.specs.declared.Status.TheVariants.{Done}
use Rattle.model.specs.Result.{View, checks, figures, posting, result, view, with_broker}
use Rattle.model.specs.Rows.{bytes, found, is, rows, same_row}
use Rattle.model.specs.Sample.{abc}
use Rattle.reorder.specs.AnyRule.{Demand3Of, Rule, SameEndOf, ending_of, replies_of}
use Rattle.witness.specs.Pair.{answered, apart, area, differ, ended, one, other, pass₁, pass₂}
use Rattle.witness.specs.Pair.{their_orders, theirs}
use Rattle.witness.specs.Witness.{book, unhindered}

-- ---- the rule, changed in what an accepted result leaves
abbrev accepted : (Reply → Reply) → Rule
accepted change b input area =
    let r = result_call b input area in cond (is_done r.status) (change r) r

abbrev answering : (List Row → Row → List Row) → Rule
answering told b input area =
    accepted
    (λ r. record { status = r.status; answer = bytes (told (rows r.book) (decode input)); book = r.book })
    b
    input
    area

-- the answer is the broker's row, with its count and total
abbrev pub brokers_row : Rule
brokers_row = answering (λ rs input. found (a_broker (view rs input).account.n1) rs ∷ [])

-- the answer is all lots of the book
abbrev pub all_lots : Rule
all_lots = answering (λ rs input. keep (is kind_lot) rs)

-- the price of the result becomes the last price of the security
abbrev priced : List Row → Row → List Row
priced rs input =
    let security = found (a_security (view rs input).trade.symbol) rs in
    put same_row security (changed security (n1 ≔ input.n1 ∷ [])) rs

abbrev pub last_price : Rule
last_price b input area =
    accepted
    (λ r. record { status = r.status; answer = r.answer; book = bytes (priced (rows r.book) (decode input)) })
    b
    input
    area

-- ---- the rule, changed in what a result reads
abbrev reading : (List Row → Row → View) → Rule
reading see b input area =
    shell (lengths_of a_result (length input) (length area)) (fields_of a_result input)
    (λ rs.
    let i = decode input in
    let v = see rs i in
    let f = figures i v in
    let p = with_broker (found (a_broker v.account.n1) rs) f.commission (posting i v f) in
    decided (checks rs i v f) rs (record { status = Done; answer = p.answer ∷ []; rows = posted p rs }))
    b
    area

-- with nothing changed it is the rule
pub reads_the_view : (b input area : List ℕ) → reading view b input area ≡ result_call b input area
unfolding run result
reads_the_view b input area = refl

-- the lots of all accounts
abbrev pub lots_of_all : Rule
lots_of_all =
    reading
    (λ rs input.
    let v = view rs input in
    let t = v.trade in
    record {
      trade = t;
      account = v.account;
      summary = v.summary;
      rates = v.rates;
      band = v.band;
      lots = sort (before (lifo t.flags)) (keep (λ r. closes t.form r.party t.symbol r) rs);
    })

-- a rate that rises with the broker's trades
abbrev pub rising_rate : Rule
rising_rate =
    reading
    (λ rs input.
    let v = view rs input in
    record {
      trade = v.trade;
      account = v.account;
      summary = v.summary;
      rates = v.rates;
      band = rated (commission_rate v.band + (found (a_broker v.account.n1) rs).n1);
      lots = v.lots;
    })

-- ---- both results are accepted in both orders, and a number that is told of the replies is another
module _ (rule : Rule) where
  abbrev given : List ℕ → List Reply
  given order = replies_of rule theirs area book order

  module _ (told₁ told₂ : List Reply → ℕ) (e : apart is_done told₁ told₂ (given one) (given other) ≡ true) where
    alike : Demand3Of rule → SameEndOf rule book theirs area area one other
    alike d =
        d book theirs area area one other
        (record {
          orders = their_orders;
          unhindered₁ =
              unhindered is_done refl refl (given one) (pass₁ is_done told₁ told₂ (given one) (given other) e);
          unhindered₂ =
              unhindered is_done refl refl (given other) (pass₂ is_done told₁ told₂ (given one) (given other) e);
        })

  -- by a number of the answer to the first result
  by_answer : (f : List ℕ → ℕ) → apart is_done (answered 0 f) (answered 1 f) (given one) (given other) ≡ true
      → Demand3Of rule → ⊥
  unfolding encode seek
  by_answer f e d =
      differ is_done (answered 0 f) (answered 1 f) (given one) (given other) e
      (ap f ((alike (answered 0 f) (answered 1 f) e d).same_answer 0 (omega arith) refl))

  -- by how many times the end books have a row
  module _ (r : Row) where
    abbrev times : List Reply → ℕ
    times = ended (count (same_row r))

    by_row : apart is_done times times (given one) (given other) ≡ true → Demand3Of rule → ⊥
    unfolding replies_of ending_of
    by_row e d = differ is_done times times (given one) (given other) e ((alike times times e d).same_rows r)

-- ---- the counterexamples
-- the broker has made one trade, or two
pub brokers_row_answered : Demand3Of brokers_row → ⊥
unfolding result_opened replies_of
brokers_row_answered = by_answer brokers_row (λ k. (decode k).n1) refl

-- the other account's lot is there, or not yet
pub all_lots_answered : Demand3Of all_lots → ⊥
unfolding result_opened replies_of
all_lots_answered = by_answer all_lots length refl

-- the later of the two prices stays
pub last_price_set : Demand3Of last_price → ⊥
unfolding result_opened replies_of
last_price_set = by_row last_price (new (kind ≔ kind_security ∷ form ≔ 1 ∷ symbol ≔ symbol_number abc ∷ n1 ≔ 2_800 ∷ [])) refl

-- the buy of ten opens a lot of ten, or of the six that the other account's short lot leaves
pub all_lots_walked : Demand3Of lots_of_all → ⊥
unfolding result_opened replies_of
all_lots_walked = by_row lots_of_all (new (kind ≔ kind_lot_history ∷ id ≔ 12 ∷ m2 ≔ 12 ∷ n2 ≔ 10 ∷ [])) refl

-- the later result pays more
pub rate_risen : Demand3Of rising_rate → ⊥
unfolding result_opened replies_of
rate_risen = by_answer rising_rate (λ k. (decode k).m2) refl
