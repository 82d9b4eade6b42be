-- The status of a result's checks, as the code comes to it, and that it is the one of the rules: the limits, the rows
-- that are added, counted, and the checks one after the other. Assumes nothing.
use Rattle.std.specs.Prelude.{◌≡◌, Bool, true, false, cond, not, ◌&&◌, List, [], ◌∷◌, ℕ, ◌+◌, ◌-◌, ◌≤◌, eqb, leb, ltb, nat_abs, pos, length}
use Rattle.std.proofs.Math.Path.{refl}
use Rattle.std.proofs.Common.{sym, ◌∙◌, arith, length-append, eqb-true, le-leb, leb-false, leb-true, ltb-false, ltb-true, of_z, to_z}
use Rattle.std.proofs.Math.ListN.{length-map}
use Rattle.std.proofs.lemmas.Bool.{lt-leb, not-true}
use Rattle.std.proofs.Math.Facts.{to_z_pos}
use Rattle.std.specs.Int.{w64}
use Rattle.laws.specs.Search.{run}
use Rattle.record.specs.Codes.{kind_broker, kind_free, submitted}
use Rattle.record.specs.Signed.{up}
use Rattle.record.specs.declared.row.Row.{Row}
use Rattle.kinds.specs.Inputs.{result_input_of}
use Rattle.kinds.specs.Kinds.{account_of, broker_of, trade_of}
use Rattle.kinds.specs.declared.rows.Broker.{Broker}
use Rattle.units.specs.declared.Cents.{Cents}
use Rattle.units.specs.declared.Shares.{Shares}
use Rattle.rules.specs.Meaning.{means_broker}
use Rattle.rules.specs.Ranges.{broker_trades, commission_total, fee, money_most}
use Rattle.rules.specs.Rules.{as_kind}
use Rattle.rules.specs.Signed.{near}
use Rattle.model.specs.declared.Status.{Status}
use Rattle.model.specs.declared.Status.TheVariants.{Done, NoRoom, OverLimit, ResultNoBand, ResultNoRate}
use Rattle.model.specs.declared.Status.TheVariants.{ResultNoTax, ResultNoTrade, ResultNotSubmitted}
use Rattle.model.specs.Band.{no_band, zero_rate}
use Rattle.model.specs.Flags.{cash}
use Rattle.model.specs.Names.{a_broker}
use Rattle.model.specs.Status.{is_done}
use Rattle.model.specs.Plan.{Check, also, posted, room, verdict}
use Rattle.model.specs.Result.{View, checks, figures, posting, view, within, with_broker}
use Rattle.model.specs.Rows.{found, has_key, is}
use Rattle.model.specs.Sound.{s1, sound}
use Rattle.model.specs.Result
use Rattle.facts.specs.Checks.{passed}
use Rattle.facts.specs.Found.{sound_s1, the_most}
use Rattle.facts.specs.Keys.{key_kind}
use Rattle.reading.specs.declared.terms.Terms.{Terms}
use Rattle.reading.specs.Terms.{broker_read, terms_of}
use Rattle.figures.specs.declared.Figures.{Figures}
use Rattle.figures.specs.Figures.{figures_by, figures_of, walk_of}

-- ---- as the code has them
-- the balance, the broker's trades and its commission total stay in their ranges
abbrev pub in_range : Broker → Cents → Cents → Bool
in_range b balance commission =
    leb (nat_abs balance.0) money_most && leb (b.trades + 1) broker_trades.high
    && leb (up b.commission.0 + up commission.0) commission_total.high

-- two rows for shares left over, a new summary, the trade's history, its settlement, and cash
abbrev pub own_rows : Shares → Bool → ℕ → ℕ
own_rows left held flags =
    cond (eqb (up left.0) 0) 0 2 + cond held 0 1 + 2 + cond (cash flags) 1 0

-- and one for each lot that is closed
abbrev pub rows_added : Terms → Figures → ℕ
rows_added t f = f.walk.closed + own_rows f.walk.need t.held t.trade.flags

unfoldable pub judgment : Terms → Figures → ℕ → Status
judgment t f free =
    let a = also Done t.known ResultNoTrade in
    let b = also a (eqb t.trade.status submitted) ResultNotSubmitted in
    let c = also b (not f.untaxed) ResultNoTax in
    let d = also (also c (not (zero_rate t.band)) ResultNoRate) (not (no_band t.band)) ResultNoBand in
    let e = also d (in_range t.broker f.balance f.commission) OverLimit in
    also e (leb (rows_added t f) free) NoRoom

one_more : (n h : ℕ) → ltb n h ≡ leb (n + 1) h
one_more n h = go (ltb n h) refl
  where
    go : (t : Bool) → ltb n h ≡ t → ltb n h ≡ leb (n + 1) h
    go true e = e ∙ sym (le-leb (n + 1) h (omega (arith, ltb-true n h e)))
    go false e = e ∙ sym (lt-leb (n + 1) h (omega (arith, ltb-false n h e)))

so_much_more : (n k h : ℕ) → k ≤ h → leb n (h - k) ≡ leb (n + k) h
so_much_more n k h l = go (leb n (h - k)) refl
  where
    go : (t : Bool) → leb n (h - k) ≡ t → leb n (h - k) ≡ leb (n + k) h
    go true e = e ∙ sym (le-leb (n + k) h (omega (arith, leb-true n (h - k) e)))
    go false e = e ∙ sym (lt-leb (n + k) h (omega (arith, leb-false n (h - k) e)))

pub near_is : (f : Cents) {x : Bool} {n : ℕ} → to_z w64 (of_z w64 f.0) ≡ f.0
    → n ≡ of_z w64 (to_z w64 (of_z w64 f.0)) → x ≡ near w64 n money_most → x ≡ leb (nat_abs f.0) money_most
unfolding near
near_is f z q e = rw (e, q, z, z)

pub in_range_holds : (b : Broker) (balance commission : Cents) {x : Bool} {k n : ℕ} → up commission.0 ≤ fee.high
    → x ≡ leb (nat_abs balance.0) money_most → k ≡ up commission.0 → n ≡ up b.commission.0
    → (x && ltb b.trades broker_trades.high && leb n (commission_total.high - k)) ≡ in_range b balance commission
in_range_holds b balance commission h e q r =
    let k = up commission.0 in
    rw (
      e,
      q,
      r,
      one_more b.trades broker_trades.high,
      so_much_more (up b.commission.0) k commission_total.high (omega arith),
    )

-- ---- as the rules have them
two_opened : (t : Bool) (a b : Row) → length (cond t [] (a ∷ b ∷ [])) ≡ cond t 0 2
two_opened true a b = refl
two_opened false a b = refl

one_unless : (t : Bool) (a : Row) → length (cond t [] (a ∷ [])) ≡ cond t 0 1
one_unless true a = refl
one_unless false a = refl

one_where : (t : Bool) (a : Row) → length (cond t (a ∷ []) []) ≡ cond t 1 0
one_where true a = refl
one_where false a = refl

-- a broker's total is in its range, and so is that of none
total_most : (rs : List Row) (n : ℕ) → s1 rs ≡ true → (found (a_broker n) rs).m1 ≤ commission_total.high
unfolding found
total_most rs n e =
    the_most (has_key (a_broker n)) (λ (r : Row). r.m1) commission_total.high rs e
    (λ r f h.
    let k : r.kind ≡ kind_broker = key_kind (a_broker n) r h in
    ((means_broker r).shows (as_kind kind_broker r k ∙ f)).2.2.2.2.2.2.2.2.2.2.2.1)
    (omega arith)

pub total_read : (rs : List Row) (input : Row) → sound rs ≡ true
    → to_z w64 (broker_read rs input).m1 ≡ pos (broker_read rs input).m1
total_read rs input good =
    let h = total_most rs (view rs input).account.n1 (sound_s1 rs good) in
    to_z_pos w64 (omega arith)

module _ (rs : List Row) (input : Row) where
  abbrev seen : View
  seen = view rs input

  abbrev its : Result.Figures
  its = figures input seen

  -- the rows that it posts are so many
  pub how_many : length (posting input seen its).added ≡ rows_added (terms_of rs input) (figures_of rs input)
  unfolding terms_of figures_of figures_by walk_of figures posting trade_of
  how_many = simp (length-append, length-map, two_opened, one_unless, one_where) (omega arith)

  abbrev pub tests : List Check
  tests = checks rs input seen its

  -- the rows that the rules leave where it is done
  unfoldable pub result_rows : List Row
  result_rows = posted (with_broker (broker_read rs input) its.commission (posting input seen its)) rs

  range_is : sound rs ≡ true
      → in_range (terms_of rs input).broker (figures_of rs input).balance (figures_of rs input).commission
      ≡ within (broker_read rs input) its
  unfolding terms_of figures_of figures_by walk_of figures broker_of trade_of account_of result_input_of
  range_is good = rw (total_read rs input good)

  -- the status of the checks
  pub judged : sound rs ≡ true → judgment (terms_of rs input) (figures_of rs input) (room rs) ≡ verdict tests
  unfolding judgment checks verdict run terms_of figures_of figures_by walk_of figures trade_of account_of result_input_of
  judged good =
      rw (← how_many, range_is good) refl

-- ---- what a result that is done has passed
pub record Passed (rs : List Row) (input : Row) : Type 0 where
  pub there : is kind_free (view rs input).trade ≡ false
  pub sent : (view rs input).trade.status ≡ submitted
  pub within : within (broker_read rs input) (figures input (view rs input)) ≡ true
  pub room : rows_added (terms_of rs input) (figures_of rs input) ≤ room rs

pub passed_all : (rs : List Row) (input : Row) → is_done (verdict (tests rs input)) ≡ true → Passed rs input
unfolding checks
passed_all rs input d =
    let p = passed (tests rs input) refl d in
    let n = length (posting input (view rs input) (figures input (view rs input))).added in
    record {
      there = not-true (is kind_free (view rs input).trade) p.0;
      sent = eqb-true (view rs input).trade.status submitted p.1.0;
      within = p.1.1.1.1.1.0;
      room = rw (← how_many rs input) (leb-true n (room rs) p.1.1.1.1.1.1.0);
    }
