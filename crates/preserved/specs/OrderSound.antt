-- An accepted order leaves a sound book: S1 to S10 together. Assumes nothing.
use Rattle.std.specs.Prelude.{◌≡◌, Bool, List, [], ◌∷◌, ℕ, ◌≤◌, length}
use Rattle.std.proofs.Math.Path.{refl, ap}
use Rattle.std.proofs.Common.{sym, ◌∙◌, arith}
use Rattle.std.proofs.Math.Bool.{true, false, cond}
use borrow.Author.Tests.{leb-false, leb-true, not-true}
use Rattle.laws.specs.Change.{fill, puts, written}
use Rattle.laws.specs.Search.{count}
use Rattle.record.specs.Codes.{kind_charge, kind_free, kind_security, tms}
use Rattle.keys.specs.declared.Key.{Key}
use Rattle.record.specs.declared.row.Row.{Row}
use Rattle.rules.specs.Meaning.{means_charge, means_order_input, means_security}
use Rattle.rules.proofs.Fits.{means_fits}
use Rattle.rules.specs.Ranges.{charged, fee, price_most, trade_number}
use Rattle.rules.specs.Rules.{as_kind, order_input}
use Rattle.model.specs.Status.{is_done}
use Rattle.model.specs.Band.{commission_rate}
use Rattle.model.specs.Flags.{roll_back}
use Rattle.model.specs.Money.{commission_of}
use Rattle.model.specs.Names.{a_charge, a_customer, a_security, an_account}
use Rattle.model.specs.Order.{View, added_rows, at_market, checks, next_number, order, posting, price_used, rows_after}
use Rattle.model.specs.Order.{view}
use Rattle.model.specs.Plan.{Outcome, accepted, posted, room}
use Rattle.model.specs.Rows.{found, has_key, is, nothing, same_row, there}
use Rattle.model.specs.Sound.{sound}
use Rattle.model.specs.SoundMeans.{There, means_sound}
use Rattle.facts.specs.Found.{found_kind, found_live, found_member, sound_s1, the_most}
use Rattle.facts.specs.Money.{commission_taken}
use Rattle.facts.specs.Most.{price_most_holds, rate_most}
use Rattle.facts.specs.Keys.{key_kind}
use Rattle.facts.specs.Posted.{adds, fill_puts}
use Rattle.facts.specs.Checks.{decided_done, decided_status, passed}
use Rattle.preserved.specs.Bytes.{puts_length}
use Rattle.preserved.specs.OrderFits.{fits_left}
use Rattle.preserved.specs.OrderFound.{done_left, lots_left, settlements_left}
use Rattle.preserved.specs.OrderFresh.{Taken}
use Rattle.preserved.specs.OrderNames.{bands_left, keys_left, left, names_left, rates_left}
use Rattle.preserved.specs.OrderTrades.{histories_left, requests_left}
use Rattle.preserved.specs.ResultBase.{room_is}

-- what an order that is done has passed, and the rows that it leaves
record Passed (rs : List Row) (input : Row) : Type 0 where
  account : is kind_free (view rs input).account ≡ false
  security : is kind_free (view rs input).security ≡ false
  number : (view rs input).number ≤ trade_number.high
  space : length (posting input (view rs input)).added ≤ room rs
  rows : (order rs input).rows
      ≡ cond (roll_back input.flags) rs (fill same_row nothing (posting input (view rs input)).added rs)

passed_all : (rs : List Row) (input : Row) → is_done (order rs input).status ≡ true → Passed rs input
unfolding order checks posting posted written puts
passed_all rs input k =
    let v = view rs input in
    let cs = checks rs input v in
    let o = accepted ((posting input v).answer ∷ []) (rows_after rs input (posting input v)) in
    let d = ap is_done (sym (decided_status cs rs o refl)) ∙ k in
    let p = passed cs refl d in
    record {
      account = not-true (is kind_free v.account) p.0;
      security = not-true (is kind_free v.security) p.1.1.0;
      number = leb-true v.number trade_number.high p.1.1.1.1.1.1.1.0;
      space = leb-true (length (posting input v).added) (room rs) p.1.1.1.1.1.1.1.1.0;
      rows = ap (λ (x : Outcome). x.rows) (decided_done cs rs o d);
    }

module _ (rs : List Row) (input : Row) (good : sound rs ≡ true) (right : order_input input ≡ true) where
  abbrev v : View
  v = view rs input

  abbrev cost : ℕ
  cost = price_used input v

  abbrev commission : ℕ
  commission = commission_of (commission_rate v.band) input.n1 cost

  abbrev hs : List Row
  hs = added_rows input v.account.n1 v.number cost v.charge commission

  is_there : (k : Key) → is kind_free (found k rs) ≡ false → There k rs
  unfolding there
  is_there k e = leb-true 1 (count (has_key k) rs) (found_live rs k e)

  -- the last price is one, and so is the bid of an order that waits
  cost_least : is kind_free v.security ≡ false → 1 ≤ cost
  unfolding view
  cost_least live = go (at_market input) refl
    where
      s : Row
      s = found (a_security input.symbol) rs

      go : (t : Bool) → at_market input ≡ t → 1 ≤ cond t s.n1 input.n2
      go true e =
          let some = found_live rs (a_security input.symbol) live in
          let m = found_member rs (a_security input.symbol) some in
          let k = found_kind rs (a_security input.symbol) some in
          let fit = (means_fits s).holds (((means_sound rs).shows good).s1 s m) in
          ((means_security s).shows (as_kind kind_security s k ∙ fit)).0.2.2.2.2.2.2.2.0
      go false e =
          let asked = ((means_order_input input).shows right).0.1 in
          let waits = leb-false input.form tms e in
          let bids : input.n2 ≡ 0 → ⊥ = λ z. let h = asked.0 z in omega arith in
          omega arith

  cost_most : cost ≤ price_most
  unfolding view
  cost_most = go (at_market input)
    where
      go : (t : Bool) → cond t (found (a_security input.symbol) rs).n1 input.n2 ≤ price_most
      go true = price_most_holds rs input.symbol (sound_s1 rs good)
      go false = ((means_order_input input).shows right).0.0.2.2.2.2.2.2.2.2.1

  charge_most : (form tier : ℕ) → (found (a_charge form tier) rs).n1 ≤ charged.high
  unfolding found
  charge_most form tier =
      the_most (has_key (a_charge form tier)) (λ (r : Row). r.n1) charged.high rs (sound_s1 rs good)
      (λ r f h.
      let k = key_kind (a_charge form tier) r h in
      ((means_charge r).shows (as_kind kind_charge r k ∙ f)).2.2.2.2.2.2.2.1)
      (omega arith)

  commission_most : commission ≤ fee.high
  unfolding view
  commission_most =
      let tier = (found (a_customer v.account.n2) rs).form in
      let rate = rate_most rs input.form tier v.security.form input.n1 (sound_s1 rs good) in
      let many = ((means_order_input input).shows right).0.0.2.2.2.2.2.2.2.1 in
      let taken = commission_taken (commission_rate v.band) input.n1 cost rate many cost_most in
      omega (arith, taken.0, taken.1)

  taken : Passed rs input → Taken rs input v.account.n1 v.number cost v.charge commission
  unfolding view next_number posting
  taken ok = record {
    good = good;
    right = right;
    account = is_there (an_account input.party) ok.account;
    broker_is = refl;
    security = is_there (a_security input.symbol) ok.security;
    next = refl;
    number_most = ok.number;
    price_least = cost_least ok.security;
    price_most = cost_most;
    charge_most = charge_most input.form (found (a_customer v.account.n2) rs).form;
    commission_most = commission_most;
    space =
        let e = room_is rs good in
        let s = ok.space in
        omega arith;
  }

  left_sound : (ok : Passed rs input) → sound (left (taken ok)) ≡ true
  left_sound ok =
      let o = taken ok in
      (means_sound (left o)).holds
      (record {
        s1 = fits_left o;
        s2 = keys_left o;
        s3 = names_left o;
        s4 = bands_left o;
        s5 = rates_left o;
        s6 = requests_left o;
        s7 = histories_left o;
        s8 = lots_left o;
        s9 = settlements_left o;
        s10 = done_left o;
      })

  after_sound : (ok : Passed rs input) → sound (order rs input).rows ≡ true
  unfolding posting
  after_sound ok = ap sound ok.rows ∙ go (roll_back input.flags)
    where
      go : (t : Bool) → sound (cond t rs (fill same_row nothing hs rs)) ≡ true
      go true = good
      go false = ap sound (fill_puts hs rs) ∙ left_sound ok

pub order_sound : (rs : List Row) (input : Row) → sound rs ≡ true → order_input input ≡ true
    → is_done (order rs input).status ≡ true → sound (order rs input).rows ≡ true
order_sound rs input good right done = after_sound rs input good right (passed_all rs input done)

-- and as many rows
pub order_length : (rs : List Row) (input : Row) → is_done (order rs input).status ≡ true
    → length (order rs input).rows ≡ length rs
order_length rs input done = ap length (passed_all rs input done).rows ∙ go (roll_back input.flags) _
  where
    go : (t : Bool) (hs : List Row) → length (cond t rs (fill same_row nothing hs rs)) ≡ length rs
    go true hs = refl
    go false hs = ap length (fill_puts hs rs) ∙ puts_length (adds hs) rs
