-- What a sound book keeps in its range of all that a call works with: prices, rates, trade numbers, shares, charges,
-- balances, and a summary's sum. Assumes nothing.
use Rattle.std.specs.Prelude.{◌≡◌, refl, Bool, true, false, cond, ◌&&◌, ℕ, ◌≤◌, ◌*◌, eqb, leb, nat_abs, ℤ, pos, length}
use Rattle.std.proofs.Common.{sym, ◌∙◌, subst, arith, eqb-true, le-leb, to_z}
use Rattle.std.proofs.lemmas.Bool.{false≢true}
use mathlib.Core.List.{List, [], ◌∷◌, Memᴰ}
use Rattle.std.specs.Int.{w64}
use Rattle.laws.specs.All.{All}
use Rattle.laws.specs.Keep.{the_has}
use Rattle.laws.specs.Search.{count, every, largest, sum_z, total}
use Rattle.laws.specs.Tests.{and_left, and_right}
use Rattle.laws.specs.Total.{total_zero}
use Rattle.record.specs.Codes.{kind_account, kind_band, kind_customer, kind_customer_rate, kind_free, kind_lot}
use Rattle.record.specs.Codes.{kind_security, kind_trade}
use Rattle.record.specs.Symbol.{same_symbol}
use Rattle.record.specs.declared.row.Row.{Row}
use Rattle.record.specs.declared.symbol.Symbol.{Symbol}
use Rattle.rules.specs.Meaning.{means_account, means_band, means_lot, means_result_input, means_security}
use Rattle.rules.proofs.Fits.{means_fits}
use Rattle.rules.specs.Meaning.{means_trade}
use Rattle.rules.specs.Ranges.{charged, commission_part, money_most, price_most, shares_most, tax_part, trade_number}
use Rattle.rules.specs.Rules.{as_kind, fits, result_input}
use Rattle.model.specs.Band.{answer_of, band_answer, band_for, commission_rate}
use Rattle.model.specs.declared.BandAnswer.TheVariants.{NoBand, Rate, ZeroRate}
use Rattle.model.specs.Names.{a_customer, a_lot, a_security, a_summary, a_trade, an_account, named}
use Rattle.model.specs.Order.{trade_id}
use Rattle.model.specs.Result.{view}
use Rattle.model.specs.Rows.{found, has_key, is, most_records, nothing, there}
use Rattle.model.specs.Sound.{lot_of, rate_of, rates_of, s1, shares_of, sound}
use Rattle.model.specs.SoundMeans.{means_sound}
use Rattle.facts.specs.Found.{found_has, found_kind, found_member, found_none, sound_s1, the_most}
use Rattle.facts.specs.Names.{by_id_holds, by_party_holds, by_symbol_holds}
use Rattle.facts.specs.Signed.{sum_size}

-- ---- the last price
pub price_most_holds : (rs : List Row) (y : Symbol) → s1 rs ≡ true → (found (a_security y) rs).n1 ≤ price_most
unfolding found
price_most_holds rs y e =
    the_most (has_key (a_security y)) (λ (r : Row). r.n1) price_most rs e
    (λ r f h.
    let own = and_left (is kind_security r) (same_symbol r.symbol y) (sym (by_symbol_holds y r) ∙ h) in
    let k = eqb-true r.kind kind_security own in
    ((means_security r).shows (as_kind kind_security r k ∙ f)).0.2.2.2.2.2.2.2.1)
    (omega arith)

-- ---- trade numbers
number_fits : (r : Row) → fits r ≡ true → trade_id r ≤ trade_number.high
number_fits r f = go (is kind_trade r) refl
  where
    go : (t : Bool) → is kind_trade r ≡ t → cond t r.id 0 ≤ trade_number.high
    go true e =
        let k = eqb-true r.kind kind_trade e in
        ((means_trade r).shows (as_kind kind_trade r k ∙ f)).0.0.0.2.2.2.2.2.1
    go false e = omega arith

numbers_most : (rs : List Row) → every fits rs ≡ true → largest trade_id rs ≤ trade_number.high
unfolding every largest
numbers_most [] e = omega arith
numbers_most (r ∷ rs) e =
    let a = number_fits r (and_left (fits r) (every fits rs) e) in
    let b = numbers_most rs (and_right (fits r) (every fits rs) e) in
    omega arith

pub number_most_holds : (rs : List Row) → s1 rs ≡ true → largest trade_id rs ≤ trade_number.high
unfolding s1
number_most_holds rs e = numbers_most rs e

-- ---- the commission rate
pub band_kind : (form tier exchange shares : ℕ) (r : Row) → band_for form tier exchange shares r ≡ true
    → r.kind ≡ kind_band
band_kind form tier exchange shares r h =
    let to = and_left _ (leb shares r.n2) h in
    let from = and_left _ (leb r.n1 shares) to in
    let at = and_left _ (eqb r.flags exchange) from in
    let of = and_left _ (eqb r.status tier) at in
    eqb-true r.kind kind_band (and_left _ (eqb r.form form) of)

-- an answer has the rate of its row, or none
answer_most : (r : Row) → commission_rate (answer_of r) ≤ r.n3
answer_most r = go (is kind_free r) (eqb r.n3 0)
  where
    go : (t u : Bool) → commission_rate (cond t NoBand (cond u ZeroRate (Rate (record { 0 = r.n3 })))) ≤ r.n3
    go true u = omega arith
    go false true = omega arith
    go false false = omega arith

pub rate_most : (rs : List Row) (form tier exchange shares : ℕ) → s1 rs ≡ true
    → commission_rate (band_answer rs form tier exchange shares) ≤ commission_part.high
unfolding band_answer
rate_most rs form tier exchange shares e =
    the_most (band_for form tier exchange shares) (λ (r : Row). commission_rate (answer_of r)) commission_part.high rs e
    (λ r f h.
    let most = answer_most r in
    let k = band_kind form tier exchange shares r h in
    let rate = ((means_band r).shows (as_kind kind_band r k ∙ f)).0.2.2.2.2.2.2.2.2.2.1 in
    omega arith)
    (omega arith)

-- ---- the tax rates of a customer
names_customer : (x : Row) → x.kind ≡ kind_customer_rate → Memᴰ (a_customer x.party) (named x)
unfolding named
names_customer x k = rw k (Memᴰ.head refl)

customer_there : (rs : List Row) → sound rs ≡ true → {c : ℕ} (x : Row) → Memᴰ x rs → x.kind ≡ kind_customer_rate
    → x.party ≡ c → there (a_customer c) rs ≡ true
unfolding there
customer_there rs e {c} x m k p =
    let first = subst (λ (n : ℕ). Memᴰ (a_customer n) (named x)) p (names_customer x k) in
    le-leb 1 (count (has_key (a_customer c)) rs) (((means_sound rs).shows e).s3 x m (a_customer c) first)

-- a customer that is there has rates in their range by S5, and by S3 one that is not there has none
pub rates_most : (rs : List Row) (c : ℕ) → sound rs ≡ true → rates_of rs c ≤ tax_part.high
unfolding rates_of there found
rates_most rs c e = go (there (a_customer c) rs) refl
  where
    r : Row
    r = found (a_customer c) rs

    unnamed : there (a_customer c) rs ≡ false → (x : Row) → Memᴰ x rs → rate_of rs c x ≡ 0
    unnamed n x m = by (is kind_customer_rate x) (eqb x.party c) refl refl
      where
        by : (t u : Bool) → is kind_customer_rate x ≡ t → eqb x.party c ≡ u → rate_of rs c x ≡ 0
        by true true k p =
            absurd (false≢true (sym n ∙ customer_there rs e x m (eqb-true x.kind kind_customer_rate k)
            (eqb-true x.party c p)))
        by true false k p = rw (k, p)
        by false u k p = rw k

    go : (t : Bool) → there (a_customer c) rs ≡ t → total (rate_of rs c) rs ≤ tax_part.high
    go true h =
        let own = sym (by_party_holds kind_customer refl c r) ∙ found_has (a_customer c) rs h in
        let k = eqb-true r.kind kind_customer (and_left (is kind_customer r) (eqb r.party c) own) in
        let p = eqb-true r.party c (and_right (is kind_customer r) (eqb r.party c) own) in
        rw p at (((means_sound rs).shows e).s5 r (the_has (has_key (a_customer c)) nothing rs h) k)
    go false h = rw (total_zero (rate_of rs c) rs (unnamed h)) (omega arith)

-- the price of a lot is in its range, and so is that of none
pub lot_price : (rs : List Row) (i : ℕ) {r : Row} → s1 rs ≡ true → r ≡ found (a_lot i) rs → r.n1 ≤ price_most
unfolding found
lot_price rs i e q =
    rw q (the_most (has_key (a_lot i)) (λ (r : Row). r.n1) price_most rs e
    (λ r f h.
    let own = and_left (is kind_lot r) (eqb r.id i) (sym (by_id_holds kind_lot refl i r) ∙ h) in
    let k = eqb-true r.kind kind_lot own in
    ((means_lot r).shows (as_kind kind_lot r k ∙ f)).0.0.0.2.2.2.2.2.2.2.1)
    (omega arith))

-- ---- a trade and an account
a_trade_holds : (r : Row) (i : ℕ) → has_key (a_trade i) r ≡ true → r.kind ≡ kind_trade
a_trade_holds r i h =
    eqb-true r.kind kind_trade (and_left (is kind_trade r) (eqb r.id i) (sym (by_id_holds kind_trade refl i r) ∙ h))

shares_most_holds : (rs : List Row) (i : ℕ) → s1 rs ≡ true → (found (a_trade i) rs).n1 ≤ shares_most
unfolding found
shares_most_holds rs i e =
    the_most (has_key (a_trade i)) (λ (r : Row). r.n1) shares_most rs e
    (λ r f h.
    ((means_trade r).shows (as_kind kind_trade r (a_trade_holds r i h) ∙ f)).0.0.0.2.2.2.2.2.2.2.1)
    (omega arith)

charge_most : (rs : List Row) (i : ℕ) → s1 rs ≡ true → (found (a_trade i) rs).n4 ≤ charged.high
unfolding found
charge_most rs i e =
    the_most (has_key (a_trade i)) (λ (r : Row). r.n4) charged.high rs e
    (λ r f h.
    ((means_trade r).shows (as_kind kind_trade r (a_trade_holds r i h) ∙ f)).0.0.0.2.2.2.2.2.2.2.2.2.2.1)
    (omega arith)

balance_most : (rs : List Row) (n : ℕ) → s1 rs ≡ true → nat_abs (to_z w64 (found (an_account n) rs).m1) ≤ money_most
unfolding found
balance_most rs n e =
    the_most (has_key (an_account n)) (λ (r : Row). nat_abs (to_z w64 r.m1)) money_most rs e
    (λ r f h.
    let own = and_left (is kind_account r) (eqb r.party n) (sym (by_party_holds kind_account refl n r) ∙ h) in
    let k = eqb-true r.kind kind_account own in
    ((means_account r).shows (as_kind kind_account r k ∙ f)).1)
    (omega arith)

-- ---- a summary is the sum of its lots, each of which is in its range: its own row has no bound
sum_most : {A : Type 0} (f : A → ℤ) (l : List A) → All (λ (x : A). nat_abs (f x) ≤ shares_most) l
    → nat_abs (sum_z f l) ≤ length l * shares_most
unfolding sum_z
sum_most f [] h = omega arith
sum_most f (x ∷ l) h =
    let one = h x (Memᴰ.head refl) in
    let ih = sum_most f l (λ y m. h y (Memᴰ.tail m)) in
    let both = sum_size (f x) (sum_z f l) in
    omega arith

module _ (rs : List Row) (good : sound rs ≡ true) where
  share_most : (account : ℕ) (symbol : Symbol) → All (λ (r : Row). nat_abs (shares_of account symbol r) ≤ shares_most) rs
  share_most account symbol r m = go (lot_of account symbol r) refl
    where
      go : (t : Bool) → lot_of account symbol r ≡ t → nat_abs (cond t (to_z w64 r.m1) (pos 0)) ≤ shares_most
      go true e =
          let k : r.kind ≡ kind_lot =
          eqb-true r.kind kind_lot (and_left (is kind_lot r) (eqb r.party account)
          (and_left (is kind_lot r && eqb r.party account) (same_symbol r.symbol symbol) e))
          in
          let f = (means_fits r).holds (((means_sound rs).shows good).s1 r m) in
          ((means_lot r).shows (as_kind kind_lot r k ∙ f)).0.1
      go false e = omega arith

  summary_most : length rs ≤ most_records → (account : ℕ) (symbol : Symbol)
      → nat_abs (to_z w64 (found (a_summary account symbol) rs).m1) ≤ money_most
  summary_most few account symbol = go (there (a_summary account symbol) rs) refl
    where
      s : Row
      s = found (a_summary account symbol) rs

      go : (t : Bool) → there (a_summary account symbol) rs ≡ t → nat_abs (to_z w64 s.m1) ≤ money_most
      go true e =
          let m = found_member rs (a_summary account symbol) e in
          let k = found_kind rs (a_summary account symbol) e in
          let q = ((((means_sound rs).shows good).s8 s m).1 k).1 in
          let h : nat_abs (to_z w64 s.m1) ≤ length rs * shares_most =
          rw (← q) (sum_most (shares_of s.party s.symbol) rs (share_most s.party s.symbol))
          in
          omega arith
      go false e = rw (found_none (a_summary account symbol) rs e) (omega arith)

-- ---- what a result reads
pub price_fits : (input : Row) → result_input input ≡ true → input.n1 ≤ price_most
price_fits input right = ((means_result_input input).shows right).2.2.2.2.2.2.2.1

module _ (rs : List Row) (input : Row) (good : sound rs ≡ true) where
  pub shares_near : (view rs input).trade.n1 ≤ shares_most
  unfolding view
  shares_near = shares_most_holds rs input.id (sound_s1 rs good)

  pub charge_near : (view rs input).trade.n4 ≤ charged.high
  unfolding view
  charge_near = charge_most rs input.id (sound_s1 rs good)

  pub balance_near : nat_abs (to_z w64 (view rs input).account.m1) ≤ money_most
  unfolding view
  balance_near = balance_most rs (found (a_trade input.id) rs).party (sound_s1 rs good)

  pub rates_near : (view rs input).rates ≤ tax_part.high
  unfolding view
  rates_near = rates_most rs (found (an_account (found (a_trade input.id) rs).party) rs).n2 good

  pub rate_near : commission_rate (view rs input).band ≤ commission_part.high
  unfolding view
  rate_near =
      let r = found (a_trade input.id) rs in
      let a = found (an_account r.party) rs in
      let tier = (found (a_customer a.n2) rs).form in
      rate_most rs r.form tier (found (a_security r.symbol) rs).form r.n1 (sound_s1 rs good)

  pub summary_near : length rs ≤ most_records → nat_abs (to_z w64 (view rs input).summary.m1) ≤ money_most
  unfolding view
  summary_near few = let t = (view rs input).trade in summary_most rs good few t.party t.symbol
