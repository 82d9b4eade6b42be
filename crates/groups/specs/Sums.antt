-- What is summed over one group: the bands that overlap one, a customer's rates, and an account's shares of a symbol,
-- those held and those owed apart. Assumes nothing.
use Rattle.std.specs.Prelude.{◌≡◌, refl, Bool, true, false, cond, ◌&&◌, List, ℕ, ◌+◌, ◌*◌, ◌≤◌, ◌<◌, eqb, leb, ℤ, pos, negsuc, nat_abs, ◌+ℤ◌, neg_ℤ, get_or}
use Rattle.std.proofs.Common.{sym, ap, ◌∙◌, arith, to_z, eqb-true, ltb-true}
use Rattle.std.specs.Int.Signed.{lt_z}
use Rattle.std.specs.Int.{from_bool, w64}
use Rattle.laws.specs.Search.{bit, count, total}
use Rattle.laws.specs.Tests.{and_assoc, and_left, and_right}
use Rattle.laws.specs.Place.{every_at}
use Rattle.record.specs.Codes.{kind_band, kind_customer_rate, kind_lot, kind_request}
use Rattle.record.specs.Signed.{dn, up}
use Rattle.record.specs.Symbol.{no_symbol, same_symbol_holds, same_symbol}
use Rattle.record.specs.declared.row.Row.{Row}
use Rattle.record.specs.declared.symbol.Symbol.{Symbol}
use Rattle.record.specs.Grid.{decode}
use Rattle.kinds.specs.Kinds.{band_of, customer_rate_of, tax_rate_of}
use Rattle.kinds.specs.Kinds as kinds
use Rattle.units.specs.Units.{shares}
use Rattle.kinds.specs.declared.rows.Band.{Band}
use Rattle.units.specs.declared.Shares.{Shares}
use Rattle.kinds.specs.declared.rows.CustomerRate.{CustomerRate}
use Rattle.kinds.specs.declared.rows.TaxRate.{TaxRate}
use Rattle.kinds.specs.declared.rows.Lot.{Lot}
use Rattle.keys.specs.Key.{key_of}
use Rattle.keys.specs.declared.Key.{Key}
use Rattle.rules.specs.Meaning.{means_lot}
use Rattle.rules.specs.Ranges.{shares_most}
use Rattle.rules.specs.Rules.{as_kind, fits}
use Rattle.model.specs.Band.{band_for}
use Rattle.model.specs.Names.{a_tax_rate}
use Rattle.model.specs.Rows.{found, is, most_records, nothing, rows}
use Rattle.model.specs.Sound.{lot_of, overlaps, rate_of, s1}
use Rattle.facts.specs.Rows.{length_rows}
use Rattle.facts.specs.Names.{of_party}
use Rattle.places.specs.Rows.{row_at}
use Rattle.chains.specs.Group.{a_group, group_of, key_group, lot_group, request_group}
use Rattle.chains.specs.Chains.{half}
use Rattle.directory.specs.Listed.{Counted, Grouped, Listed, Tallied, only_grouped, places, tally_all, tally_more}

-- ---- the groups that are walked
abbrev pub band_group : ℕ → ℕ → ℕ → Key
band_group form tier exchange = a_group kind_band form tier exchange 0 0 no_symbol

abbrev pub rate_group : ℕ → Key
rate_group customer = a_group kind_customer_rate 0 0 0 customer 0 no_symbol

-- the kind of a record's bytes
pub kind_byte : (l : List ℕ) {r : Row} → decode l ≡ r → get_or l 0 0 ≡ r.kind
unfolding decode
kind_byte l e = ap (λ (r : Row). r.kind) e

-- of the tests of a band, those that tell its group
band_tests : (kind form tier exchange x y : Bool) → (kind && form && tier && exchange && x && y) ≡ true
    → (kind ≡ true) × (form ≡ true) × (tier ≡ true) × (exchange ≡ true)
band_tests k f t g x y e =
    let h = and_left (k && f && t && g) x (and_left (k && f && t && g && x) y e) in
    let kft = and_left (k && f && t) g h in
    let kf = and_left (k && f) t kft in
    (and_left k f kf, and_right k f kf, and_right (k && f) t kft, and_right (k && f && t) g h)

-- a group is told by the fields that it has
band_group_holds : (f t x : ℕ) (r : Row) → r.kind ≡ kind_band → r.form ≡ f → r.status ≡ t → r.flags ≡ x
    → group_of r ≡ band_group f t x
unfolding group_of key_group key_of
band_group_holds f t x r k ef et ex = rw (k, ef, et, ex)

rate_group_holds : (customer : ℕ) (r : Row) → r.kind ≡ kind_customer_rate → r.party ≡ customer
    → group_of r ≡ rate_group customer
unfolding group_of key_group key_of
rate_group_holds customer r k e = rw (k, e)

lot_group_holds : (a : ℕ) (y : Symbol) (r : Row) → r.kind ≡ kind_lot → r.party ≡ a → r.symbol ≡ y → group_of r ≡ lot_group a y
unfolding group_of
lot_group_holds a y r k ea ey = rw (k, ea, ey)

request_group_holds : (y : Symbol) (r : Row) → r.kind ≡ kind_request → r.symbol ≡ y → group_of r ≡ request_group y
unfolding group_of
request_group_holds y r k e = rw (k, e)

-- of two tests that hold, what each says of a row's fields
both_eq : (a x b y : ℕ) → (eqb a x && eqb b y) ≡ true → (a ≡ x) × (b ≡ y)
both_eq a x b y e =
    (eqb-true a x (and_left (eqb a x) (eqb b y) e), eqb-true b y (and_right (eqb a x) (eqb b y) e))

-- ---- bands
-- two bands have shares in common; and a band and a row
abbrev pub meet : Band → Band → Bool
meet a b =
    eqb a.trade_type b.trade_type && eqb a.tier b.tier && eqb a.exchange b.exchange
    && leb (up a.from.0) (up b.to.0) && leb (up b.from.0) (up a.to.0)

unfoldable pub meets : Band → Row → Bool
meets a r = is kind_band r && meet a (band_of r)

pub meets_at : (a : Band) (r : Row) {k : ℕ} {x : Band} {t : Bool} → k ≡ r.kind → x ≡ band_of r → t ≡ meet a x
    → (eqb k kind_band && t) ≡ meets a r
unfolding meets
meets_at a r e h q = rw (q, h, e)

meets_grouped : (a : Band) → Grouped (meets a) (band_group a.trade_type a.tier a.exchange)
unfolding meets band_of
meets_grouped a = record {
  all = λ r e.
      let f = eqb a.trade_type r.form in
      let t = eqb a.tier r.status in
      let x = eqb a.exchange r.flags in
      let y = leb (up a.from.0) r.n2 in
      let z = leb r.n1 (up a.to.0) in
      let kind = and_left (is kind_band r) (f && t && x && y && z) e in
      let rest = and_right (is kind_band r) (f && t && x && y && z) e in
      let h = and_left (f && t && x) y (and_left (f && t && x && y) z rest) in
      let ft = and_left (f && t) x h in
      band_group_holds a.trade_type a.tier a.exchange r (eqb-true r.kind kind_band kind)
      (sym (eqb-true a.trade_type r.form (and_left f t ft)))
      (sym (eqb-true a.tier r.status (and_right f t ft)))
      (sym (eqb-true a.exchange r.flags (and_right (f && t) x h)));
}

pub bands_counted : (a : Band) → Counted (λ r. bit (meets a r)) 1 (band_group a.trade_type a.tier a.exchange)
bands_counted a =
    only_grouped (meets a) (λ r. bit (meets a r)) 1 (band_group a.trade_type a.tier a.exchange)
    (meets_grouped a) (λ r q. rw q)

meets_is : (a r : Row) → meets (band_of a) r ≡ overlaps a r
unfolding meets band_of
meets_is a r = go (is kind_band r) refl
  where
    go : (t : Bool) → is kind_band r ≡ t → (is kind_band r && meet (band_of a) (band_of r)) ≡ overlaps a r
    go true h = rw h
    go false h = rw h

pub overlaps_counted : (rs : List Row) (a : Row) {x : Band} → x ≡ band_of a
    → count (meets x) rs ≡ count (overlaps a) rs
overlaps_counted rs a e = rw e (λ j. count (λ y. meets_is a y j) rs)

pub band_grouped : (f t x n : ℕ) → Grouped (band_for f t x n) (band_group f t x)
band_grouped f t x n = record {
  all = λ r e.
      let h = band_tests (is kind_band r) (eqb r.form f) (eqb r.status t) (eqb r.flags x) (leb r.n1 n)
      (leb n r.n2) e in
      band_group_holds f t x r (eqb-true r.kind kind_band h.0) (eqb-true r.form f h.1)
      (eqb-true r.status t h.2) (eqb-true r.flags x h.3);
}

-- ---- rates
pub rates_counted : (rs : List Row) (customer : ℕ) → Counted (rate_of rs customer) 4294967295 (rate_group customer)
rates_counted rs customer =
    only_grouped (of_party kind_customer_rate customer) (rate_of rs customer) 4294967295 (rate_group customer)
    (record {
      all = λ r e.
          let h = both_eq r.kind kind_customer_rate r.party customer e in rate_group_holds customer r h.0 h.1;
    })
    (λ r q. rw q)

module _ (rs : List Row) (customer : ℕ) (r : Row) {k : ℕ} {x : CustomerRate} (kind : k ≡ r.kind)
    (is_x : x ≡ customer_rate_of r) where
  rate_test : (eqb k kind_customer_rate && eqb x.customer.0 customer) ≡ of_party kind_customer_rate customer r
  unfolding customer_rate_of
  rate_test = rw (is_x, kind)

  pub rate_yes : {t : TaxRate} → (eqb k kind_customer_rate && eqb x.customer.0 customer) ≡ true
      → t ≡ tax_rate_of (found (a_tax_rate x.rate.0) rs) → t.rate.0 ≡ rate_of rs customer r
  unfolding customer_rate_of tax_rate_of
  rate_yes e h =
      let rate : x.rate.0 ≡ r.n1 = rw is_x in
      rw (sym rate_test ∙ e) (rw (h, rate))

  pub rate_no : (eqb k kind_customer_rate && eqb x.customer.0 customer) ≡ false
      → 0 ≡ rate_of rs customer r
  rate_no e = rw (sym rate_test ∙ e)

-- ---- shares
-- a signed number's distance from zero where it is on this side of it, and 0 on the other
abbrev side : Bool → ℕ → ℕ
side true x = dn (to_z w64 x)
side false x = up (to_z w64 x)

abbrev pub shares_part : Bool → ℕ → Symbol → Row → ℕ
shares_part owed account symbol r = cond (lot_of account symbol r) (side owed r.m1) 0

-- what a row adds to a side, and the sum over the rows, as shares
abbrev pub AddsSide : Bool → ℕ → Symbol → Row → Shares → Type 0
AddsSide owed account symbol r x = (x.0 ≡ pos (shares_part owed account symbol r)) × (nat_abs x.0 ≤ shares_most)

abbrev pub HoldsSide : Bool → ℕ → Symbol → List Row → Shares → Type 0
HoldsSide owed account symbol rs x =
    (x.0 ≡ pos (total (shares_part owed account symbol) rs)) × (nat_abs x.0 ≤ shares_most * most_records)

pub lots_grouped : (account : ℕ) (symbol : Symbol) → Grouped (lot_of account symbol) (lot_group account symbol)
lots_grouped account symbol = record {
  all = λ r e.
      let x = is kind_lot r && eqb r.party account in
      let h = both_eq r.kind kind_lot r.party account (and_left x (same_symbol r.symbol symbol) e) in
      lot_group_holds account symbol r h.0 h.1
      (same_symbol_holds r.symbol symbol (and_right x (same_symbol r.symbol symbol) e));
}

-- a row is a lot of the holding
pub lot_told : (account : ℕ) (symbol : Symbol) (r : Row) {k : ℕ} {x : Lot} {t : Bool} → k ≡ r.kind
    → x ≡ kinds.lot_of r → t ≡ (eqb x.account.0 account && same_symbol x.symbol symbol)
    → (eqb k kind_lot && t) ≡ lot_of account symbol r
unfolding kinds.lot_of
lot_told account symbol r e h q =
    rw (q, h, e)
    ((and_assoc (is kind_lot r) (eqb r.party account) (same_symbol r.symbol symbol)))

pub lot_amount : (r : Row) {x : Lot} → x ≡ kinds.lot_of r → x.shares.0 ≡ to_z w64 r.m1
unfolding kinds.lot_of
lot_amount r h = rw h

pub shares_counted : (owed : Bool) (account : ℕ) (symbol : Symbol)
    → Counted (shares_part owed account symbol) shares_most (lot_group account symbol)
shares_counted owed account symbol =
    only_grouped (lot_of account symbol) (shares_part owed account symbol) shares_most (lot_group account symbol)
    (lots_grouped account symbol) (λ r q. rw q)

-- the shares of a lot that fits the grid are in their range
lot_most : (r : Row) → r.kind ≡ kind_lot → fits r ≡ true → nat_abs (to_z w64 r.m1) ≤ shares_most
lot_most r k e = ((means_lot r).shows (as_kind kind_lot r k ∙ e)).0.1

-- a lot's part in a holding of its account and symbol, and in any other
lot_size : (account : ℕ) (symbol : Symbol) (r : Row) → fits r ≡ true → lot_of account symbol r ≡ true
    → nat_abs (to_z w64 r.m1) ≤ shares_most
lot_size account symbol r f here =
    let k = and_left (is kind_lot r) (eqb r.party account)
    (and_left (is kind_lot r && eqb r.party account) (same_symbol r.symbol symbol) here)
    in
    lot_most r (eqb-true r.kind kind_lot k) f

sides_below : (z : ℤ) → lt_z z (pos 0) ≡ true → (pos 0 ≡ pos (up z)) × (neg_ℤ z ≡ pos (dn z))
sides_below (pos n) e = let h : ⊥ = omega (arith, ltb-true n 0 e) in absurd h
sides_below (negsuc n) e = (refl, refl)

sides_above : (z : ℤ) → lt_z z (pos 0) ≡ false → (z ≡ pos (up z)) × (pos 0 ≡ pos (dn z))
sides_above (pos n) e = (refl, refl)
sides_above (negsuc n) e = let z : ◌≡◌ {A = ℕ} 0 1 = cc in absurd (omega arith)

module _ (account : ℕ) (symbol : Symbol) (r : Row) where
  pub adds_none : (owed : Bool) → lot_of account symbol r ≡ false → AddsSide owed account symbol r (shares (pos 0))
  adds_none owed e = (rw e, omega arith)

  module _ {x : Shares} (fit : fits r ≡ true) (mine : lot_of account symbol r ≡ true)
      (is_x : x.0 ≡ to_z w64 r.m1) where
    pub adds_size : nat_abs x.0 ≤ shares_most
    adds_size = rw is_x (lot_size account symbol r fit mine)

    pub adds_owed : {y : Shares} → lt_z x.0 (pos 0) ≡ true → y.0 ≡ neg_ℤ x.0 → nat_abs y.0 ≡ nat_abs x.0
        → AddsSide false account symbol r (shares (pos 0)) × AddsSide true account symbol r y
    adds_owed e is_y size =
        let z = sides_below (to_z w64 r.m1) (rw is_x at e) in
        ((rw mine z.0, omega arith), (rw (is_y, is_x, mine) z.1, rw size adds_size))

    pub adds_long : lt_z x.0 (pos 0) ≡ false
        → AddsSide false account symbol r x × AddsSide true account symbol r (shares (pos 0))
    adds_long e =
        let z = sides_above (to_z w64 r.m1) (rw is_x at e) in
        ((rw (is_x, mine) z.0, adds_size), (rw mine z.1, omega arith))

pub lots_counted : (account : ℕ) (symbol : Symbol)
    → Counted (λ r. bit (lot_of account symbol r)) 1 (lot_group account symbol)
lots_counted account symbol =
    only_grouped (lot_of account symbol) (λ r. bit (lot_of account symbol r)) 1 (lot_group account symbol)
    (lots_grouped account symbol) (λ r q. rw q)

-- ---- rows in turn
abbrev pub request_on : Symbol → Row → Bool
request_on symbol r = is kind_request r && same_symbol r.symbol symbol

pub requests_grouped : (symbol : Symbol) → Grouped (request_on symbol) (request_group symbol)
requests_grouped symbol = record {
  all = λ r e.
      request_group_holds symbol r
      (eqb-true r.kind kind_request (and_left (is kind_request r) (same_symbol r.symbol symbol) e))
      (same_symbol_holds r.symbol symbol (and_right (is kind_request r) (same_symbol r.symbol symbol) e));
}

-- the rows of the groups that are walked in turn
abbrev pub member : Key → Row → Bool
member k r = cond (eqb k.kind kind_request) (request_on k.symbol r) (lot_of k.party k.symbol r)

-- every row of a book that keeps S1 fits
pub fits_there : (b : List ℕ) (c : ℕ) → s1 (rows b) ≡ true → c < places b → fits (row_at b c) ≡ true
unfolding s1
fits_there b c e h = every_at fits nothing (rows b) c e (rw length_rows h)

pub same_bit : {x : ℕ} {y z : Bool} → x ≡ bit y → y ≡ z → x ≡ bit z
same_bit e h = e ∙ ap bit h

-- a test as a number, as the code has it
pub bit_from : (t : Bool) → from_bool t ≡ bit t
bit_from true = refl
bit_from false = refl

pub bit_small : (t : Bool) → bit t ≤ 1
bit_small true = omega arith
bit_small false = omega arith

pub bit_yes : (t : Bool) → t ≡ true → 1 ≡ bit t
bit_yes t e = rw e

pub bit_no : (t : Bool) → t ≡ false → 0 ≡ bit t
bit_no t e = rw e

-- ---- the shares of one side, gathered along the chain
pub record Gathered (owed : Bool) (account : ℕ) (symbol : Symbol) (b d : List ℕ) (x : Shares) (c : ℕ) : Type 0 where
  pub sum : Tallied (shares_part owed account symbol) shares_most (lot_group account symbol) b d
      (total (shares_part owed account symbol) (rows b)) (up x.0) c
  pub whole : x.0 ≡ pos (up x.0)

size_up : (z : ℤ) → z ≡ pos (up z) → nat_abs z ≡ up z
size_up z e = ap nat_abs e

module _ {owed : Bool} {account : ℕ} {symbol : Symbol} {b d : List ℕ} {x : Shares} {c : ℕ}
    (g : Gathered owed account symbol b d x c) where
  pub gather_size : places b ≤ most_records → nat_abs x.0 ≤ shares_most * most_records
  gather_size few =
      let small = g.sum.small in
      let within = g.sum.within in
      let e = size_up x.0 g.whole in
      omega arith

  pub gather_more : {y z : Shares} {u : ℕ} → Listed b d → c < places b → AddsSide owed account symbol (row_at b c) y
      → z ≡ shares (x.0 +ℤ y.0) → u ≡ get_or d (half d + c) 0 → Gathered owed account symbol b d z u
  gather_more {y} {z} s h a e q =
      let p = shares_part owed account symbol (row_at b c) in
      let few : p ≤ shares_most = rw a.0 at a.1 in
      let both : x.0 +ℤ y.0 ≡ pos (up x.0) +ℤ pos p = λ i. g.whole i +ℤ a.0 i in
      let total-is : z.0 ≡ pos (up x.0 + p) = ap (λ (v : Shares). v.0) e ∙ both in
      record { sum = rw total-is (tally_more g.sum s h refl refl few q); whole = rw total-is }

  pub gather_all : places b ≤ most_records → places b ≤ c → HoldsSide owed account symbol (rows b) x
  gather_all few e = (g.whole ∙ ap pos (tally_all g.sum e), gather_size few)
