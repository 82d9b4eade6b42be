-- What an order reads, as the code has it, and the ranges that a sound book and a good input keep it in. Assumes
-- nothing.
use Rattle.std.specs.Prelude.{◌≡◌, Bool, true, List, ℕ, ◌+◌, ◌≤◌, pos, ltb}
use Rattle.std.proofs.Common.{ap, ne_eqb}
use Rattle.laws.specs.Search.{largest, place}
use Rattle.record.specs.Signed.{up}
use Rattle.record.specs.declared.row.Row.{Row}
use Rattle.record.specs.declared.symbol.Symbol.{Symbol}
use Rattle.kinds.specs.Inputs.{order_input_of}
use Rattle.kinds.specs.Kinds.{account_of, security_of}
use Rattle.units.specs.Units.{cents}
use Rattle.kinds.specs.declared.inputs.OrderInput.{OrderInput}
use Rattle.kinds.specs.declared.rows.Account.{Account}
use Rattle.kinds.specs.declared.rows.Security.{Security}
use Rattle.units.specs.declared.AccountNo.{AccountNo}
use Rattle.units.specs.declared.Cents.{Cents}
use Rattle.units.specs.declared.PerHundredThousand.{PerHundredThousand}
use Rattle.rules.specs.Meaning.{means_order_input}
use Rattle.rules.specs.Ranges.{commission_part, price_most, shares_most, tax_part}
use Rattle.rules.specs.Rules.{order_input}
use Rattle.model.specs.declared.BandAnswer.{BandAnswer}
use Rattle.model.specs.Band.{band_answer, commission_rate}
use Rattle.model.specs.Names.{a_charge, a_customer, a_permission, a_security, an_account}
use Rattle.model.specs.Order.{next_number, permitted, trade_id}
use Rattle.model.specs.Rows.{found, has_key, rows, there}
use Rattle.model.specs.Sound.{rates_of, sound}
use Rattle.facts.specs.Found.{sound_s1}
use Rattle.facts.specs.Most.{price_most_holds, rate_most, rates_most}
use Rattle.places.specs.Rows.{row_at}
use Rattle.directory.specs.Found.{key_row, key_there}
use Rattle.directory.specs.Listed.{places}
use Rattle.money.specs.Amounts.{UpTo, up_to}
use Rattle.estimate.specs.declared.terms.Holder.{Holder}
use Rattle.estimate.specs.declared.terms.Paper.{Paper}
use Rattle.estimate.specs.declared.terms.Terms.{Terms}

abbrev pub holder_of : List Row → AccountNo → Holder
holder_of rs a = record { row = account_of (found (an_account a.0) rs); known = there (an_account a.0) rs }

abbrev pub paper_of : List Row → Symbol → Paper
paper_of rs symbol = record { row = security_of (found (a_security symbol) rs); known = there (a_security symbol) rs }

abbrev per_hundred_thousand : ℕ → PerHundredThousand
per_hundred_thousand x = record { 0 = x }

unfoldable pub terms_of : List Row → OrderInput → Terms
terms_of rs i =
    let a = found (an_account i.account.0) rs in
    let s = found (a_security i.symbol) rs in
    let tier = (found (a_customer a.n2) rs).form in
    record {
      holder = holder_of rs i.account;
      permitted = permitted rs i.account.0 i.executor.0;
      paper = paper_of rs i.symbol;
      charge = cents (pos (found (a_charge i.trade_type tier) rs).n1);
      rates = per_hundred_thousand (rates_of rs a.n2);
      band = band_answer rs i.trade_type tier s.form (up i.shares.0);
      number = record { 0 = next_number rs };
    }

-- a row by its place, and whether it is there
module _ (b : List ℕ) {x n : ℕ} {r : Row} (g : n ≡ places b) where
  pub holder_is : (a : AccountNo) {h : Account} → x ≡ place (has_key (an_account a.0)) (rows b) → r ≡ row_at b x
      → h ≡ account_of r → ◌≡◌ {A = Holder} (record { row = h; known = ltb x n }) (holder_of (rows b) a)
  holder_is a e q f =
      let k = key_row (an_account a.0) b e q in
      let t = key_there (an_account a.0) b e in
      rw (f, k, g, t)

  pub paper_is : (symbol : Symbol) {s : Security} → x ≡ place (has_key (a_security symbol)) (rows b) → r ≡ row_at b x
      → s ≡ security_of r → ◌≡◌ {A = Paper} (record { row = s; known = ltb x n }) (paper_of (rows b) symbol)
  paper_is symbol e q f =
      let k = key_row (a_security symbol) b e q in
      let t = key_there (a_security symbol) b e in
      rw (f, k, g, t)

-- who may order
pub owner_may : (rs : List Row) (a e : ℕ) → e ≡ 0 → true ≡ permitted rs a e
unfolding permitted
owner_may rs a e h = rw h

pub other_may : (b : List ℕ) (a e : ℕ) {x n : ℕ} → (e ≡ 0 → ⊥)
    → x ≡ place (has_key (a_permission a e)) (rows b) → n ≡ places b → ltb x n ≡ permitted (rows b) a e
unfolding permitted
other_may b a e h q g = rw (ne_eqb e 0 h, g, key_there (a_permission a e) b q)

-- each of them as it is read
pub terms_are : (rs : List Row) (i : OrderInput) {h : Holder} {p : Paper} {tier top : ℕ} {c : Cents}
    {ts : PerHundredThousand} {k : BandAnswer} {a : Bool} → h ≡ holder_of rs i.account
    → a ≡ permitted rs i.account.0 i.executor.0 → p ≡ paper_of rs i.symbol
    → tier ≡ (found (a_customer h.row.customer.0) rs).form
    → c ≡ cents (pos (found (a_charge i.trade_type tier) rs).n1)
    → ts.0 ≡ rates_of rs h.row.customer.0
    → k ≡ band_answer rs i.trade_type tier p.row.exchange (up i.shares.0) → top ≡ largest trade_id rs
    → ◌≡◌ {A = Terms}
    (record {
      holder = h;
      permitted = a;
      paper = p;
      charge = c;
      rates = ts;
      band = k;
      number = record { 0 = top + 1 };
    })
    (terms_of rs i)
unfolding terms_of account_of security_of next_number
terms_are rs i e w f g m n o q =
    let t = ap per_hundred_thousand n in
    rw (q, t, o, m, g, e, w, f)

-- ---- the ranges
pub record Fits (i : OrderInput) : Type 0 where
  pub shares : UpTo shares_most i.shares.0
  pub bid : i.bid.0 ≤ price_most

pub fits_of : (r : Row) {i : OrderInput} → i ≡ order_input_of r → order_input r ≡ true → Fits i
unfolding order_input_of
fits_of r e h =
    let l = ((means_order_input r).shows h).0.0.2.2.2.2.2.2.2 in
    rw e (record { shares = up_to shares_most r.n1 l.1; bid = l.2.1 })

pub record Ranged (t : Terms) : Type 0 where
  pub rates : t.rates.0 ≤ tax_part.high
  pub rate : commission_rate t.band ≤ commission_part.high
  pub price : t.paper.row.last_price.0 ≤ price_most

pub ranged : (rs : List Row) (i : OrderInput) {t : Terms} → sound rs ≡ true → t ≡ terms_of rs i → Ranged t
unfolding terms_of security_of
ranged rs i s e =
    let a = found (an_account i.account.0) rs in
    let tier = (found (a_customer a.n2) rs).form in
    let exchange = (found (a_security i.symbol) rs).form in
    let f = sound_s1 rs s in
    rw e (record {
      rates = rates_most rs a.n2 s;
      rate = rate_most rs i.trade_type tier exchange (up i.shares.0) f;
      price = price_most_holds rs i.symbol f;
    })
