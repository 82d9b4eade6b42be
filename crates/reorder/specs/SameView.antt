-- Two sound books that agree on an account's rows and on those that no result changes: a result of the account reads
-- the same of both. Assumes nothing.
use Rattle.std.specs.Prelude.{◌≡◌, true, false, not, ◌&&◌, List, ℕ, eqb}
use Rattle.std.proofs.Math.Path.{refl, ap}
use Rattle.std.proofs.Common.{sym, ◌∙◌, eq-eqb, eqb-true}
use Rattle.laws.specs.Keep.{count_one}
use Rattle.laws.specs.Tests.{◌⇔◌, and_both, and_left, and_right}
use Rattle.record.specs.Codes.{kind_account, kind_band, kind_customer_rate, kind_free, kind_lot, kind_lot_history}
use Rattle.record.specs.Codes.{kind_summary, kind_trade}
use Rattle.keys.specs.Key.{among}
use Rattle.record.specs.Symbol.{same_symbol}
use Rattle.keys.specs.declared.Key.{Key}
use Rattle.record.specs.declared.row.Row.{Row}
use Rattle.record.specs.declared.symbol.Symbol.{Symbol}
use Rattle.model.specs.Band.{answer_of, band_answer, band_for}
use Rattle.model.specs.Flags.{lifo}
use Rattle.model.specs.Lots.{before, closes, lots_for}
use Rattle.model.specs.Money.{buys}
use Rattle.model.specs.Names.{a_customer, a_lot, a_security, a_summary, a_tax_rate, a_trade, an_account}
use Rattle.model.specs.Result.{View, view}
use Rattle.model.specs.Rows.{found, has_key, is, nothing, same_row}
use Rattle.model.specs.Sound.{lot_of, rates_of, short, sound}
use Rattle.facts.specs.Rows.{row_itself, same_rows}
use Rattle.facts.specs.Names.{by_holder, by_id_holds, by_party_holds}
use Rattle.facts.specs.Keys.{key_kind}
use Rattle.preserved.specs.Looks.{rates_alike}
use Rattle.preserved.specs.Once.{band_once, key_once, means_band}
use Rattle.preserved.specs.Cases.{no}
use Rattle.reorder.specs.Agree.{Agree, the_agree, total_agree}
use Rattle.reorder.specs.Earlier.{before_both, before_total, before_trans}
use Rattle.reorder.specs.Sorted.{sort_agree}
use Rattle.reorder.specs.Whose.{aside, by_party, by_trade, mine, mine_none, mine_own, whose_none, whose_party}
use Rattle.reorder.specs.Whose.{whose_trade}

-- ---- what a result of the account a reads
module _ (own : ℕ → ℕ) (a : ℕ) (s t : List Row) (good : sound t ≡ true) (h : Agree same_row (mine own a) s t) where
  found_same : (k : Key) → eqb k.kind kind_free ≡ false → ((x : Row) → has_key k x ≡ true → mine own a x ≡ true)
      → found k s ≡ found k t
  unfolding found
  found_same k live own-rows =
      the_agree same_row same_rows row_itself (has_key k) (mine own a) nothing own-rows s t h (key_once t good k live)

  -- a kind that no result changes
  abbrev Common : ℕ → Type 0
  Common k =
      (not (among k aside) ≡ true) × (among k by_party ≡ false)
      × (among k by_trade ≡ false) × (eqb k kind_lot_history ≡ false)

  common : (k : ℕ) → Common k → (x : Row) → x.kind ≡ k → mine own a x ≡ true
  common k c x e = mine_none own a x k e c.0 (whose_none own x k e c.1 c.2 c.3)

  found_common : (k : Key) → eqb k.kind kind_free ≡ false → Common k.kind → found k s ≡ found k t
  found_common k live c = found_same k live (λ x e. common k.kind c x (key_kind k x e))

  trade_same : (i : ℕ) → own i ≡ a → found (a_trade i) s ≡ found (a_trade i) t
  trade_same i e =
      found_same (a_trade i) refl
      (λ x q.
      let k = key_kind (a_trade i) x q in
      let n = eqb-true x.id i (and_right (is kind_trade x) _ (sym (by_id_holds kind_trade refl i x) ∙ q)) in
      mine_own own a x kind_trade k refl (whose_trade own x kind_trade k refl refl ∙ ap own n ∙ e))

  account_same : (n : ℕ) → n ≡ a → found (an_account n) s ≡ found (an_account n) t
  account_same n e =
      found_same (an_account n) refl
      (λ x q.
      let k = key_kind (an_account n) x q in
      let p = eqb-true x.party n (and_right (is kind_account x) _ (sym (by_party_holds kind_account refl n x) ∙ q)) in
      mine_own own a x kind_account k refl (whose_party own x kind_account k refl ∙ p ∙ e))

  summary_same : (n : ℕ) (y : Symbol) → n ≡ a → found (a_summary n y) s ≡ found (a_summary n y) t
  summary_same n y e =
      found_same (a_summary n y) refl
      (λ x q.
      let k = key_kind (a_summary n y) x q in
      let both = and_left (is kind_summary x && eqb x.party n) _ (sym (by_holder n y x) ∙ q) in
      let p = eqb-true x.party n (and_right (is kind_summary x) _ both) in
      mine_own own a x kind_summary k refl (whose_party own x kind_summary k refl ∙ p ∙ e))

  rates_same : (c : ℕ) → rates_of s c ≡ rates_of t c
  rates_same =
      rates_alike s t (λ i. found_common (a_tax_rate i) refl (refl, refl, refl, refl))
      (λ μ none. total_agree same_row same_rows row_itself (mine own a) μ
      (λ x off. none x (λ k. no off (common kind_customer_rate (refl, refl, refl, refl) x k))) s t h)

  band_same : (form tier exchange shares : ℕ)
      → band_answer s form tier exchange shares ≡ band_answer t form tier exchange shares
  unfolding band_answer
  band_same form tier exchange shares =
      ap answer_of
      (the_agree same_row same_rows row_itself (λ r. band_for form tier exchange shares r) (mine own a) nothing
      (λ x e.
      common kind_band (refl, refl, refl, refl) x ((means_band form tier exchange shares x).shows e).0.0.0.0.0)
      s t h (band_once t good form tier exchange shares))

  lot_fields : (form n : ℕ) (y : Symbol) (x : Row) → closes form n y x ≡ true → (x.kind ≡ kind_lot) × (x.party ≡ n)
  lot_fields form n y x e =
      let l = and_left (lot_of n y x) (buys form ⇔ short x) e in
      let g = and_left (is kind_lot x && eqb x.party n) (same_symbol x.symbol y) l in (
        eqb-true x.kind kind_lot (and_left (is kind_lot x) (eqb x.party n) g),
        eqb-true x.party n (and_right (is kind_lot x) (eqb x.party n) g),
      )

  lot_key : (x : Row) (i : ℕ) → x.kind ≡ kind_lot → x.id ≡ i → has_key (a_lot i) x ≡ true
  lot_key x i k e =
      by_id_holds kind_lot refl i x
      ∙ and_both (is kind_lot x) (eqb x.id i) (eq-eqb x.kind kind_lot k) (eq-eqb x.id i e)

  lots_same : (form flags n : ℕ) (y : Symbol) → n ≡ a → lots_for s form flags n y ≡ lots_for t form flags n y
  unfolding lots_for
  lots_same form flags n y e =
      sort_agree (before (lifo flags)) (before_total (lifo flags)) (before_trans (lifo flags))
      (closes form n y) same_row same_rows row_itself s t
      (λ x z m o p q u v.
      let i = before_both (lifo flags) x z u v in
      count_one (has_key (a_lot z.id)) x z t (key_once t good (a_lot z.id) refl) m o
      (lot_key x z.id (lot_fields form n y x p).0 i) (lot_key z z.id (lot_fields form n y z q).0 refl))
      (λ x p.
      let l = lot_fields form n y x p in
      h x (mine_own own a x kind_lot l.0 refl (whose_party own x kind_lot l.0 refl ∙ l.1 ∙ e)))

  -- all of it, of the trade and the account
  abbrev seen_of : List Row → Row → Row → View
  seen_of rs t a = record {
    trade = t;
    account = a;
    summary = found (a_summary t.party t.symbol) rs;
    rates = rates_of rs a.n2;
    band =
        band_answer rs t.form (found (a_customer a.n2) rs).form (found (a_security t.symbol) rs).form t.n1;
    lots = lots_for rs t.form t.flags t.party t.symbol;
  }

  same_seen : (r c : Row) → r.party ≡ a → seen_of s r c ≡ seen_of t r c
  same_seen r c e =
      let tier = found_common (a_customer c.n2) refl (refl, refl, refl, refl) in
      let exchange = found_common (a_security r.symbol) refl (refl, refl, refl, refl) in
      let band =
      band_same r.form (found (a_customer c.n2) s).form (found (a_security r.symbol) s).form r.n1
      ∙ ap (λ (x : Row). band_answer t r.form x.form (found (a_security r.symbol) s).form r.n1) tier
      ∙ ap (λ (x : Row). band_answer t r.form (found (a_customer c.n2) t).form x.form r.n1) exchange
      in
      λ i. record {
        trade = r;
        account = c;
        summary = summary_same r.party r.symbol e i;
        rates = rates_same c.n2 i;
        band = band i;
        lots = lots_same r.form r.flags r.party r.symbol e i;
      }

  pub same_view : (input : Row) → own input.id ≡ a → (found (a_trade input.id) t).party ≡ a
      → view s input ≡ view t input
  unfolding view
  same_view input e p =
      let f = found (a_trade input.id) t in
      ap (λ (r : Row). seen_of s r (found (an_account r.party) s)) (trade_same input.id e)
      ∙ ap (seen_of s f) (account_same f.party p)
      ∙ same_seen f (found (an_account f.party) t) p
