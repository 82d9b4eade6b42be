-- A result that is done leaves S3, S4 and S5: all that is named is there, and bands and rates are as they were. Assumes
-- nothing.
use Rattle.std.specs.Prelude.{◌≡◌, refl, false, Bool, true, not, ℕ, zero, suc, ◌≤◌, get_or, length}
use Rattle.std.proofs.Math.Path.{sym}
use Rattle.std.proofs.Common.{subst, ◌∙◌, arith, eq-eqb, ne_eqb}
use mathlib.Core.List.{List, [], ◌∷◌, Memᴰ}
use Rattle.std.proofs.lemmas.Bool.{not-true}
use Rattle.laws.specs.All.{All, all_more, all_none, all_one}
use Rattle.laws.specs.Keep.{count_has}
use Rattle.laws.specs.Search.{count, every, means_every}
use Rattle.laws.specs.Tests.{and_left, and_right}
use Rattle.record.specs.Codes.{kind_band, kind_broker, kind_customer, kind_customer_rate, kind_lot, kind_summary, kind_trade}
use Rattle.keys.specs.declared.Key.{Key}
use Rattle.record.specs.declared.row.Row.{Row}
use Rattle.keys.specs.Key.{among}
use Rattle.model.specs.Lots.{Closing}
use Rattle.model.specs.Names.{a_security, a_tax_rate, a_trade, an_account, named, names}
use Rattle.model.specs.Rows.{has_key, nothing, same_row}
use Rattle.model.specs.Sound.{overlaps}
use Rattle.model.specs.SoundMeans.{S3, S4, S5, There}
use Rattle.model.specs.Result.{Sums, added, broker_write, trade_write, holding}
use Rattle.facts.specs.Found.{own_number}
use Rattle.facts.specs.Sound.{names_account, names_broker}
use Rattle.facts.specs.Result.{Read}
use Rattle.preserved.specs.Looks.{rates_alike}
use Rattle.preserved.specs.ResultAfter.{after, after_each, key_stays, quiet_count, still, still_found, still_sum}
use Rattle.preserved.specs.ResultAfter.{still_was}
use Rattle.preserved.specs.ResultEach.{Each, each_write, lot_after, lot_kinds, summary_after}
use Rattle.preserved.specs.ResultFresh.{book}

-- ---- what a row names is of certain kinds only
every_or : {A : Type 0} (p : A → Bool) (d : A) (l : List A) (i : ℕ) → every p l ≡ true → p d ≡ true
    → p (get_or l i d) ≡ true
unfolding every
every_or p d [] i e h = h
every_or p d (x ∷ l) zero e h = and_left (p x) (every p l) e
every_or p d (x ∷ l) (suc i) e h = every_or p d l i (and_right (p x) (every p l) e) h

abbrev off : List ℕ → Key → Bool
off l k = not (among k.kind l)

pub named_off : (l : List ℕ) (x : Row) → every (λ (f : Row → List Key). every (off l) (f x)) names ≡ true
    → (k : Key) → Memᴰ k (named x) → among k.kind l ≡ false
unfolding named every
named_off l x e k m =
    let all : every (off l) (named x) ≡ true =
    every_or (λ (f : Row → List Key). every (off l) (f x)) (λ (s : Row). []) names x.kind e refl
    in
    not-true (among k.kind l)
    ((means_every {p = off l} (named x) (λ j. record { shows = λ h. h; holds = λ h. h })).shows all k m)

-- no lot, no summary and no lot history
pub named_aside : (x : Row) (k : Key) → Memᴰ k (named x) → among k.kind lot_kinds ≡ false
unfolding every
named_aside x = named_off lot_kinds x refl

names_lot : (l : Row) → l.kind ≡ kind_lot
    → named l ≡ a_trade l.id ∷ an_account l.party ∷ a_security l.symbol ∷ []
unfolding named
names_lot l e = rw e

names_summary : (s : Row) → s.kind ≡ kind_summary → named s ≡ an_account s.party ∷ a_security s.symbol ∷ []
unfolding named
names_summary s e = rw e

names_none : (b : Row) → b.kind ≡ kind_broker → named b ≡ []
unfolding named
names_none b e = rw e

module _ {rs : List Row} {t summary account broker : Row} {cs : List Closing}
    (r : Read rs t summary account broker cs) (n : Sums)
    (space : length (added t summary cs n) ≤ count (same_row nothing) rs) where
  -- ---- S3
  abbrev Named : Row → Type 0
  Named x = All (λ (k : Key). There k (after r n space)) (named x)

  was_named : All Named rs
  was_named x m k h =
      let was : There k rs = (book r n).s3 x m k h in
      let more = key_stays r n space k (named_aside x k h) in
      omega arith

  alike : (o x : Row) → Memᴰ o rs → named x ≡ named o → Named x
  alike o x m e = subst (All (λ (k : Key). There k (after r n space))) (sym e) (was_named o m)

  own_trade : There (a_trade t.id) (after r n space)
  own_trade =
      let own = own_number kind_trade refl t.id t (eq-eqb t.kind kind_trade r.t_kind) refl in
      let was = count_has (has_key (a_trade t.id)) t rs r.t_held own in
      let more = key_stays r n space (a_trade t.id) refl in
      omega arith

  -- the account and the security of the trade
  of_trade : All (λ (k : Key). There k (after r n space)) (an_account t.party ∷ a_security t.symbol ∷ [])
  of_trade =
      subst (All (λ (k : Key). There k (after r n space))) (names_account t r.t_kind) (was_named t r.t_held)

  of_lot_holds : (c : Closing) → Memᴰ c cs → There (a_trade c.lot.id) (after r n space)
  of_lot_holds c m =
      let h = r.c_held c m in
      subst (All (λ (k : Key). There k (after r n space))) (names_lot c.lot h.1) (was_named c.lot h.0)
      (a_trade c.lot.id) (Memᴰ.head refl)

  come_named : Each t summary account cs n (λ (w : Row × Row). Named w.1)
  unfolding named
  come_named = record {
    closed = λ c m. all_more P _ _ (of_lot_holds c m) (all_one P _ own_trade);
    opened = λ z. all_more P _ _ own_trade (all_one P _ own_trade);
    lot = λ z. all_more P _ _ own_trade of_trade;
    begun = λ z. of_trade;
    history = all_one P _ own_trade;
    settled = all_one P _ own_trade;
    paid = λ z. all_one P _ own_trade;
    less = λ c m z.
        let h = r.c_held c m in
        let x = lot_after t c in
        alike c.lot x h.0 (names_lot x h.1 ∙ sym (names_lot c.lot h.1));
    summed = λ z g.
        let h = r.s_held z in
        let x = summary_after t summary in
        alike summary x h.0 (names_summary x h.1 ∙ sym (names_summary summary h.1));
    balanced =
        let x = holding account n.balance in
        alike account x r.a_held (names_broker x r.a_kind ∙ sym (names_broker account r.a_kind));
    trade =
        let x = (trade_write t n).1 in
        alike t x r.t_held (names_account x r.t_kind ∙ sym (names_account t r.t_kind));
    freed = λ c m. all_none P;
    emptied = λ z. all_none P;
  }
    where
      P : Key → Type 0
      P k = There k (after r n space)

  pub names_left : S3 (after r n space)
  names_left =
      after_each r n space Named was_named
      (each_write r n (λ (w : Row × Row). Named w.1) come_named
      (alike broker (broker_write broker n).1 r.b_held
      (names_none (broker_write broker n).1 r.b_kind ∙ sym (names_none broker r.b_kind))))

  -- ---- S4
  pub bands_left : S4 (after r n space)
  bands_left x m e =
      quiet_count r n space (overlaps x)
      (still r n space kind_band (refl, refl) (overlaps x) (λ y d. rw (ne_eqb y.kind kind_band d)))
      ∙ (book r n).s4 x (still_was r n space kind_band (refl, refl) x m e) e

  -- ---- S5
  pub rates_left : S5 (after r n space)
  rates_left x m e =
      let was = (book r n).s5 x (still_was r n space kind_customer (refl, refl) x m e) e in
      let same =
      rates_alike (after r n space) rs (λ i. still_found r n space (a_tax_rate i) (refl, refl))
      (still_sum r n space kind_customer_rate (refl, refl)) x.party
      in
      omega arith
