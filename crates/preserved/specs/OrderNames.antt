-- An order that is taken leaves S2 to S5: each key is there once, all that is named is there, and bands and rates are
-- as they were. Assumes nothing.
use Rattle.std.specs.Prelude.{◌≡◌, Bool, cond, ◌⊎◌, ℕ, ◌+◌, eqb, leb}
use Rattle.std.proofs.Math.Path.{refl}
use Rattle.std.proofs.Common.{sym, ap, ◌∙◌, arith}
use Rattle.std.proofs.Math.Bool.{true, false}
use mathlib.Core.List.{List, [], ◌∷◌, Memᴰ}
use Rattle.std.proofs.Math.Logic.{inl, inr, ⊎_elim}
use borrow.Author.Tests.{eq-eqb, eqb-false, eqb-true, le-leb, ne_eqb}
use Rattle.laws.specs.All.{All, all_more, all_one}
use Rattle.laws.specs.Keep.{count_has}
use Rattle.laws.specs.Search.{bit, count, the}
use Rattle.record.specs.Codes.{kind_band, kind_customer, kind_free, kind_request, kind_trade, kind_trade_history, tms}
use Rattle.keys.specs.Key.{among, by_id, key_of}
use Rattle.keys.specs.KeyLaws.{key_itself, same_keys}
use Rattle.keys.specs.declared.Key.{Key}
use Rattle.record.specs.declared.row.Row.{Row}
use Rattle.model.specs.Names.{a_broker, a_security, a_tax_rate, a_trade, an_account, named}
use Rattle.model.specs.Rows.{found, has_key, is, nothing, there}
use Rattle.model.specs.Sound.{overlaps}
use Rattle.model.specs.SoundMeans.{S2, S3, S4, S5, There}
use Rattle.facts.specs.Found.{own_number, found_kind, found_member}
use Rattle.facts.specs.Names.{other_kind}
use Rattle.facts.specs.Sound.{names_broker}
use Rattle.facts.specs.Keys.{own_key, OfKind, key_of_holds, kind_of_holds}
use Rattle.preserved.specs.ResultEach.{lot_kinds}
use Rattle.preserved.specs.Cases.{by_cases, no, not_among, not_so}
use Rattle.preserved.specs.Looks.{rates_alike}
use Rattle.preserved.specs.OrderAdds.{grown, grown_comes, grown_count, grown_each, grown_total, still_count}
use Rattle.preserved.specs.OrderAdds.{still_the, still_was}
use Rattle.preserved.specs.OrderFresh.{Taken, added, book, count_added, each_added, history, none_numbered}
use Rattle.preserved.specs.OrderFresh.{not_numbered, request, trade}
use Rattle.preserved.specs.ResultNames.{named_aside}

-- the kinds of which an order adds rows
abbrev pub order_kinds : List ℕ
order_kinds = kind_free ∷ kind_trade ∷ kind_trade_history ∷ kind_request ∷ []

-- a row of another kind than the key's
pub off_key : (k : Key) (x : Row) → eqb x.kind k.kind ≡ false → has_key k x ≡ false
off_key k x e = key_of_holds k x (eqb-false x.kind k.kind e)

same_key_holds : (x h : Row) → has_key (key_of x) h ≡ true → has_key (key_of h) x ≡ true
unfolding has_key
same_key_holds x h e =
    let q = same_keys (key_of h) (key_of x) e in
    ap (λ (k : Key). has_key k x) q ∙ key_itself (key_of x)

no_more : (t : Bool) → cond t (bit false) (bit false) ≡ bit false
no_more true = refl
no_more false = refl

module _ {rs : List Row} {input : Row} {broker number price charge commission : ℕ}
    (o : Taken rs input broker number price charge commission) where
  abbrev pub left : List Row
  left = grown rs (added o)

  -- ---- rows of kinds that are not added
  module _ (k : ℕ) (off : among k order_kinds ≡ false) (p : Row → Bool) (only : OfKind k p) where
    off_row : (x : Row) → among x.kind order_kinds ≡ true → p x ≡ false
    off_row x e = only x (not_among order_kinds k x.kind off e)

    off_added : All (λ (h : Row). p h ≡ false) (added o)
    off_added =
        each_added o (λ h. p h ≡ false) (off_row (trade o) refl) (off_row (history o) refl)
        (λ e. off_row (request o) refl)

    pub off_count : count p left ≡ count p rs
    off_count = still_count rs (added o) o.space p (off_row nothing refl) off_added

    off_the : (d : Row) → the p d left ≡ the p d rs
    off_the = still_the rs (added o) o.space p (off_row nothing refl) off_added

    off_was : (x : Row) → Memᴰ x left → p x ≡ true → Memᴰ x rs
    off_was = still_was rs (added o) o.space p (off_row nothing refl) off_added

  pub of_off : (k : ℕ) → among k order_kinds ≡ false → (x : Row) → Memᴰ x left → x.kind ≡ k → Memᴰ x rs
  of_off k off x m e = off_was k off (is k) (kind_of_holds k) x m (eq-eqb x.kind k e)

  pub off_found : (k : Key) → among k.kind order_kinds ≡ false → found k left ≡ found k rs
  unfolding found
  off_found k off = off_the k.kind off (has_key k) (key_of_holds k) nothing

  -- ---- S2
  -- no row that comes has the key of one that was there
  old_key : (x : Row) → Memᴰ x rs → All (λ (h : Row). has_key (key_of x) h ≡ false) (added o)
  unfolding key_of
  old_key x m =
      each_added o (λ h. has_key (key_of x) h ≡ false) (apart (trade o) refl refl) (apart (history o) refl refl)
      (λ e. apart (request o) refl refl)
    where
      apart : (h : Row) → among (key_of h).kind by_id ≡ true → (key_of h).id ≡ number → has_key (key_of x) h ≡ false
      apart h known e =
          not_so (has_key (key_of x) h) (λ q. no (not_numbered o (key_of h) known e x m) (same_key_holds x h q))

  -- and each of them has a key of its own
  own : (h : Row) (e : eqb kind_free (key_of h).kind ≡ false) → among (key_of h).kind by_id ≡ true → (key_of h).id ≡ number
      → count (has_key (key_of h)) (added o) ≡ 1 → count (has_key (key_of h)) left ≡ 1
  own h e known i one =
      let all = grown_count rs (added o) o.space (has_key (key_of h)) (off_key (key_of h) nothing e) in
      let none = none_numbered o (key_of h) known i in
      omega arith

  one_trade : count (has_key (key_of (trade o))) (added o) ≡ 1
  one_trade =
      let t = trade o in
      count_added o (has_key (key_of t)) (own_key t) (other_kind t (history o) refl) (λ e. other_kind t (request o) refl)
      ∙ ap (λ (n : ℕ). 1 + (0 + n)) (no_more (leb input.form tms))

  one_history : count (has_key (key_of (history o))) (added o) ≡ 1
  one_history =
      let h = history o in
      count_added o (has_key (key_of h)) (other_kind h (trade o) refl) (own_key h) (λ e. other_kind h (request o) refl)
      ∙ ap (λ (n : ℕ). 0 + (1 + n)) (no_more (leb input.form tms))

  one_request : leb input.form tms ≡ false → count (has_key (key_of (request o))) (added o) ≡ 1
  one_request e =
      let r = request o in
      count_added o (has_key (key_of r)) (other_kind r (trade o) refl) (other_kind r (history o) refl) (λ z. own_key r)
      ∙ ap (λ (t : Bool). 0 + (0 + cond t 0 1)) e

  abbrev Once : Row → Type 0
  Once x = (x.kind ≡ kind_free) ⊎ (count (has_key (key_of x)) left ≡ 1)

  pub keys_left : S2 left
  unfolding key_of
  keys_left =
      grown_each rs (added o) o.space Once old
      (each_added o Once
      (inr (own (trade o) refl refl refl one_trade))
      (inr (own (history o) refl refl refl one_history))
      (λ e. inr (own (request o) refl refl refl (one_request e))))
    where
      old : All Once rs
      old x m =
          by_cases (is kind_free x)
          (λ e. inl (eqb-true x.kind kind_free e))
          (λ e.
          let live = eqb-false x.kind kind_free e in
          let free = ne_eqb kind_free x.kind (λ z. live (sym z)) in
          inr
          (still_count rs (added o) o.space (has_key (key_of x)) (off_key (key_of x) nothing free) (old_key x m)
          ∙ ⊎_elim (λ f. absurd (live f)) (λ c. c) ((book o).s2 x m)))

  -- ---- S3
  -- a key that is there stays
  pub stays : (k : Key) → eqb kind_free k.kind ≡ false → There k rs → There k left
  stays k e h =
      let all = grown_count rs (added o) o.space (has_key k) (off_key k nothing e) in
      omega arith

  abbrev Named : Row → Type 0
  Named x = All (λ (k : Key). There k left) (named x)

  abbrev Stays : Key → Type 0
  Stays k = There k left

  trade_there : There (a_trade number) left
  trade_there =
      count_has (has_key (a_trade number)) (trade o) left (grown_comes rs (added o) o.space (trade o) first) is_own
    where
      first : Memᴰ (trade o) (added o)
      first = Memᴰ.head refl

      is_own : has_key (a_trade number) (trade o) ≡ true
      is_own = own_number kind_trade refl number (trade o) refl refl

  pub there_test : (k : Key) → There k rs → there k rs ≡ true
  unfolding there
  there_test k h = le-leb 1 (count (has_key k) rs) h

  -- the account's broker
  broker_there : There (a_broker broker) rs
  broker_there =
      let k = an_account input.party in
      let a = found k rs in
      let some = there_test k o.account in
      let here = found_member rs k some in
      let names = names_broker a (found_kind rs k some) in
      let first = (book o).s3 a here (a_broker a.n1) (rw names (Memᴰ.head refl)) in
      rw o.broker_is at first

  pub names_left : S3 left
  unfolding named
  names_left =
      grown_each rs (added o) o.space Named
      (λ x m k h.
      let free = ne_eqb kind_free k.kind (not_among lot_kinds k.kind kind_free (named_aside x k h) refl) in
      stays k free ((book o).s3 x m k h))
      (each_added o Named
      (all_more Stays _ _ (stays (an_account input.party) refl o.account)
      (all_one Stays _ (stays (a_security input.symbol) refl o.security)))
      (all_one Stays _ trade_there)
      (λ e. all_more Stays _ _ trade_there (all_more Stays _ _ (stays (a_broker broker) refl broker_there)
      (all_one Stays _ (stays (a_security input.symbol) refl o.security)))))

  -- ---- S4
  pub bands_left : S4 left
  bands_left x m e =
      off_count kind_band refl (overlaps x)
      (λ y n. rw (ne_eqb y.kind kind_band n))
      ∙ (book o).s4 x (of_off kind_band refl x m e) e

  -- ---- S5
  pub rates_left : S5 left
  rates_left x m e =
      let was = (book o).s5 x (of_off kind_customer refl x m e) e in
      let same =
      rates_alike left rs (λ i. off_found (a_tax_rate i) refl)
      (λ μ none. grown_total rs (added o) o.space μ (none nothing (λ z. omega arith))
      (each_added o (λ h. μ h ≡ 0) (none (trade o) (λ z. omega arith)) (none (history o) (λ z. omega arith))
      (λ e. none (request o) (λ z. omega arith))))
      x.party
      in
      omega arith
