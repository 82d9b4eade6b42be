-- S8 in one walk a holding: that lots of one account and symbol have one sign is decided at their summary, where
-- nothing is held or nothing is owed, and not at each lot. Assumes nothing.
use Rattle.std.specs.Prelude.{◌≡◌, refl, Bool, false, cond, not, ◌&&◌, ◌||◌, ℕ, zero, suc, ◌+◌, ◌-◌, ◌^◌, ◌≤◌, eqb, leb, ℤ, pos, negsuc, length, get_or}
use Rattle.std.proofs.Common.{sym, ap, ◌∙◌, zero-add, arith, to_z, eq-eqb, eqb-true, le-ltb, leb-true, leb-false, ltb-true, ne_eqb}
use Rattle.std.proofs.Math.Bool.{true}
use Rattle.std.proofs.lemmas.Bool.{false≢true}
use mathlib.Core.List.Memᴰ
use mathlib.Core.List.{List, [], ◌∷◌, Memᴰ}
use Rattle.std.specs.Int.Signed.{lt_z}
use Rattle.std.proofs.Math.Facts.{to_z_pos}
use Rattle.std.specs.Int.{w64}
use Rattle.laws.specs.Place.{every_at, some_place}
use Rattle.laws.specs.Search.{count, every, means_every, place, sum_z, total}
use Rattle.laws.specs.Tests.{Means, ◌⇔◌, and_both, and_left, and_right, one_truth, or_else, or_left, or_right}
use Rattle.laws.specs.Tests.{or_swap}
use Rattle.laws.specs.Walk.{from_holds}
use Rattle.record.specs.Codes.{kind_lot, kind_summary}
use Rattle.record.specs.Signed.{dn, to_z_high, up}
use Rattle.record.specs.Symbol.{same_symbol_holds, same_symbol, symbol_same}
use Rattle.record.specs.declared.row.Row.{Row}
use Rattle.rules.specs.Meaning.{means_lot}
use Rattle.rules.specs.Rules.{as_kind, fits}
use Rattle.model.specs.Names.{a_summary}
use Rattle.model.specs.Rows.{has_key, is, nothing, there}
use Rattle.model.specs.Sound.{each, equal_z, lot_of, lot_right, other_sign, s1, s8, shares_of, short, summary_right}
use Rattle.facts.specs.Names.{by_holder}
use Rattle.groups.specs.Sums.{shares_part}
use Rattle.by_group.specs.Kept.{lot_kept, one_sided, summary_kept, trade_agrees}

-- what is counted and what is summed are none together
none_alike : {A : Type 0} (p : A → Bool) (f : A → ℕ) (l : List A)
    → ((x : A) → Memᴰ x l → (p x ≡ true → 1 ≤ f x) × (p x ≡ false → f x ≡ 0))
    → eqb (count p l) 0 ≡ eqb (total f l) 0
unfolding count total
none_alike p f [] h = refl
none_alike p f (x ∷ l) h = go (p x) refl (h x (Memᴰ.head refl)) (none_alike p f l (λ y m. h y (Memᴰ.tail m)))
  where
    go : (t : Bool) → p x ≡ t → (p x ≡ true → 1 ≤ f x) × (p x ≡ false → f x ≡ 0)
        → eqb (count p l) 0 ≡ eqb (total f l) 0 → eqb (count p (x ∷ l)) 0 ≡ eqb (total f (x ∷ l)) 0
    go true e k ih =
        let y = k.0 e in
        rw e (ne_eqb (1 + count p l) 0 (λ q. omega arith) ∙ sym (ne_eqb (f x + total f l) 0 (λ q. omega arith)))
    go false e k ih = rw (e, k.1 e, zero-add (count p l), zero-add (total f l)) ih

-- a number that is not zero is on one side of it
sign : (z : ℤ) → (z ≡ pos 0 → ⊥) → (s : Bool)
    → (not (s ⇔ lt_z z (pos 0)) ≡ true → 1 ≤ cond s (up z) (dn z))
    × (not (s ⇔ lt_z z (pos 0)) ≡ false → cond s (up z) (dn z) ≡ 0)
sign (pos zero) n s = absurd (n refl)
sign (pos (suc k)) n true =
    let z = le-ltb (suc k) 0 (omega arith) in
    (λ e. omega arith, λ e. absurd (false≢true (sym (rw z at e))))
sign (pos (suc k)) n false = let z = le-ltb (suc k) 0 (omega arith) in (λ e. absurd (false≢true (rw z at e)), λ e. refl)
sign (negsuc k) n true = (λ e. absurd (false≢true e), λ e. refl)
sign (negsuc k) n false = (λ e. omega arith, λ e. absurd (false≢true (sym e)))

not_zero : (x : ℕ) → (x ≡ 0 → ⊥) → to_z w64 x ≡ pos 0 → ⊥
not_zero x n e = go (leb 9223372036854775808 x) refl
  where
    go : (t : Bool) → leb 9223372036854775808 x ≡ t → ⊥
    go true h =
        let z : negsuc (2 ^ 64 - suc x) ≡ pos 0 = sym (to_z_high w64 x (leb-true 9223372036854775808 x h)) ∙ e in
        let y : suc (2 ^ 64 - suc x) ≡ 0 = ap dn z in
        omega arith
    go false h =
        let k = leb-false 9223372036854775808 x h in
        let z : pos x ≡ pos 0 = sym (to_z_pos w64 {n = x} k) ∙ e in
        n (ap up z)

-- a lot that fits has shares
lot_shares : (l r : Row) → fits r ≡ true → lot_of l.party l.symbol r ≡ true → r.m1 ≡ 0 → ⊥
lot_shares l r f h =
    let k = eqb-true r.kind kind_lot (and_left (is kind_lot r) (eqb r.party l.party)
    (and_left (is kind_lot r && eqb r.party l.party) (same_symbol r.symbol l.symbol) h))
    in
    ((means_lot r).shows (as_kind kind_lot r k ∙ f)).0.0.1

-- a lot of the other sign than l is one with shares on the other side
abbrev across : Bool → Row → Row → ℕ
across true l = shares_part false l.party l.symbol
across false l = shares_part true l.party l.symbol

other_side : (l r : Row) → fits r ≡ true → (s : Bool) → short l ≡ s
    → (other_sign l r ≡ true → 1 ≤ across s l r) × (other_sign l r ≡ false → across s l r ≡ 0)
other_side l r f s e = go s e (lot_of l.party l.symbol r) refl
  where
    go : (s : Bool) → short l ≡ s → (t : Bool) → lot_of l.party l.symbol r ≡ t
        → (other_sign l r ≡ true → 1 ≤ across s l r) × (other_sign l r ≡ false → across s l r ≡ 0)
    go true e true h = rw (e, h) (sign (to_z w64 r.m1) (not_zero r.m1 (lot_shares l r f h)) true)
    go false e true h = rw (e, h) (sign (to_z w64 r.m1) (not_zero r.m1 (lot_shares l r f h)) false)
    go true e false h = rw (e, h) (λ q. absurd (false≢true q), λ q. refl)
    go false e false h = rw (e, h) (λ q. absurd (false≢true q), λ q. refl)

-- so no lot has the other sign where nothing is on the other side
one_sign : (rs : List Row) (l : Row) → s1 rs ≡ true
    → eqb (count (other_sign l) rs) 0
    ≡ cond (short l) (eqb (total (shares_part false l.party l.symbol) rs) 0)
    (eqb (total (shares_part true l.party l.symbol) rs) 0)
unfolding s1
one_sign rs l u = go (short l) refl
  where
    all : (r : Row) → Memᴰ r rs → fits r ≡ true
    all = (means_every {P = λ r. fits r ≡ true} rs (λ r. record { shows = λ e. e; holds = λ e. e })).shows u

    go : (s : Bool) → short l ≡ s
        → eqb (count (other_sign l) rs) 0
        ≡ cond (short l) (eqb (total (shares_part false l.party l.symbol) rs) 0)
        (eqb (total (shares_part true l.party l.symbol) rs) 0)
    go true e =
        none_alike (other_sign l) (shares_part false l.party l.symbol) rs (λ r m. other_side l r (all r m) true e)
        ∙ rw e
    go false e =
        none_alike (other_sign l) (shares_part true l.party l.symbol) rs (λ r m. other_side l r (all r m) false e)
        ∙ rw e

-- ---- the rules of a lot and of a summary, the sign told at the summary
abbrev equal_shares : List Row → Row → Bool
equal_shares rs s = equal_z (sum_z (shares_of s.party s.symbol) rs) (to_z w64 s.m1)

abbrev pub holding_kept : List Row → Row → Bool
holding_kept rs r = each kind_lot (lot_kept rs) r && each kind_summary (summary_kept rs) r

abbrev holding_right : List Row → Row → Bool
holding_right rs r = each kind_lot (lot_right rs) r && each kind_summary (summary_right rs) r

-- a rule of a kind, taken at a row of it and given for any
each_has : (k : ℕ) (r : Row) (x : Bool) → (not (is k r) || x) ≡ true → is k r ≡ true → x ≡ true
each_has k r x e h = rw h at e

each_of : (k : ℕ) (r : Row) (x : Bool) → (is k r ≡ true → x ≡ true) → (not (is k r) || x) ≡ true
each_of k r x f = go (is k r) refl
  where
    go : (t : Bool) → is k r ≡ t → (not (is k r) || x) ≡ true
    go true e = rw e (f e)
    go false e = rw e

member_total : (f : Row → ℕ) (l : List Row) (x : Row) → Memᴰ x l → 1 ≤ f x → 1 ≤ total f l
unfolding total
member_total f [] x m h = absurd (Memᴰ.not-nil m)
member_total f (y ∷ l) x (Memᴰ.head q) h = let e : f x ≡ f y = ap f q in omega arith
member_total f (y ∷ l) x (Memᴰ.tail m) h = let k = member_total f l x m h in omega arith

module _ (rs : List Row) (fit : s1 rs ≡ true) where
  all_fit : (r : Row) → Memᴰ r rs → fits r ≡ true
  unfolding s1
  all_fit = (means_every {P = λ r. fits r ≡ true} rs (λ r. record { shows = λ e. e; holds = λ e. e })).shows fit

  -- a lot has shares on its own side
  own_side : (l : Row) → Memᴰ l rs → is kind_lot l ≡ true → (s : Bool) → short l ≡ s
      → 1 ≤ total (across (not s) l) rs
  own_side l m k s e = member_total (across (not s) l) rs l m (go s e)
    where
      me : lot_of l.party l.symbol l ≡ true
      me = and_both _ _ (and_both _ _ k (eq-eqb l.party l.party refl)) (symbol_same l.symbol l.symbol refl)

      nz : to_z w64 l.m1 ≡ pos 0 → ⊥
      nz = not_zero l.m1 (lot_shares l l (all_fit l m) me)

      go : (s : Bool) → short l ≡ s → 1 ≤ across (not s) l l
      go true e = rw me ((sign (to_z w64 l.m1) nz false).0 (rw e))
      go false e = rw me ((sign (to_z w64 l.m1) nz true).0 (rw e))

  -- one side is empty, and it is not the lot's own
  sign_told : (l : Row) → Memᴰ l rs → is kind_lot l ≡ true → one_sided rs l.party l.symbol ≡ true
      → eqb (count (other_sign l) rs) 0 ≡ true
  sign_told l m k o = one_sign rs l fit ∙ go (short l) refl
    where
      go : (s : Bool) → short l ≡ s
          → cond (short l) (eqb (total (shares_part false l.party l.symbol) rs) 0)
          (eqb (total (shares_part true l.party l.symbol) rs) 0) ≡ true
      go true e =
          let own = own_side l m k true e in
          let no = ne_eqb (total (shares_part true l.party l.symbol) rs) 0 (λ q. omega arith) in
          let up = eqb (total (shares_part false l.party l.symbol) rs) 0 in
          let down = eqb (total (shares_part true l.party l.symbol) rs) 0 in
          rw e (or_else down up (or_swap up down o) no)
      go false e =
          let own = own_side l m k false e in
          let no = ne_eqb (total (shares_part false l.party l.symbol) rs) 0 (λ q. omega arith) in
          let up = eqb (total (shares_part false l.party l.symbol) rs) 0 in
          let down = eqb (total (shares_part true l.party l.symbol) rs) 0 in
          rw e (or_else up down o no)

  -- the lot rule tells the sign of the whole holding
  side_told : (l : Row) → eqb (count (other_sign l) rs) 0 ≡ true → one_sided rs l.party l.symbol ≡ true
  side_told l z = go (short l) refl (sym (one_sign rs l fit) ∙ z)
    where
      go : (s : Bool) → short l ≡ s
          → cond (short l) (eqb (total (shares_part false l.party l.symbol) rs) 0)
          (eqb (total (shares_part true l.party l.symbol) rs) 0) ≡ true
          → one_sided rs l.party l.symbol ≡ true
      go true e h =
          or_left (eqb (total (shares_part false l.party l.symbol) rs) 0)
          (eqb (total (shares_part true l.party l.symbol) rs) 0) (rw e at h)
      go false e h =
          or_right (eqb (total (shares_part false l.party l.symbol) rs) 0)
          (eqb (total (shares_part true l.party l.symbol) rs) 0) (rw e at h)

  -- ---- both ways
  rule_at : (p : Row → Bool) (q : Row → Bool) → every p rs ≡ true → leb 1 (count q rs) ≡ true
      → p (get_or rs (place q rs) nothing) ≡ true
  rule_at p q e h = every_at p nothing rs (place q rs) e (ltb-true (place q rs) (length rs) (sym (some_place q rs) ∙ h))

  passes_at : (q : Row → Bool) → leb 1 (count q rs) ≡ true → q (get_or rs (place q rs) nothing) ≡ true
  passes_at q h = from_holds q rs 0 nothing (ltb-true (place q rs) (length rs) (sym (some_place q rs) ∙ h))

  lot_kept_holds : every (holding_right rs) rs ≡ true → (r : Row) → Memᴰ r rs → holding_right rs r ≡ true
      → holding_kept rs r ≡ true
  lot_kept_holds all r m e =
      and_both (each kind_lot (lot_kept rs) r) (each kind_summary (summary_kept rs) r)
      (each_of kind_lot r (lot_kept rs r) (λ k. drop_sign (each_has kind_lot r (lot_right rs r) lots k)))
      (each_of kind_summary r (summary_kept rs r) (λ k. add_side (each_has kind_summary r (summary_right rs r) sums k)))
    where
      lots : each kind_lot (lot_right rs) r ≡ true
      lots = and_left (each kind_lot (lot_right rs) r) (each kind_summary (summary_right rs) r) e

      sums : each kind_summary (summary_right rs) r ≡ true
      sums = and_right (each kind_lot (lot_right rs) r) (each kind_summary (summary_right rs) r) e

      drop_sign : lot_right rs r ≡ true → lot_kept rs r ≡ true
      drop_sign h =
          let three = trade_agrees rs r in
          let z = eqb (count (other_sign r) rs) 0 in
          let u = there (a_summary r.party r.symbol) rs in
          and_both three u (and_left three z (and_left (three && z) u h)) (and_right (three && z) u h)

      add_side : summary_right rs r ≡ true → summary_kept rs r ≡ true
      add_side h =
          let q = lot_of r.party r.symbol in
          let some = and_left (leb 1 (count q rs)) (equal_shares rs r) h in
          let l = get_or rs (place q rs) nothing in
          let mine = passes_at q some in
          let kp = and_left (is kind_lot l && eqb l.party r.party) (same_symbol l.symbol r.symbol) mine in
          let k = and_left (is kind_lot l) (eqb l.party r.party) kp in
          let p = eqb-true l.party r.party (and_right (is kind_lot l) (eqb l.party r.party) kp) in
          let y = same_symbol_holds l.symbol r.symbol
          (and_right (is kind_lot l && eqb l.party r.party) (same_symbol l.symbol r.symbol) mine)
          in
          let rule = and_left (each kind_lot (lot_right rs) l) (each kind_summary (summary_right rs) l)
          (rule_at (holding_right rs) q all some)
          in
          let lot = each_has kind_lot l (lot_right rs l) rule k in
          let z = and_right (trade_agrees rs l) (eqb (count (other_sign l) rs) 0)
          (and_left (trade_agrees rs l && eqb (count (other_sign l) rs) 0) (there (a_summary l.party l.symbol) rs)
          lot)
          in
          and_both (summary_right rs r) (one_sided rs r.party r.symbol) h (rw (p, y) at (side_told l z))

  lot_right_holds : every (holding_kept rs) rs ≡ true → (r : Row) → Memᴰ r rs → holding_kept rs r ≡ true
      → holding_right rs r ≡ true
  unfolding there
  lot_right_holds all r m e =
      and_both (each kind_lot (lot_right rs) r) (each kind_summary (summary_right rs) r)
      (each_of kind_lot r (lot_right rs r) (λ k. add_sign k (each_has kind_lot r (lot_kept rs r) lots k)))
      (each_of kind_summary r (summary_right rs r)
      (λ k. and_left (summary_right rs r) (one_sided rs r.party r.symbol)
      (each_has kind_summary r (summary_kept rs r) sums k)))
    where
      lots : each kind_lot (lot_kept rs) r ≡ true
      lots = and_left (each kind_lot (lot_kept rs) r) (each kind_summary (summary_kept rs) r) e

      sums : each kind_summary (summary_kept rs) r ≡ true
      sums = and_right (each kind_lot (lot_kept rs) r) (each kind_summary (summary_kept rs) r) e

      add_sign : is kind_lot r ≡ true → lot_kept rs r ≡ true → lot_right rs r ≡ true
      add_sign k h =
          let q = has_key (a_summary r.party r.symbol) in
          let some = and_right (trade_agrees rs r) (leb 1 (count q rs)) h in
          let s = get_or rs (place q rs) nothing in
          let mine = sym (by_holder r.party r.symbol s) ∙ passes_at q some in
          let kp = and_left (is kind_summary s && eqb s.party r.party) (same_symbol s.symbol r.symbol) mine in
          let ks = and_left (is kind_summary s) (eqb s.party r.party) kp in
          let p = eqb-true s.party r.party (and_right (is kind_summary s) (eqb s.party r.party) kp) in
          let y = same_symbol_holds s.symbol r.symbol
          (and_right (is kind_summary s && eqb s.party r.party) (same_symbol s.symbol r.symbol) mine)
          in
          let rule = and_right (each kind_lot (lot_kept rs) s) (each kind_summary (summary_kept rs) s)
          (rule_at (holding_kept rs) q all some)
          in
          let o = and_right (summary_right rs s) (one_sided rs s.party s.symbol)
          (each_has kind_summary s (summary_kept rs s) rule ks)
          in
          let z = sign_told r m k (rw (p, y) at o) in
          and_both (trade_agrees rs r && eqb (count (other_sign r) rs) 0) (leb 1 (count q rs))
          (and_both (trade_agrees rs r) (eqb (count (other_sign r) rs) 0)
          (and_left (trade_agrees rs r) (leb 1 (count q rs)) h) z)
          some

  pub holdings_kept : every (holding_kept rs) rs ≡ s8 rs
  unfolding s8
  holdings_kept =
      one_truth (every (holding_kept rs) rs) (every (holding_right rs) rs)
      (λ e. gather (holding_right rs) (λ r m. lot_right_holds e r m (shown (holding_kept rs) e r m)))
      (λ e. gather (holding_kept rs) (λ r m. lot_kept_holds e r m (shown (holding_right rs) e r m)))
    where
      told : (p : Row → Bool) → Means (every p rs) ((r : Row) → Memᴰ r rs → p r ≡ true)
      told p = means_every {P = λ r. p r ≡ true} rs (λ r. record { shows = λ e. e; holds = λ e. e })

      shown : (p : Row → Bool) → every p rs ≡ true → (r : Row) → Memᴰ r rs → p r ≡ true
      shown p e = (told p).shows e

      gather : (p : Row → Bool) → ((r : Row) → Memᴰ r rs → p r ≡ true) → every p rs ≡ true
      gather p h = (told p).holds h
