-- Lots of one account and symbol have one sign after a result as before: a lot is opened only where none of the other
-- sign is left. And lots of another account or symbol are not touched. Assumes nothing.
use Rattle.std.specs.Prelude.{◌≡◌, refl, Bool, true, not, ◌&&◌, ◌⊎◌, ℕ, ◌+◌, ◌≤◌, eqb, leb, length}
use Rattle.std.proofs.Common.{sym, ◌∙◌, inl, inr, ⊎_elim, eqb-true, le-leb, leb-false, leb-true, ne_eqb}
use Rattle.std.proofs.Math.Path.{ap}
use Rattle.std.proofs.Math.Bool.{false, cond}
use mathlib.Core.List.{List, Memᴰ}
use native.Mathlib.Omega.{arith}
use Rattle.laws.specs.Keep.{count_fewer, count_has, count_on, keep_from, the_has}
use Rattle.laws.specs.Place.{the_passes}
use Rattle.laws.specs.Search.{bit, count, keep, sum_z, the, total}
use Rattle.laws.specs.Tests.{◌⇔◌, and_both, and_left, and_right}
use Rattle.laws.specs.Total.{total_zero}
use Rattle.record.specs.Codes.{kind_lot}
use Rattle.record.specs.Symbol.{same_symbol_holds, same_symbol}
use Rattle.record.specs.declared.row.Row.{Row}
use Rattle.record.specs.declared.symbol.Symbol.{Symbol}
use Rattle.model.specs.Lots.{Closing, closes}
use Rattle.model.specs.Money.{buys}
use Rattle.model.specs.Rows.{is, nothing, same_row}
use Rattle.model.specs.Sound.{lot_of, other_sign, shares_of, short}
use Rattle.model.specs.SoundMeans.{means_sound}
use Rattle.model.specs.Result.{Sums, added, reduced}
use Rattle.facts.specs.Result.{Read}
use Rattle.preserved.specs.Cases.{by_cases}
use Rattle.preserved.specs.ResultAfter.{after}
use Rattle.preserved.specs.ResultLotsLaw.{lots_law}
use Rattle.preserved.specs.ResultLotsSides.{eq_sides, iff_one, iff_other, iff_same, iff_turned, iff_two, part}
use Rattle.preserved.specs.ResultLotsSides.{sum_sides}
use Rattle.preserved.specs.ResultLotsSum.{Walked, left_other, no_shares, not_lot, opened_held, opened_short}
use Rattle.preserved.specs.ResultEach.{lot_after, lot_opened}

-- ---- what a lot of an account and symbol is
module _ (account : ℕ) (symbol : Symbol) (x : Row) (e : lot_of account symbol x ≡ true) where
  pub lot_kind : x.kind ≡ kind_lot
  lot_kind =
      eqb-true x.kind kind_lot (and_left (is kind_lot x) (eqb x.party account)
      (and_left (is kind_lot x && eqb x.party account) (same_symbol x.symbol symbol) e))

  pub lot_party : x.party ≡ account
  lot_party =
      eqb-true x.party account (and_right (is kind_lot x) (eqb x.party account)
      (and_left (is kind_lot x && eqb x.party account) (same_symbol x.symbol symbol) e))

  pub lot_symbol : x.symbol ≡ symbol
  lot_symbol =
      same_symbol_holds x.symbol symbol (and_right (is kind_lot x && eqb x.party account) (same_symbol x.symbol symbol) e)

-- it is of no other
pub third : (k p s : Bool) → (p && s) ≡ false → (k && p && s) ≡ false
third true p s q = q
third false p s q = refl

not_both : (account : ℕ) (symbol : Symbol) (a : ℕ) (y : Symbol) (x : Row)
    → (eqb a account && same_symbol y symbol) ≡ false → lot_of a y x ≡ true
    → lot_of account symbol x ≡ false
not_both account symbol a y x e h =
    rw (lot_party a y x h, lot_symbol a y x h) (third (is kind_lot x) (eqb a account) (same_symbol y symbol) e)

-- one that passes is there where one is counted
module _ (p : Row → Bool) (l : List Row) (h : 1 ≤ count p l) where
  some_held : Memᴰ (the p nothing l) l
  some_held = the_has p nothing l (le-leb 1 (count p l) h)

  some_passes : p (the p nothing l) ≡ true
  some_passes = the_passes p nothing l (le-leb 1 (count p l) h)

-- ---- the signs of an account's lots of a symbol, beside a trade that buys or sells
abbrev yours : Row → Row → Bool
yours t x = closes t.form t.party t.symbol x

abbrev mine : Row → Row → Bool
mine t x = lot_of t.party t.symbol x && not (buys t.form ⇔ short x)

module _ (t l : Row) (e : lot_of t.party t.symbol l ≡ true) where
  -- those of the other sign are those of one of the two
  beside_yours : short l ≡ buys t.form → (x : Row) → other_sign l x ≡ mine t x
  beside_yours s x =
      rw (lot_party t.party t.symbol l e, lot_symbol t.party t.symbol l e, s)

  beside_mine : short l ≡ not (buys t.form) → (x : Row) → other_sign l x ≡ yours t x
  beside_mine s x =
      rw (
        lot_party t.party t.symbol l e,
        lot_symbol t.party t.symbol l e,
        s,
        iff_turned (buys t.form) (short x),
      )

none_or : (a b : ℕ) → (1 ≤ a → b ≡ 0) → (a ≡ 0) ⊎ (b ≡ 0)
none_or a b h =
    by_cases (leb 1 a) (λ e. inr (h (leb-true 1 a e))) (λ e. let k = leb-false 1 a e in inl (omega arith))

module _ {rs : List Row} {t summary account broker : Row} {cs : List Closing}
    (r : Read rs t summary account broker cs) (n : Sums)
    (space : length (added t summary cs n) ≤ count (same_row nothing) rs) (v : Walked rs t summary cs n) where
  one_before : (count (yours t) rs ≡ 0) ⊎ (count (mine t) rs ≡ 0)
  one_before =
      none_or (count (yours t) rs) (count (mine t) rs)
      (λ h.
      let l = the (yours t) nothing rs in
      let m = some_held (yours t) rs h in
      let e = some_passes (yours t) rs h in
      let held = and_left (lot_of t.party t.symbol l) (buys t.form ⇔ short l) e in
      let sign = and_right (lot_of t.party t.symbol l) (buys t.form ⇔ short l) e in
      let s = iff_one (buys t.form) (short l) sign in
      let right = (((means_sound rs).shows r.good).s8 l m).0 (lot_kind t.party t.symbol l held) in
      sym (count_on (other_sign l) (mine t) rs (λ x k. beside_yours t l held s x)) ∙ right.0.1)

  -- of the trade's own sign there is one more where shares are left over
  mine_law : count (mine t) (after r n space)
      ≡ count (mine t) rs + cond (eqb n.left 0) 0 (bit (mine t (lot_opened t n)))
  unfolding count
  mine_law =
      let law = lots_law r n space (λ x. bit (mine t x)) (λ x e. off x e) in
      let a = total_zero (λ (c : Closing). bit (mine t c.lot)) cs (λ c m. none c.lot (v.closed c m).other) in
      let b = total_zero (λ (c : Closing). bit (mine t (lot_after t c))) (keep reduced cs)
      (λ c m. let k = keep_from reduced c cs m in none (lot_after t c) (left_other r n space v c k.0 k.1))
      in
      omega arith
    where
      off : (x : Row) → is kind_lot x ≡ false → bit (mine t x) ≡ 0
      off x e = rw e

      none : (x : Row) → short x ≡ buys t.form → bit (mine t x) ≡ 0
      none x s = go (lot_of t.party t.symbol x)
        where
          go : (b : Bool) → bit (b && not (buys t.form ⇔ short x)) ≡ 0
          go true = rw (iff_same (buys t.form) (short x) s)
          go false = refl

  yours_law : count (yours t) (after r n space) + count (λ (c : Closing). yours t c.lot) cs
      ≡ count (yours t) rs + cond (eqb n.left 0) 0 (bit (yours t (lot_opened t n)))
      + count (λ (c : Closing). yours t (lot_after t c)) (keep reduced cs)
  unfolding count
  yours_law =
      let law = lots_law r n space (λ x. bit (yours t x)) (λ x e. off x e) in
      omega arith
    where
      off : (x : Row) → is kind_lot x ≡ false → bit (yours t x) ≡ 0
      off x e = rw e

  -- where none is opened, none comes; where one is, none is left
  yours_none : 1 ≤ n.left → count (yours t) (after r n space) ≡ 0
  unfolding count total
  yours_none h =
      let law = yours_law in
      let s = v.spent h in
      let o : yours t (lot_opened t n) ≡ false =
      rw (opened_held r n space v, iff_other (buys t.form) (short (lot_opened t n)) (opened_short r n space v h))
      in
      let a : cond (eqb n.left 0) 0 (bit (yours t (lot_opened t n))) ≡ 0 = rw (ne_eqb n.left 0 (omega arith), o) in
      let b : count (λ (c : Closing). yours t (lot_after t c)) (keep reduced cs) ≡ 0 = rw s.0 in
      let c = s.1 in
      omega arith

  mine_none : n.left ≡ 0 → count (mine t) rs ≡ 0 → count (mine t) (after r n space) ≡ 0
  mine_none h e =
      let law = mine_law in
      let a : cond (eqb n.left 0) 0 (bit (mine t (lot_opened t n))) ≡ 0 = rw h in
      omega arith

  -- the lots that are reduced are among those that were there
  fewer : count (λ (c : Closing). yours t (lot_after t c)) (keep reduced cs)
      ≤ count (λ (c : Closing). yours t c.lot) cs
  fewer =
      let ks = keep reduced cs in
      let same : count (λ (c : Closing). yours t (lot_after t c)) ks ≡ count (λ (c : Closing). yours t c.lot) ks =
      count_on (λ (c : Closing). yours t (lot_after t c)) (λ (c : Closing). yours t c.lot) ks
      (λ c m.
      let k = keep_from reduced c cs m in
      let w = v.closed c k.0 in
      is_yours (lot_after t c) w.held (left_other r n space v c k.0 k.1)
      ∙ sym (is_yours c.lot w.held w.other))
      in
      let h = count_fewer (λ (c : Closing). yours t c.lot) reduced cs in
      omega arith
    where
      is_yours : (x : Row) → lot_of t.party t.symbol x ≡ true → short x ≡ buys t.form → yours t x ≡ true
      is_yours x e s =
          and_both (lot_of t.party t.symbol x) (buys t.form ⇔ short x) e (iff_same (buys t.form) (short x) s)

  pub one_after : (count (yours t) (after r n space) ≡ 0) ⊎ (count (mine t) (after r n space) ≡ 0)
  one_after =
      by_cases (leb 1 n.left)
      (λ e. inl (yours_none (leb-true 1 n.left e)))
      (λ e.
      let k = leb-false 1 n.left e in
      let z : n.left ≡ 0 = omega arith in
      let a : cond (eqb n.left 0) 0 (bit (yours t (lot_opened t n))) ≡ 0 = rw z in
      let law = yours_law in
      let f = fewer in
      ⊎_elim (λ u. inl (omega arith)) (λ u. inr (mine_none z u)) one_before)

  -- so all that are left have one sign
  module _ (l : Row) (m : Memᴰ l (after r n space)) (held : lot_of t.party t.symbol l ≡ true) where
    pub not_yours : count (yours t) (after r n space) ≡ 0 → short l ≡ not (buys t.form)
    not_yours u =
        by_cases (buys t.form ⇔ short l)
        (λ e.
        let h = count_has (yours t) l (after r n space) m
        (and_both (lot_of t.party t.symbol l) (buys t.form ⇔ short l) held e)
        in
        absurd (omega arith))
        (λ e. iff_two (buys t.form) (short l) e)

    pub not_mine : count (mine t) (after r n space) ≡ 0 → short l ≡ buys t.form
    not_mine u =
        by_cases (buys t.form ⇔ short l)
        (λ e. iff_one (buys t.form) (short l) e)
        (λ e.
        let h = count_has (mine t) l (after r n space) m
        (and_both (lot_of t.party t.symbol l) (not (buys t.form ⇔ short l)) held (ap not e))
        in
        absurd (omega arith))

    pub signs_right : count (other_sign l) (after r n space) ≡ 0
    signs_right =
        ⊎_elim
        (λ u. count_on (other_sign l) (yours t) (after r n space) (λ x k. beside_mine t l held (not_yours u) x) ∙ u)
        (λ u. count_on (other_sign l) (mine t) (after r n space) (λ x k. beside_yours t l held (not_mine u) x) ∙ u)
        one_after

  -- ---- another account or symbol
  module _ (a : ℕ) (y : Symbol) (apart : (eqb t.party a && same_symbol t.symbol y) ≡ false) where
    untouched : (μ : Row → ℕ) → ((x : Row) → lot_of a y x ≡ false → μ x ≡ 0)
        → total μ (after r n space) ≡ total μ rs
    untouched μ none =
        let law = lots_law r n space μ (λ x e. none x (not_lot a y x e)) in
        let away : (x : Row) → lot_of t.party t.symbol x ≡ true → μ x ≡ 0 =
        λ x e. none x (not_both a y t.party t.symbol x apart e)
        in
        let c1 = total_zero (λ (c : Closing). μ c.lot) cs (λ c m. away c.lot (v.closed c m).held) in
        let c2 = none_cond (eqb n.left 0) (μ (lot_opened t n)) (away (lot_opened t n) (opened_held r n space v)) in
        let c3 = total_zero (λ (c : Closing). μ (lot_after t c)) (keep reduced cs)
        (λ c m. away (lot_after t c) (v.closed c (keep_from reduced c cs m).0).held)
        in
        omega arith
      where
        none_cond : (b : Bool) (x : ℕ) → x ≡ 0 → cond b 0 x ≡ 0
        none_cond true x e = refl
        none_cond false x e = e

    pub count_untouched : (p : Row → Bool) → ((x : Row) → lot_of a y x ≡ false → p x ≡ false)
        → count p (after r n space) ≡ count p rs
    unfolding count
    count_untouched p none = untouched (λ x. bit (p x)) (λ x e. ap bit (none x e))

    pub sum_untouched : sum_z (shares_of a y) (after r n space) ≡ sum_z (shares_of a y) rs
    sum_untouched =
        let u = untouched (λ x. part true (shares_of a y x)) (λ x e. no_shares true a y x e) in
        let w = untouched (λ x. part false (shares_of a y x)) (λ x e. no_shares false a y x e) in
        let f = sum_sides true (shares_of a y) (after r n space) in
        let g = sum_sides true (shares_of a y) rs in
        eq_sides true (sum_z (shares_of a y) (after r n space)) (sum_z (shares_of a y) rs) (omega arith)
