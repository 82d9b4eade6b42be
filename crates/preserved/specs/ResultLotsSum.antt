-- The shares that lots hold after a result: the walk takes from lots of the other sign, what is left of a lot keeps its
-- sign, and what is left of the trade opens a lot of the trade's own. So the sum moves by the trade's shares. Assumes
-- nothing.
use Rattle.std.specs.Prelude.{◌≡◌, refl, Bool, true, false, cond, not, ℕ, ◌+◌, ◌-◌, ◌≤◌, eqb, ℤ, pos, nat_abs, ◌+ℤ◌, length}
use Rattle.std.proofs.Common.{sym, ap, ◌∙◌, arith, eq-eqb, eqb-true, ltb-false, ltb-true, to_z}
use mathlib.Core.List.{List, [], ◌∷◌, Memᴰ}
use Rattle.std.specs.Int.Signed.{lt_z}
use Rattle.std.proofs.lemmas.Bool.{not-true}
use Rattle.std.specs.Int.{w64}
use Rattle.laws.specs.Keep.{keep_from}
use Rattle.laws.specs.Search.{count, keep, sum_z, total}
use Rattle.laws.specs.Total.{total_on, total_parts, total_zero}
use Rattle.record.specs.Codes.{kind_lot}
use Rattle.record.specs.Symbol.{symbol_same}
use Rattle.record.specs.declared.row.Row.{Row}
use Rattle.record.specs.declared.symbol.Symbol.{Symbol}
use Rattle.rules.specs.Ranges.{money_most, shares_most}
use Rattle.model.specs.Lots.{Closing, closes, size}
use Rattle.model.specs.Money.{buys}
use Rattle.model.specs.Names.{a_summary}
use Rattle.model.specs.Result.{left_of, signed, Sums, added, reduced}
use Rattle.model.specs.Rows.{found, is, nothing, same_row}
use Rattle.model.specs.Sound.{lot_of, shares_of, short}
use Rattle.facts.specs.Result.{Read}
use Rattle.preserved.specs.ResultAfter.{after}
use Rattle.preserved.specs.ResultLotsLaw.{lots_law}
use Rattle.preserved.specs.ResultLotsSides.{add_sides, bits_tell, eq_sides, left_mine, left_short, left_size}
use Rattle.preserved.specs.ResultLotsSides.{left_yours, other_side, part, signed_mine, signed_short, signed_size}
use Rattle.preserved.specs.ResultLotsSides.{signed_yours, sum_sides, zero_sides}
use Rattle.preserved.specs.ResultEach.{lot_after, lot_opened}

-- a lot that a trade closes: of its account and symbol and of the other sign, and some of its shares are taken
pub record Closed (t : Row) (c : Closing) : Type 0 where
  pub held : lot_of t.party t.symbol c.lot ≡ true
  pub other : short c.lot ≡ buys t.form
  pub some : 1 ≤ c.shares
  pub within : c.shares ≤ size c.lot
  pub most : size c.lot ≤ shares_most

-- what the walk over them leaves
pub record Walked (rs : List Row) (t summary : Row) (cs : List Closing) (n : Sums) : Type 0 where
  pub own : found (a_summary t.party t.symbol) rs ≡ summary
  pub closed : (c : Closing) → Memᴰ c cs → Closed t c
  pub all : total (λ (c : Closing). c.shares) cs + n.left ≡ t.n1
  -- where shares are left over, each lot of the other sign was closed in whole
  pub spent : 1 ≤ n.left
      → (keep reduced cs ≡ [])
      × (count (λ (c : Closing). closes t.form t.party t.symbol c.lot) cs
      ≡ count (closes t.form t.party t.symbol) rs)
  pub some : 1 ≤ t.n1
  pub most : t.n1 ≤ shares_most
  pub near : nat_abs (to_z w64 summary.m1) ≤ money_most

-- ---- a row that is no lot of an account and symbol
pub not_lot : (account : ℕ) (symbol : Symbol) (x : Row) → is kind_lot x ≡ false → lot_of account symbol x ≡ false
not_lot account symbol x e = rw e

pub no_shares : (d : Bool) (account : ℕ) (symbol : Symbol) (x : Row) → lot_of account symbol x ≡ false
    → part d (shares_of account symbol x) ≡ 0
no_shares d account symbol x e = rw e (zero_sides d)

total_sum : {A : Type 0} (f g h : A → ℕ) (l : List A) → ((x : A) → Memᴰ x l → f x ≡ g x + h x)
    → total f l ≡ total g l + total h l
unfolding total
total_sum f g h [] e = refl
total_sum f g h (x ∷ l) e =
    let a = e x (Memᴰ.head refl) in
    let ih = total_sum f g h l (λ y m. e y (Memᴰ.tail m)) in
    omega arith

module _ {rs : List Row} {t summary account broker : Row} {cs : List Closing}
    (r : Read rs t summary account broker cs) (n : Sums)
    (space : length (added t summary cs n) ≤ count (same_row nothing) rs) (v : Walked rs t summary cs n) where
  -- ---- the lots that come
  -- what is left of a lot
  module _ (c : Closing) (m : Memᴰ c cs) (e : reduced c ≡ true) where
    pub more_left : 1 ≤ size c.lot - c.shares
    more_left = let h = ltb-true c.shares (size c.lot) e in omega arith

    left_is : to_z w64 (lot_after t c).m1 ≡ left_of t.form c
    left_is =
        let k = (v.closed c m).most in
        let z = left_size (buys t.form) (size c.lot - c.shares) in
        bits_tell (left_of t.form c) (omega arith)

    left_held : lot_of t.party t.symbol (lot_after t c) ≡ true
    left_held = (v.closed c m).held

    pub left_other : short (lot_after t c) ≡ buys t.form
    left_other =
        ap (λ (z : ℤ). lt_z z (pos 0)) left_is
        ∙ left_short (buys t.form) (size c.lot - c.shares) more_left

  pub left_most : n.left ≤ shares_most
  left_most = let a = v.all in let b = v.most in omega arith

  -- the new lot
  opened_is : to_z w64 (lot_opened t n).m1 ≡ signed t.form n.left
  opened_is =
      let k = left_most in
      let z = signed_size (buys t.form) n.left in
      bits_tell (signed t.form n.left) (omega arith)

  pub opened_held : lot_of t.party t.symbol (lot_opened t n) ≡ true
  opened_held = rw (eq-eqb t.party t.party refl, symbol_same t.symbol t.symbol refl)

  pub opened_short : 1 ≤ n.left → short (lot_opened t n) ≡ not (buys t.form)
  opened_short h = ap (λ (z : ℤ). lt_z z (pos 0)) opened_is ∙ signed_short (buys t.form) n.left h

  -- ---- the sum
  abbrev share_of : Row → ℤ
  share_of x = shares_of t.party t.symbol x

  share_is : (x : Row) (z : ℤ) → lot_of t.party t.symbol x ≡ true → to_z w64 x.m1 ≡ z → share_of x ≡ z
  share_is x z e q = rw e q

  pub sum_after : sum_z share_of (after r n space) ≡ sum_z share_of rs +ℤ signed t.form t.n1
  sum_after =
      let mine = lots_law r n space (λ x. part d (share_of x)) (off d) in
      let yours = lots_law r n space (λ x. part (not d) (share_of x)) (off (not d)) in
      let m1 = total_zero (λ (c : Closing). part d (share_of c.lot)) cs (λ c m. lot_mine c m) in
      let m2 = opened (eqb n.left 0) refl in
      let m3 = total_zero (λ (c : Closing). part d (share_of (lot_after t c))) (keep reduced cs)
      (λ c m. let k = keep_from reduced c cs m in
      ap (part d) (share_is (lot_after t c) _ (left_held c k.0 k.1) (left_is c k.0 k.1))
      ∙ left_mine d (rest c))
      in
      let y1 = total_on (λ (c : Closing). part (not d) (share_of c.lot)) (λ (c : Closing). size c.lot) cs
      (λ c m. lot_yours c m)
      in
      let y2 = opened_none (eqb n.left 0) in
      let y3 = total_on (λ (c : Closing). part (not d) (share_of (lot_after t c))) rest (keep reduced cs)
      (λ c m. let k = keep_from reduced c cs m in
      ap (part (not d)) (share_is (lot_after t c) _ (left_held c k.0 k.1) (left_is c k.0 k.1))
      ∙ left_yours d (rest c))
      in
      let y4 = total_parts rest reduced cs in
      let y5 = total_zero rest (keep (λ (c : Closing). not (reduced c)) cs) (λ c m. whole c m) in
      let y6 = total_sum (λ (c : Closing). size c.lot) (λ (c : Closing). c.shares) rest cs
      (λ c m. let k = (v.closed c m).within in omega arith)
      in
      let all = v.all in
      let before = sum_sides d share_of rs in
      let now = sum_sides d share_of (after r n space) in
      let add = add_sides d (sum_z share_of rs) (signed t.form t.n1) in
      let s1 = signed_mine d t.n1 in
      let s2 = signed_yours d t.n1 in
      eq_sides d (sum_z share_of (after r n space)) (sum_z share_of rs +ℤ signed t.form t.n1) (omega arith)
    where
      d : Bool
      d = buys t.form

      rest : Closing → ℕ
      rest c = size c.lot - c.shares

      off : (b : Bool) (x : Row) → is kind_lot x ≡ false → part b (share_of x) ≡ 0
      off b x e = no_shares b t.party t.symbol x (not_lot t.party t.symbol x e)

      lot_mine : (c : Closing) → Memᴰ c cs → part d (share_of c.lot) ≡ 0
      lot_mine c m =
          ap (part d) (share_is c.lot _ (v.closed c m).held refl)
          ∙ (other_side d (to_z w64 c.lot.m1) (v.closed c m).other).0

      lot_yours : (c : Closing) → Memᴰ c cs → part (not d) (share_of c.lot) ≡ size c.lot
      lot_yours c m =
          ap (part (not d)) (share_is c.lot _ (v.closed c m).held refl)
          ∙ (other_side d (to_z w64 c.lot.m1) (v.closed c m).other).1

      opened : (b : Bool) → eqb n.left 0 ≡ b → cond (eqb n.left 0) 0 (part d (share_of (lot_opened t n))) ≡ n.left
      opened true e = rw e (sym (eqb-true n.left 0 e))
      opened false e =
          rw e (ap (part d) (share_is (lot_opened t n) _ opened_held opened_is) ∙ signed_mine d n.left)

      opened_none : (b : Bool) → cond b 0 (part (not d) (share_of (lot_opened t n))) ≡ 0
      opened_none true = refl
      opened_none false =
          ap (part (not d)) (share_is (lot_opened t n) _ opened_held opened_is) ∙ signed_yours d n.left

      whole : (c : Closing) → Memᴰ c (keep (λ (c : Closing). not (reduced c)) cs) → rest c ≡ 0
      whole c m =
          let k = not-true (reduced c) (keep_from (λ (c : Closing). not (reduced c)) c cs m).1 in
          let h = ltb-false c.shares (size c.lot) k in
          omega arith
