-- The lots that a trade closes: lots of the book, each once; and the walk over them, whose values with what is still
-- needed at the highest price stay below a bound. Assumes nothing.
use Rattle.std.specs.Prelude.{◌≡◌, refl, Bool, true, false, cond, ◌&&◌, ℕ, ◌-◌, ◌≤◌, ◌+◌, ◌*◌, eqb}
use mathlib.Core.List.{List, [], ◌∷◌, Memᴰ}
use Rattle.std.proofs.Common.{mul-le-mul_left}
use native.Mathlib.Omega.{arith}
use borrow.Author.Tests.{eqb-true, eq-eqb, ne_eqb}
use Rattle.laws.specs.All.{All, all_cond, all_more, all_none}
use Rattle.laws.specs.Keep.{count_fewer, keep_from}
use Rattle.laws.specs.Search.{count, keep, total}
use Rattle.laws.specs.Sort.{count_sort, of_sort}
use Rattle.laws.specs.Tests.{◌⇔◌, and_left}
use Rattle.record.specs.Codes.{kind_lot}
use Rattle.record.specs.Symbol.{same_symbol}
use Rattle.record.specs.declared.row.Row.{Row}
use Rattle.record.specs.declared.symbol.Symbol.{Symbol}
use Rattle.rules.specs.Ranges.{price_most, shares_most}
use Rattle.model.specs.Flags.{lifo}
use Rattle.model.specs.Lots.{Closing, before, closes, closings, lots_for, taken}
use Rattle.model.specs.Lots
use Rattle.model.specs.Money.{buys}
use Rattle.model.specs.Rows.{is}
use Rattle.model.specs.Sound.{lot_of, short}

-- ---- the lots that are closed are lots of the book, each once
module _ (P : Row → Type 0) where
  pub all_closings : (need : ℕ) (ls : List Row) → All P ls → All (λ (c : Closing). P c.lot) (closings need ls)
  unfolding closings
  all_closings need [] h = all_none (λ (c : Closing). P c.lot)
  all_closings need (l ∷ ls) h =
      all_cond (λ (c : Closing). P c.lot) (eqb need 0) []
      (record { lot = l; shares = taken need l } ∷ closings (need - taken need l) ls)
      (λ e. all_none (λ (c : Closing). P c.lot))
      (λ e.
      all_more (λ (c : Closing). P c.lot) (record { lot = l; shares = taken need l })
      (closings (need - taken need l) ls) (h l (Memᴰ.head refl))
      (all_closings (need - taken need l) ls (λ x m. h x (Memᴰ.tail m))))

pub count_closings : (p : Row → Bool) (need : ℕ) (ls : List Row)
    → count (λ (c : Closing). p c.lot) (closings need ls) ≤ count p ls
unfolding closings count total
count_closings p need [] = omega arith
count_closings p need (l ∷ ls) = go (eqb need 0) (count_closings p (need - taken need l) ls)
  where
    go : (t : Bool) → count (λ (c : Closing). p c.lot) (closings (need - taken need l) ls) ≤ count p ls
        → count (λ (c : Closing). p c.lot)
        (cond t [] (record { lot = l; shares = taken need l } ∷ closings (need - taken need l) ls))
        ≤ count p (l ∷ ls)
    go true ih = omega arith
    go false ih = omega arith

pub closes_lot : (form account : ℕ) (symbol : Symbol) (l : Row) → closes form account symbol l ≡ true → is kind_lot l ≡ true
closes_lot form account symbol l e =
    and_left (is kind_lot l) (eqb l.party account)
    (and_left (is kind_lot l && eqb l.party account) (same_symbol l.symbol symbol)
    (and_left (lot_of account symbol l) (buys form ⇔ short l) e))

module _ (rs : List Row) (form flags account : ℕ) (symbol : Symbol) where
  pub count_lots : (p : Row → Bool) → count p (lots_for rs form flags account symbol) ≤ count p rs
  unfolding lots_for
  count_lots p =
      let ks = keep (closes form account symbol) rs in
      let a = count_sort p (before (lifo flags)) ks in
      let b = count_fewer p (closes form account symbol) rs in
      omega arith

  pub lots_held : All (λ (l : Row). Memᴰ l rs × (l.kind ≡ kind_lot)) (lots_for rs form flags account symbol)
  unfolding lots_for
  lots_held l m =
      let ks = keep (closes form account symbol) rs in
      let k = keep_from (closes form account symbol) l rs (of_sort (before (lifo flags)) ks l m) in
      (k.0, eqb-true l.kind kind_lot (closes_lot form account symbol l k.1))

-- ---- one after the other
pub closings_next : (need : ℕ) (l : Row) (ls : List Row) → (need ≡ 0 → ⊥)
    → closings need (l ∷ ls) ≡ record { lot = l; shares = taken need l } ∷ closings (need - taken need l) ls
unfolding closings
closings_next need l ls h = rw (ne_eqb need 0 h)

pub closings_none : (need : ℕ) (ls : List Row) → need ≡ 0 → closings need ls ≡ []
unfolding closings
closings_none need [] h = refl
closings_none need (l ∷ ls) h = rw (eq-eqb need 0 h)

-- ---- the walk over them
-- the most that it can hold
abbrev pub value_most : ℕ
value_most = shares_most * price_most

-- the values, with all that is still needed at the highest price, are at most v
abbrev pub Within : ℕ → Lots.Walk → Type 0
Within v w = (w.bought + w.need * price_most ≤ v) × (w.sold + w.need * price_most ≤ v)

-- so many shares at one of two prices are worth at most what they were at the highest
pub worth : (t : Bool) (k a b : ℕ) → a ≤ price_most → b ≤ price_most → k * cond t a b ≤ k * price_most
worth true k a b p q = mul-le-mul_left k p
worth false k a b p q = mul-le-mul_left k q

pub step_within : (v form price : ℕ) (w : Lots.Walk) (l : Row) → price ≤ price_most → l.n1 ≤ price_most → Within v w
    → Within v (Lots.step form price w l)
step_within v form price w l p q h =
    let k = Lots.taken w.need l in
    let b = worth (buys form) k price l.n1 p q in
    let s = worth (buys form) k l.n1 price q p in
    let x = h.0 in
    let y = h.1 in
    (omega arith, omega arith)
