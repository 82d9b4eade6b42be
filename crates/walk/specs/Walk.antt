-- The walk as the code has it, over typed lots; that it is the walk of the rules, and that what it counts are the lots
-- that the rules close; and the bound that every step keeps. Assumes nothing.
use Rattle.std.specs.Prelude.{◌≡◌, refl, Bool, true, false, cond, ℕ, ◌+◌, ◌-◌, ◌*◌, ◌≤◌, min, eqb, ℤ, pos, nat_abs, neg_ℤ, ◌-ℤ◌, length}
use Rattle.std.proofs.Common.{ap, ◌∙◌, mul-le-mul_left, arith, eq-eqb, eqb-true, ne_eqb}
use mathlib.Core.List.{List, [], ◌∷◌, map, Memᴰ}
use Rattle.std.proofs.lemmas.Bool.{eqb-false}
use Rattle.laws.specs.Search.{run}
use Rattle.record.specs.Signed.{dn, eq_parts, parts_add, up}
use Rattle.record.specs.declared.row.Row.{Row}
use Rattle.kinds.specs.Kinds.{lot_of}
use Rattle.units.specs.Sizes.{abs_parts, dn_neg, up_neg}
use Rattle.units.specs.Units.{cents, shares}
use Rattle.kinds.specs.declared.rows.Lot.{Lot}
use Rattle.units.specs.declared.Price.{Price}
use Rattle.units.specs.declared.Shares.{Shares}
use Rattle.rules.specs.Ranges.{price_most, shares_most}
use Rattle.model.specs.Lots.{closings}
use Rattle.model.specs.Lots
use Rattle.model.specs.Money.{buys}
use Rattle.money.specs.Amounts.{UpTo, up_to, value_most}
use Rattle.walk.specs.declared.Walk.{Walk}

-- ---- over typed lots
abbrev pub size_of : Lot → ℕ
size_of l = nat_abs l.shares.0

abbrev pub taken_of : Walk → Lot → ℕ
taken_of w l = min (up w.need.0) (size_of l)

-- the least of two counts, as shares
pub taken_is : (m k : ℕ) {n : ℕ} {r : Shares} → r ≡ shares (pos n) → n ≡ min m k
    → (r ≡ shares (pos (min m k))) × UpTo m r.0
taken_is m k f e = rw (f, e) (refl, up_to _ _ (omega arith))

abbrev pub rest_of : Walk → Lot → ℕ
rest_of w l = size_of l - taken_of w l

abbrev pub begun : ℕ → Price → Shares → Walk
begun form price n = record {
  buying = buys form;
  price = price;
  need = n;
  bought = cents (pos 0);
  sold = cents (pos 0);
  closed = 0;
}

-- as many of a lot's shares as are needed, at the price of the lot and at that of the trade
unfoldable pub stepped : Walk → Lot → Walk
stepped w l = record {
  buying = w.buying;
  price = w.price;
  need = shares (pos (up w.need.0 - taken_of w l));
  bought = cents (pos (up w.bought.0 + taken_of w l * cond w.buying w.price.0 l.price.0));
  sold = cents (pos (up w.sold.0 + taken_of w l * cond w.buying l.price.0 w.price.0));
  closed = w.closed + cond (eqb (up w.need.0) 0) 0 1;
}

-- over the lots of rows, in turn
abbrev pub through : Walk → List Row → Walk
through w ls = run stepped w (map lot_of ls)

pub through_next : (w : Walk) (l : Row) (ls : List Row) → through w (l ∷ ls) ≡ through (stepped w (lot_of l)) ls
unfolding run
through_next w l ls = refl

-- ---- the bound: nothing is below zero, and each value, with all that is still needed at the highest price, is at
-- most v
pub record Within (v : ℕ) (w : Walk) : Type 0 where
  pub price : w.price.0 ≤ price_most
  pub need : dn w.need.0 ≡ 0
  pub bought : dn w.bought.0 ≡ 0
  pub sold : dn w.sold.0 ≡ 0
  pub bought_most : up w.bought.0 + up w.need.0 * price_most ≤ v
  pub sold_most : up w.sold.0 + up w.need.0 * price_most ≤ v

-- ---- as plain numbers
abbrev pub seen : Walk → Lots.Walk
seen w = record {
  need = up w.need.0;
  bought = up w.bought.0;
  sold = up w.sold.0;
}

abbrev pub made : Bool → Price → Lots.Walk → ℕ → Walk
made buying price w n = record {
  buying = buying;
  price = price;
  need = shares (pos w.need);
  bought = cents (pos w.bought);
  sold = cents (pos w.sold);
  closed = n;
}

-- ---- a step and a run are those of the rules
pub step_seen : (form : ℕ) (w : Walk) (l : Row) → w.buying ≡ buys form
    → seen (stepped w (lot_of l)) ≡ Lots.step form w.price.0 (seen w) l
unfolding stepped lot_of
step_seen form w l e = rw e

pub run_seen : (form : ℕ) (w : Walk) (ls : List Row) → w.buying ≡ buys form
    → seen (through w ls) ≡ run (Lots.step form w.price.0) (seen w) ls
unfolding run stepped
run_seen form w [] e = refl
run_seen form w (l ∷ ls) e =
    run_seen form (stepped w (lot_of l)) ls e
    ∙ ap (λ (x : Lots.Walk). run (Lots.step form w.price.0) x ls) (step_seen form w l e)

-- ---- the lots that are closed
closings_end : (need : ℕ) → closings need [] ≡ []
unfolding closings
closings_end need = refl

pub closings_none : (need : ℕ) (ls : List Row) → need ≡ 0 → closings need ls ≡ []
unfolding closings
closings_none need [] h = refl
closings_none need (l ∷ ls) h = rw (eq-eqb need 0 h)

pub closing : (w : Walk) (l : Row) (ls : List Row) → (up w.need.0 ≡ 0 → ⊥)
    → closings (up w.need.0) (l ∷ ls)
    ≡ record { lot = l; shares = taken_of w (lot_of l) } ∷ closings (up (stepped w (lot_of l)).need.0) ls
unfolding closings stepped lot_of
closing w l ls h = rw (ne_eqb (up w.need.0) 0 h)

-- what a step counts, and a run
step_met : (w : Walk) (l : Lot) → up w.need.0 ≡ 0
    → ((stepped w l).closed ≡ w.closed) × (up (stepped w l).need.0 ≡ 0)
unfolding stepped
step_met w l h = (rw (eq-eqb (up w.need.0) 0 h) (omega arith), omega arith)

step_more : (w : Walk) (l : Lot) → (up w.need.0 ≡ 0 → ⊥) → (stepped w l).closed ≡ w.closed + 1
unfolding stepped
step_more w l h = rw (ne_eqb (up w.need.0) 0 h)

pub run_closed : (w : Walk) (ls : List Row)
    → (through w ls).closed ≡ w.closed + length (closings (up w.need.0) ls)
unfolding run
run_closed w [] = omega (arith, ap length (closings_end (up w.need.0)))
run_closed w (l ∷ ls) = go (eqb (up w.need.0) 0) refl (run_closed (stepped w (lot_of l)) ls)
  where
    next : Walk
    next = stepped w (lot_of l)

    go : (t : Bool) → eqb (up w.need.0) 0 ≡ t
        → (through next ls).closed ≡ next.closed + length (closings (up next.need.0) ls)
        → (through next ls).closed ≡ w.closed + length (closings (up w.need.0) (l ∷ ls))
    go true e ih =
        let z = eqb-true (up w.need.0) 0 e in
        let s = step_met w (lot_of l) z in
        omega (
          arith,
          ap length (closings_none (up w.need.0) (l ∷ ls) z),
          ap length (closings_none (up next.need.0) ls s.1),
        )
    go false e ih =
        let z = eqb-false (up w.need.0) 0 e in
        omega (arith, step_more w (lot_of l) z, ap length (closing w l ls z))

-- ---- what the code asks of a state within its bound
-- at one of two prices shares are worth at most what they are at the highest
worth : (t : Bool) (k a b : ℕ) → a ≤ price_most → b ≤ price_most → k * cond t a b ≤ k * price_most
worth true k a b p q = mul-le-mul_left k p
worth false k a b p q = mul-le-mul_left k q

pub held : (z : ℤ) (k : ℕ) → dn z ≡ 0 → up z + k ≤ value_most → UpTo value_most z
held z k e h = record { above = e; size = omega (arith, abs_parts z); most = omega arith }

pub either_most : (t : Bool) (a b m : ℕ) {r : ℕ} → r ≡ cond t a b → a ≤ m → b ≤ m → r ≤ m
either_most true a b m e p q = omega arith
either_most false a b m e p q = omega arith

pub need_less : (z : ℤ) (n : ℕ) → dn z ≡ 0 → n ≤ up z → z -ℤ pos n ≡ pos (up z - n)
need_less z n e h =
    eq_parts (z -ℤ pos n) (pos (up z - n))
    (omega (arith, parts_add z (neg_ℤ (pos n)), up_neg (pos n), dn_neg (pos n)))

pub step_count : (w : Walk) (l : Lot) → (stepped w l).closed ≤ w.closed + 1
unfolding stepped
step_count w l = go (eqb (up w.need.0) 0)
  where
    go : (t : Bool) → w.closed + cond t 0 1 ≤ w.closed + 1
    go true = omega arith
    go false = omega arith

-- what a caller has of it: the bound for every trade, and that the need is a count of shares
pub within_most : {w : Walk} (n : ℕ) → n ≤ shares_most → Within (n * price_most) w → Within value_most w
within_most n h k = record {
  price = k.price;
  need = k.need;
  bought = k.bought;
  sold = k.sold;
  bought_most = let b = k.bought_most in omega arith;
  sold_most = let s = k.sold_most in omega arith;
}

pub need_held : (w : Walk) → Within value_most w → UpTo shares_most w.need.0
need_held w h = record {
  above = h.need;
  size = omega (arith, abs_parts w.need.0);
  most = omega (arith, h.sold_most);
}

pub lot_price : (l : Row) {x : Lot} → x ≡ lot_of l → l.n1 ≤ price_most → x.price.0 ≤ price_most
unfolding lot_of
lot_price l e h = rw e h

-- ---- every step keeps it
pub step_within : (v : ℕ) (w : Walk) (l : Lot) → l.price.0 ≤ price_most → Within v w → Within v (stepped w l)
unfolding stepped
step_within v w l q h =
    let k = taken_of w l in
    let b = worth w.buying k w.price.0 l.price.0 h.price q in
    let s = worth w.buying k l.price.0 w.price.0 q h.price in
    record {
      price = h.price;
      need = refl;
      bought = refl;
      sold = refl;
      bought_most = omega arith;
      sold_most = omega arith;
    }

pub run_within : (v : ℕ) (w : Walk) (ls : List Row) → ((l : Row) → Memᴰ l ls → l.n1 ≤ price_most) → Within v w
    → Within v (through w ls)
unfolding run lot_of
run_within v w [] p h = h
run_within v w (l ∷ ls) p h =
    run_within v (stepped w (lot_of l)) ls (λ r m. p r (Memᴰ.tail m))
    (step_within v w (lot_of l) (p l (Memᴰ.head refl)) h)

-- ---- from the start: the walk of the rules, and as many lots as they close
exact_run : (w : Walk) (ls : List Row) → w ≡ made w.buying w.price (seen w) w.closed
    → through w ls ≡ made w.buying w.price (seen (through w ls)) (through w ls).closed
unfolding run stepped
exact_run w [] e = e
exact_run w (l ∷ ls) e = exact_run (stepped w (lot_of l)) ls refl

pub walked : (form : ℕ) (price : Price) (n : ℕ) (ls : List Row)
    → through (begun form price (shares (pos n))) ls
    ≡ made (buys form) price (Lots.walk form price.0 n ls) (length (closings n ls))
unfolding Lots.walk
walked form price n ls =
    let w = begun form price (shares (pos n)) in
    exact_run w ls refl
    ∙ (λ i. made (buys form) price (run_seen form w ls refl i) (counted i))
  where
    counted : (through (begun form price (shares (pos n))) ls).closed ≡ length (closings n ls)
    counted = omega (arith, run_closed (begun form price (shares (pos n))) ls)
