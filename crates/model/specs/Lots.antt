-- The walk over lots: "A sell works on positive lots, a buy on negative ones, by rising time and then trade number,
-- or both falling with LIFO. After each lot the walk holds shares still needed, bought value and sold value. A lot
-- larger than the need is reduced; else it is removed .. For a sell, closed shares add their lot price to bought and
-- the trade price to sold; for a buy, the reverse." Assumes nothing.
use Rattle.std.specs.Prelude.{◌≡◌, refl, Bool, true, false, cond, ◌&&◌, ◌||◌, List, [], ◌∷◌, ℕ, ◌+◌, ◌-◌, ◌*◌, min, eqb, leb, ltb, nat_abs}
use Rattle.std.proofs.Common.{arith, eqb-true, to_z}
use Rattle.std.specs.Int.{w64}
use Rattle.laws.specs.Tests.{◌⇔◌}
use Rattle.laws.specs.Search.{keep, run, total}
use Rattle.laws.specs.Sort.{sort}
use Rattle.record.specs.declared.row.Row.{Row}
use Rattle.record.specs.declared.symbol.Symbol.{Symbol}
use Rattle.model.specs.Flags.{lifo}
use Rattle.model.specs.Money.{buys}
use Rattle.model.specs.Sound.{lot_of, short}

-- a comes before b, by time and then by number
abbrev pub earlier : Row → Row → Bool
earlier a b = ltb a.time b.time || (eqb a.time b.time && leb a.id b.id)

abbrev pub before : Bool → Row → Row → Bool
before last a b = cond last (earlier b a) (earlier a b)

-- the lots that a trade of this type closes: of its account and symbol, and of the other sign
abbrev pub closes : ℕ → ℕ → Symbol → Row → Bool
closes form account symbol r = lot_of account symbol r && (buys form ⇔ short r)

unfoldable pub lots_for : List Row → ℕ → ℕ → ℕ → Symbol → List Row
lots_for rs form flags account symbol = sort (before (lifo flags)) (keep (closes form account symbol) rs)

abbrev pub size : Row → ℕ
size l = nat_abs (to_z w64 l.m1)

-- shares still needed, bought value and sold value
pub record Walk : Type 0 where
  pub need : ℕ
  pub bought : ℕ
  pub sold : ℕ

abbrev pub start : ℕ → Walk
start shares = record { need = shares; bought = 0; sold = 0 }

-- as many of a lot's shares as are needed
abbrev pub taken : ℕ → Row → ℕ
taken need l = min need (size l)

abbrev pub step : ℕ → ℕ → Walk → Row → Walk
step form price w l = record {
  need = w.need - taken w.need l;
  bought = w.bought + taken w.need l * cond (buys form) price l.n1;
  sold = w.sold + taken w.need l * cond (buys form) l.n1 price;
}

unfoldable pub walk : ℕ → ℕ → ℕ → List Row → Walk
walk form price shares lots = run (step form price) (start shares) lots

-- a lot that is closed in whole or in part, and the shares taken from it
pub record Closing : Type 0 where
  pub lot : Row
  pub shares : ℕ

-- the lots in turn, for as long as there is a need
unfoldable pub closings : ℕ → List Row → List Closing
closings need [] = []
closings need (l ∷ ls) =
    cond (eqb need 0) [] (record { lot = l; shares = taken need l } ∷ closings (need - taken need l) ls)

-- what is taken from lots and what is still needed are the shares of the trade
abbrev shares_taken : List Closing → ℕ
shares_taken cs = total (λ (c : Closing). c.shares) cs

unclosed : (form price : ℕ) (w : Walk) (ls : List Row) → w.need ≡ 0 → (run (step form price) w ls).need ≡ 0
unfolding run
unclosed form price w [] e = e
unclosed form price w (l ∷ ls) e = unclosed form price (step form price w l) ls (omega arith)

pub all_shares : (form price : ℕ) (w : Walk) (ls : List Row)
    → shares_taken (closings w.need ls) + (run (step form price) w ls).need ≡ w.need
unfolding run closings total
all_shares form price w [] = omega arith
all_shares form price w (l ∷ ls) = go (eqb w.need 0) refl (all_shares form price (step form price w l) ls)
  where
    next : Walk
    next = step form price w l

    rest : ℕ
    rest = (run (step form price) next ls).need

    first : List Closing
    first = record { lot = l; shares = taken w.need l } ∷ closings next.need ls

    go : (t : Bool) → eqb w.need 0 ≡ t → shares_taken (closings next.need ls) + rest ≡ next.need
        → shares_taken (cond t [] first) + rest ≡ w.need
    go true e ih = let z = eqb-true w.need 0 e in omega (arith, unclosed form price next ls (omega arith))
    go false e ih = omega arith
