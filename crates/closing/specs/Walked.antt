-- The walk over the lots at places, from its start: what the loop keeps, and that it is the walk of the rules. Assumes
-- nothing.
use Rattle.std.specs.Prelude.{◌≡◌, refl, ℕ, suc, ◌+◌, ◌≤◌, ◌<◌, pos, length, take, get_or}
use Rattle.std.proofs.Common.{sym, ap, ap₂, ◌∙◌, add-one}
use mathlib.Core.List.{List, [], ◌∷◌, map}
use native.Mathlib.Omega.{arith}
use Rattle.std.proofs.Math.Seq.{slice, slice-cons, slice_empty}
use Rattle.laws.specs.Search.{run}
use Rattle.record.specs.declared.row.Row.{Row}
use Rattle.record.specs.declared.symbol.Symbol.{Symbol}
use Rattle.kinds.specs.Kinds.{lot_of}
use Rattle.units.specs.Units.{shares}
use Rattle.kinds.specs.declared.rows.Lot.{Lot}
use Rattle.units.specs.declared.AccountNo.{AccountNo}
use Rattle.units.specs.declared.Price.{Price}
use Rattle.model.specs.Lots.{closings, lots_for}
use Rattle.model.specs.Lots
use Rattle.model.specs.Money.{buys}
use Rattle.model.specs.Rows.{rows}
use Rattle.places.specs.Rows.{row_at}
use Rattle.rules.specs.Ranges.{price_most}
use Rattle.money.specs.Amounts.{value_most}
use Rattle.walk.specs.Walk.{Within, begun, lot_price, made, stepped, through, through_next}
use Rattle.walk.specs.Walk
use Rattle.walk.specs.declared.Walk.{Walk}
use Rattle.closing.specs.declared.Sought.{Sought}
use Rattle.closing.specs.Closing.{Gathered, Priced, lots_for_holds, lots_of, sought_of}

-- from the place i on the walk w goes to where the walk w₀ goes from the first
pub record Walking (b at : List ℕ) (n : ℕ) (w₀ : Walk) (i : ℕ) (w : Walk) : Type 0 where
  pub same : through w (map (row_at b) (slice i n at)) ≡ through w₀ (map (row_at b) (take n at))
  pub within : i ≤ n
  pub bound : Within value_most w
  pub few : w.closed ≤ w₀.closed + i

pub walk_start : (b at : List ℕ) (n : ℕ) {w₀ : Walk} → Within value_most w₀ → Walking b at n w₀ 0 w₀
walk_start b at n h = record { same = refl; within = omega arith; bound = h; few = omega arith }

module _ {b at : List ℕ} {n : ℕ} {w₀ : Walk} {i : ℕ} {w : Walk} (s : Walking b at n w₀ i w) where
  pub walk_price : {l : Lot} → Priced b at n → i < n → l ≡ lot_of (row_at b (get_or at i 0)) → l.price.0 ≤ price_most
  walk_price p h e = lot_price (row_at b (get_or at i 0)) e (p.each i h)

  pub walk_more : {l : Lot} {w' : Walk} → i < n → n ≤ length at → l ≡ lot_of (row_at b (get_or at i 0))
      → w' ≡ stepped w l → Within value_most w' × (w'.closed ≤ w.closed + 1) → Walking b at n w₀ (i + 1) w'
  walk_more {l} {w'} h z e f g =
      let r = row_at b (get_or at i 0) in
      let rest = map (row_at b) (slice (suc i) n at) in
      let cells : map (row_at b) (slice i n at) ≡ r ∷ rest = ap (map (row_at b)) (slice-cons i n at 0 h z) in
      let next : w' ≡ stepped w (lot_of r) = f ∙ ap (stepped w) e in
      let few = s.few in
      let more = g.1 in
      record {
        same = rw (add-one i, next) (sym (through_next w r rest) ∙ ap (through w) (sym cells) ∙ s.same);
        within = omega arith;
        bound = g.0;
        few = omega arith;
      }

  pub walk_end : n ≤ i → w ≡ through w₀ (map (row_at b) (take n at))
  unfolding run
  walk_end h =
      let a = s.within in
      let e : i ≡ n = omega arith in
      let none : map (row_at b) (slice i n at) ≡ [] = rw (e, slice_empty n at) in
      rw none at s.same

pub ruleset walking = (walk_start, walk_more, walk_end)

-- ---- from the start over gathered lots it is the walk of the rules, and counts the lots that they close
module _ (form flags : ℕ) (account : AccountNo) (symbol : Symbol) {s : Sought} {b at : List ℕ} {n : ℕ}
    (e : s ≡ sought_of form flags account symbol) (g : Gathered s b at n) where
  abbrev lots : List Row
  lots = lots_for (rows b) form flags account.0 symbol

  pub are_lots : map (row_at b) (take n at) ≡ lots
  are_lots = g.rows ∙ ap (lots_of (rows b)) e ∙ lots_for_holds (rows b) form flags account symbol

  pub walk_is : (price : Price) (m : ℕ) {w₀ w : Walk} → w₀ ≡ begun form price (shares (pos m))
      → w ≡ through w₀ (map (row_at b) (take n at))
      → w ≡ made (buys form) price (Lots.walk form price.0 m lots) (length (closings m lots))
  walk_is price m f q = q ∙ ap₂ through f are_lots ∙ Walk.walked form price m lots
