-- In a sound book every lot has its summary (S8): where there is none, a trade closes no lot. Assumes nothing.
use Rattle.std.specs.Prelude.{◌≡◌, refl, true, ◌&&◌, ℕ, eqb}
use mathlib.Core.List.{List, [], ◌∷◌, Memᴰ}
use Rattle.std.proofs.Common.{arith, eqb-true, le-leb}
use Rattle.laws.specs.Keep.{keep_from}
use Rattle.laws.specs.Search.{count, keep}
use Rattle.laws.specs.Sort.{sort}
use Rattle.laws.specs.Tests.{◌⇔◌, and_left, and_right}
use Rattle.record.specs.Codes.{kind_free, kind_lot, kind_summary}
use Rattle.record.specs.Symbol.{same_symbol_holds, same_symbol}
use Rattle.record.specs.declared.row.Row.{Row}
use Rattle.record.specs.declared.symbol.Symbol.{Symbol}
use Rattle.model.specs.Lots.{closes, lots_for}
use Rattle.model.specs.Money.{buys}
use Rattle.model.specs.Names.{a_summary}
use Rattle.model.specs.Rows.{found, has_key, is, there}
use Rattle.model.specs.Sound.{lot_of, short, sound}
use Rattle.model.specs.SoundMeans.{There, means_sound}
use Rattle.facts.specs.Found.{found_kind}

no_member : {A : Type 0} (l : List A) → ((x : A) → Memᴰ x l → ⊥) → l ≡ []
no_member [] h = refl
no_member (x ∷ l) h = absurd (h x (Memᴰ.head refl))

-- what is found where there is a summary is one
found_summary : (rs : List Row) (a : ℕ) (s : Symbol) → There (a_summary a s) rs
    → (found (a_summary a s) rs).kind ≡ kind_summary
unfolding there
found_summary rs a s t = found_kind rs (a_summary a s) (le-leb 1 (count (has_key (a_summary a s)) rs) t)

module _ (rs : List Row) (good : sound rs ≡ true) (form flags a : ℕ) (s : Symbol)
    (e : (found (a_summary a s) rs).kind ≡ kind_free) where
  none_closes : (r : Row) → Memᴰ r (keep (closes form a s) rs) → ⊥
  none_closes r m =
      let k = keep_from (closes form a s) r rs m in
      let l = and_left (lot_of a s r) (buys form ⇔ short r) k.1 in
      let ka = and_left (is kind_lot r && eqb r.party a) (same_symbol r.symbol s) l in
      let lot = eqb-true r.kind kind_lot (and_left (is kind_lot r) (eqb r.party a) ka) in
      let pa = eqb-true r.party a (and_right (is kind_lot r) (eqb r.party a) ka) in
      let sy = same_symbol_holds r.symbol s (and_right (is kind_lot r && eqb r.party a) (same_symbol r.symbol s) l) in
      let u : There (a_summary r.party r.symbol) rs = ((((means_sound rs).shows good).s8 r k.0).0 lot).1 in
      let z = found_summary rs a s (rw (pa, sy) at u) in
      omega arith

  pub no_lots : lots_for rs form flags a s ≡ []
  unfolding lots_for sort
  no_lots = rw (no_member (keep (closes form a s) rs) none_closes)
