-- What a result posts, by place: none of the rows that it changes or frees is there twice, so that each is set in the
-- place where its key stood at entry. Assumes nothing.
use Rattle.std.specs.Prelude.{◌≡◌, refl, true, false, ◌≤◌}
use mathlib.Core.List.{List, [], ◌∷◌, ◌++◌, map, Memᴰ}
use Rattle.std.proofs.Common.{arith, le-leb}
use Rattle.laws.specs.Change.{Stands, fill, puts, puts_by_place, sets, stands_fill, written}
use Rattle.laws.specs.Keep.{count_one, the_has}
use Rattle.laws.specs.Search.{count, the}
use Rattle.laws.specs.All.{All}
use Rattle.laws.specs.Place.{the_passes}
use Rattle.record.specs.Codes.{kind_free, submitted}
use Rattle.keys.specs.Key.{key_of}
use Rattle.record.specs.declared.row.Row.{Row}
use Rattle.model.specs.Lots.{Closing}
use Rattle.model.specs.Names.{a_broker}
use Rattle.model.specs.Plan.{posted}
use Rattle.model.specs.Result.{Sums, added, broker_after, figures, posting, sums_of, view, with_broker}
use Rattle.model.specs.Rows.{found, has_key, is, nothing, same_row}
use Rattle.model.specs.Sound.{sound}
use Rattle.facts.specs.Keys.{not_nothing, own_key}
use Rattle.facts.specs.Sound.{once}
use Rattle.facts.specs.Posted.{frees}
use Rattle.facts.specs.Result.{Read, Turned, writes}
use Rattle.facts.proofs.Result.{all_own, reads, writes_once}
use Rattle.facts.specs.Rows.{row_itself, same_rows}
use Rattle.result.specs.Place.{placed, spot}

-- ---- rows of keys of their own are set in the places where these stood first
module _ (rs : List Row) (good : sound rs ≡ true) where
  stands : (o : Row) → Memᴰ o rs → is kind_free o ≡ false
      → Stands (λ (x : Row). has_key (key_of x)) nothing (spot rs) rs o
  stands o m live =
      let p = has_key (key_of o) in
      let c = once rs good o m live in
      let some = le-leb 1 (count p rs) (omega arith) in
      record {
        some = some;
        first =
            count_one p (the p nothing rs) o rs (omega arith) (the_has p nothing rs some) m
            (the_passes p nothing rs some) (own_key o);
        here = refl;
      }

  -- rows of keys of their own are set in their places
  rows_by_place : (hs : List Row) (ws : List (Row × Row)) → All (Turned rs hs) ws
      → All (λ (v : Row × Row). count (λ (w : Row × Row). has_key (key_of v.0) w.0) ws ≤ 1) ws
      → puts same_row ws (fill same_row nothing hs rs) ≡ sets (map (placed rs) ws) (fill same_row nothing hs rs)
  rows_by_place hs ws a c =
      puts_by_place same_row same_rows (λ (x : Row). has_key (key_of x)) nothing (spot rs) row_itself ws
      (fill same_row nothing hs rs)
      (λ w m.
      let t = a w m in
      stands_fill same_row same_rows (λ (x : Row). has_key (key_of x)) nothing (spot rs) nothing hs rs w.0
      (not_nothing w.0 t.live) t.alone (stands w.0 t.held t.live))
      (λ v m w n. (a w n).key v.0 (a v m).live)
      c

-- ---- and so are those that a result changes or frees
module _ {rs : List Row} {t summary account broker : Row} {cs : List Closing}
    (r : Read rs t summary account broker cs) (n : Sums) where
  result_by_place : puts same_row (writes t summary account broker cs n)
      (fill same_row nothing (added t summary cs n) rs)
      ≡ sets (map (placed rs) (writes t summary account broker cs n))
      (fill same_row nothing (added t summary cs n) rs)
  result_by_place =
      rows_by_place rs r.good (added t summary cs n) (writes t summary account broker cs n) (all_own r n)
      (λ v m.
      let w = all_own r n v m in
      let c = once rs r.good v.0 w.held w.live in
      writes_once r n (key_of v.0) (omega arith))

module _ (rs : List Row) (input : Row) (good : sound rs ≡ true) where
  pub posted_by_place : is kind_free (view rs input).trade ≡ false → (view rs input).trade.status ≡ submitted
      → let v = view rs input in
      let f = figures input v in
      let b = found (a_broker v.account.n1) rs in
      posted (with_broker b f.commission (posting input v f)) rs
      ≡ sets
      (map (placed rs)
      ((posting input v f).changes ++ (b, broker_after b f.commission) ∷ [] ++ frees (posting input v f).freed))
      (fill same_row nothing (posting input v f).added rs)
  unfolding posted written posting
  posted_by_place live status =
      result_by_place (reads rs input good live status) (sums_of input (figures input (view rs input)))
