-- The place where a row that a result changes or frees stands at entry, found by its key, which no other row has.
-- Assumes nothing.
use Rattle.std.specs.Prelude.{◌≡◌, refl, Bool, true, false, ℕ, zero, suc, ◌+◌, ◌≤◌, ◌<◌, length, get_or}
use Rattle.std.proofs.Common.{sym, ap, ◌∙◌, arith, le-leb}
use mathlib.Core.List.{List, [], ◌∷◌, Memᴰ}
use Rattle.laws.specs.All.{each_of_all}
use Rattle.laws.specs.Keep.{count_has, count_one, the_has}
use Rattle.laws.specs.Place.{seek_suc, the_passes, the_place}
use Rattle.laws.specs.Search.{count, place, seek, the, total}
use Rattle.record.specs.Codes.{kind_free}
use Rattle.record.specs.declared.row.Row.{Row}
use Rattle.keys.specs.Key.{key_of}
use Rattle.model.specs.Rows.{has_key, is, nothing}
use Rattle.model.specs.Sound.{sound}
use Rattle.facts.specs.Keys.{own_key}
use Rattle.facts.specs.Sound.{once}

-- where a row's key stands first
abbrev pub spot : List Row → Row → ℕ
spot rs o = place (has_key (key_of o)) rs

-- a row in the place of another, by the place
abbrev pub placed : List Row → Row × Row → ℕ × Row
placed rs w = (spot rs w.0, w.1)

-- a row at a place is one of the list
pub at_member : {A : Type 0} (d : A) (l : List A) (p : ℕ) → p < length l → Memᴰ (get_or l p d) l
at_member d l p h = each_of_all (λ x. Memᴰ x l) d l (λ x m. m) p h

-- where only one passes, its place is the first
one_place : {A : Type 0} (q : A → Bool) (d : A) (l : List A) (p : ℕ) → count q l ≤ 1 → p < length l
    → q (get_or l p d) ≡ true → place q l ≡ p
unfolding seek count total
one_place q d [] p c h e = absurd (omega arith)
one_place q d (x ∷ l) zero c h e = rw e
one_place q d (x ∷ l) (suc p) c h e = go (λ k. one_place q d l p k (omega arith) e) (q x) refl
  where
    go : (count q l ≤ 1 → place q l ≡ p) → (t : Bool) → q x ≡ t → place q (x ∷ l) ≡ suc p
    go ih true f =
        let k : 1 + count q l ≤ 1 = rw f at c in
        let n = count_has q (get_or l p d) l (at_member d l p (omega arith)) e in
        absurd (omega arith)
    go ih false f =
        let k : 0 + count q l ≤ 1 = rw f at c in
        rw (f, seek_suc q 0 l) (ap suc (ih (omega arith)))

module _ (rs : List Row) (good : sound rs ≡ true) where
  -- a row that is not free stands where its key does
  pub spot_at : (p : ℕ) → p < length rs → is kind_free (get_or rs p nothing) ≡ false → spot rs (get_or rs p nothing) ≡ p
  spot_at p h live =
      let o = get_or rs p nothing in
      let c = once rs good o (at_member nothing rs p h) live in
      one_place (has_key (key_of o)) nothing rs p (omega arith) h (own_key o)

  -- and is the row there
  pub at_spot : (o : Row) → Memᴰ o rs → is kind_free o ≡ false → get_or rs (spot rs o) nothing ≡ o
  at_spot o m live =
      let p = has_key (key_of o) in
      let c = once rs good o m live in
      let some = le-leb 1 (count p rs) (omega arith) in
      sym (the_place p nothing rs)
      ∙ count_one p (the p nothing rs) o rs (omega arith) (the_has p nothing rs some) m
      (the_passes p nothing rs some) (own_key o)
