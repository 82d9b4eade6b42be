-- What is found by a key: a row of the book that has the key, or nothing. In a sound book what binds every such row binds
-- it, and by S2 a number finds the one row of its kind that has it. Assumes nothing.
use Rattle.std.specs.Prelude.{◌≡◌, Bool, true, false, ◌⊎◌, ℕ, ◌≤◌, eqb, leb, length}
use Rattle.std.proofs.Math.Path.{refl, sym, ap}
use Rattle.std.proofs.Common.{◌∙◌, inl, inr, arith}
use Rattle.std.proofs.lemmas.Bool.{false≢true}
use mathlib.Core.List.{List, Memᴰ}
use Rattle.std.proofs.Math.Logic.{⊎_elim}
use borrow.Author.Tests.{eq-eqb, eqb-true, le-leb, ltb-true}
use Rattle.laws.specs.Keep.{count_has, count_kept, count_one, the_has, the_kept}
use Rattle.laws.specs.Place.{every_at, some_place, the_none, the_passes, the_place}
use Rattle.laws.specs.Search.{count, keep, place, the}
use Rattle.laws.specs.Tests.{and_both}
use Rattle.record.specs.Codes.{kind_free}
use Rattle.keys.specs.Key.{among, key_of}
use Rattle.keys.specs.KeyLaws.{same_keys}
use Rattle.keys.specs.declared.Key.{Key}
use Rattle.record.specs.declared.row.Row.{Row}
use Rattle.rules.specs.Rules.{fits}
use Rattle.model.specs.Names.{by_id}
use Rattle.model.specs.Rows.{found, has_key, is, nothing, there}
use Rattle.model.specs.Sound.{s1, s2, sound}
use Rattle.model.specs.SoundMeans.{means_s1, means_s2, means_sound}
use Rattle.facts.specs.Keys.{key_kind}
use Rattle.facts.specs.Names.{by_id_holds, id_kinds}

-- ---- by a key
-- it has the key; where it is not there, it is nothing
pub found_has : (k : Key) (rs : List Row) → there k rs ≡ true → has_key k (found k rs) ≡ true
unfolding there found
found_has k rs e = the_passes (has_key k) nothing rs e

pub found_none : (k : Key) (rs : List Row) → there k rs ≡ false → found k rs ≡ nothing
unfolding there found
found_none k rs e = the_none (has_key k) nothing rs e

-- a row that is found has its key, or is nothing
pub found_either : (k : Key) (rs : List Row) → (has_key k (found k rs) ≡ true) ⊎ (found k rs ≡ nothing)
found_either k rs = go (there k rs) refl
  where
    go : (t : Bool) → there k rs ≡ t → (has_key k (found k rs) ≡ true) ⊎ (found k rs ≡ nothing)
    go true e = inl (found_has k rs e)
    go false e = inr (found_none k rs e)

module _ (rs : List Row) where
  pub found_live : (k : Key) → is kind_free (found k rs) ≡ false → there k rs ≡ true
  found_live k live = go (there k rs) refl
    where
      go : (t : Bool) → there k rs ≡ t → there k rs ≡ true
      go true e = e
      go false e = absurd (false≢true (sym live ∙ ap (is kind_free) (found_none k rs e)))

  pub found_member : (k : Key) → there k rs ≡ true → Memᴰ (found k rs) rs
  unfolding there found
  found_member k e = the_has (has_key k) nothing rs e

  pub found_kind : (k : Key) → there k rs ≡ true → (found k rs).kind ≡ k.kind
  found_kind k e = key_kind k (found k rs) (found_has k rs e)

-- what is found and whether it is there, by what is kept
module _ (k : Key) (l m : List Row) (e : keep (has_key k) l ≡ keep (has_key k) m) where
  pub found_kept : found k l ≡ found k m
  unfolding found
  found_kept =
      the_kept (has_key k) nothing l ∙ ap (the (has_key k) nothing) e ∙ sym (the_kept (has_key k) nothing m)

  pub there_kept : there k l ≡ there k m
  unfolding there
  there_kept =
      ap (leb 1) (count_kept (has_key k) l ∙ ap (count (has_key k)) e ∙ sym (count_kept (has_key k) m))

-- ---- in a sound book
pub sound_s1 : (rs : List Row) → sound rs ≡ true → s1 rs ≡ true
sound_s1 rs e = (means_s1 rs).holds ((means_sound rs).shows e).s1

pub sound_s2 : (rs : List Row) → sound rs ≡ true → s2 rs ≡ true
sound_s2 rs e = (means_s2 rs).holds ((means_sound rs).shows e).s2

-- what every such row that fits is bound by, and nothing too, binds it
pub the_most : (p : Row → Bool) (f : Row → ℕ) (m : ℕ) (rs : List Row) → s1 rs ≡ true
    → ((r : Row) → fits r ≡ true → p r ≡ true → f r ≤ m) → f nothing ≤ m → f (the p nothing rs) ≤ m
unfolding s1
the_most p f m rs e each none = go (leb 1 (count p rs)) refl
  where
    go : (t : Bool) → leb 1 (count p rs) ≡ t → f (the p nothing rs) ≤ m
    go true h =
        let inside = ltb-true (place p rs) (length rs) (sym (some_place p rs) ∙ h) in
        let good : fits (the p nothing rs) ≡ true =
        rw (the_place p nothing rs) (every_at fits nothing rs (place p rs) e inside)
        in
        each (the p nothing rs) good (the_passes p nothing rs h)
    go false h = rw (the_none p nothing rs h) none

-- ---- the row of a number, of a kind that is known by it
module _ (k : ℕ) (known : among k id_kinds ≡ true) where
  pub own_number : (i : ℕ) (r : Row) → is k r ≡ true → r.id ≡ i → has_key (by_id k i) r ≡ true
  own_number i r e h = by_id_holds k known i r ∙ and_both (is k r) (eqb r.id i) e (eq-eqb r.id i h)

  module _ (rs : List Row) (unique : s2 rs ≡ true) (r : Row) (m : Memᴰ r rs) (e : is k r ≡ true) where
    one_number : count (has_key (by_id k r.id)) rs ≤ 1
    unfolding has_key
    one_number =
        let own : key_of r ≡ by_id k r.id = same_keys (key_of r) (by_id k r.id) (own_number r.id r e refl) in
        ⊎_elim
        (λ f. let z : k ≡ kind_free = sym (eqb-true r.kind k e) ∙ f in absurd (false≢true (rw z at known)))
        (λ c. let z : count (has_key (by_id k r.id)) rs ≡ 1 = rw own at c in omega arith)
        ((means_s2 rs).shows unique r m)

    pub found_again : found (by_id k r.id) rs ≡ r
    unfolding found
    found_again =
        let p = has_key (by_id k r.id) in
        let own = own_number r.id r e refl in
        let some = le-leb 1 (count p rs) (count_has p r rs m own) in
        count_one p (the p nothing rs) r rs one_number (the_has p nothing rs some) m (the_passes p nothing rs some) own
