-- What stands at most once in a sound book: the row of a key, by S2, and the band that holds so many shares, by S4.
-- Assumes nothing.
use Rattle.std.specs.Prelude.{◌≡◌, Bool, true, false, List, ℕ, ◌≤◌, eqb, leb}
use Rattle.std.proofs.Common.{sym, ◌∙◌, arith, leb-false}
use Rattle.std.proofs.lemmas.Bool.{eqb-false}
use Rattle.laws.specs.Keep.{the_has}
use Rattle.laws.specs.Place.{the_passes}
use Rattle.laws.specs.Puts.{count_less}
use Rattle.laws.specs.Search.{count, the}
use Rattle.laws.specs.Tests.{Means, means_and, means_eq, means_le}
use Rattle.record.specs.Codes.{kind_band, kind_free}
use Rattle.keys.specs.declared.Key.{Key}
use Rattle.record.specs.declared.row.Row.{Row}
use Rattle.model.specs.Band.{band_for}
use Rattle.model.specs.Rows.{has_key, nothing}
use Rattle.model.specs.Sound.{overlaps, sound}
use Rattle.model.specs.SoundMeans.{means_sound}
use Rattle.preserved.specs.Cases.{by_cases}
use Rattle.preserved.specs.ResultFresh.{one_key}

-- S2: a key has one row at most
pub key_once : (rs : List Row) → sound rs ≡ true → (k : Key) → eqb k.kind kind_free ≡ false
    → count (has_key k) rs ≤ 1
key_once rs good k live = one_key rs ((means_sound rs).shows good).s2 k (eqb-false k.kind kind_free live)

-- S4: shares have one band at most
abbrev pub Band : ℕ → ℕ → ℕ → ℕ → Row → Type 0
Band form tier exchange shares r =
    (((((r.kind ≡ kind_band) × (r.form ≡ form)) × (r.status ≡ tier)) × (r.flags ≡ exchange)) × (r.n1 ≤ shares))
    × (shares ≤ r.n2)

pub means_band : (form tier exchange shares : ℕ) (r : Row)
    → Means (band_for form tier exchange shares r) (Band form tier exchange shares r)
means_band form tier exchange shares r =
    means_and
    (means_and
    (means_and
    (means_and (means_and (means_eq r.kind kind_band) (means_eq r.form form)) (means_eq r.status tier))
    (means_eq r.flags exchange))
    (means_le r.n1 shares))
    (means_le shares r.n2)

both_overlap : (form tier exchange shares : ℕ) (x y : Row) → Band form tier exchange shares x
    → Band form tier exchange shares y → overlaps x y ≡ true
both_overlap form tier exchange shares x y p q =
    let same =
    means_and
    (means_and (means_and (means_eq y.kind kind_band) (means_eq x.form y.form))
    (means_eq x.status y.status))
    (means_eq x.flags y.flags)
    in
    (means_and (means_and same (means_le x.n1 y.n2)) (means_le y.n1 x.n2)).holds (
      (
        (
          (
            (q.0.0.0.0.0, p.0.0.0.0.1 ∙ sym q.0.0.0.0.1),
            p.0.0.0.1 ∙ sym q.0.0.0.1,
          ),
          p.0.0.1 ∙ sym q.0.0.1,
        ),
        let a = p.0.1 in let b = q.1 in omega arith,
      ),
      let a = q.0.1 in let b = p.1 in omega arith,
    )

pub band_once : (rs : List Row) → sound rs ≡ true → (form tier exchange shares : ℕ)
    → count (band_for form tier exchange shares) rs ≤ 1
band_once rs good form tier exchange shares =
    let p : Row → Bool = λ r. band_for form tier exchange shares r in
    let means = means_band form tier exchange shares in
    by_cases (leb 1 (count p rs))
    (λ some.
    let x = the p nothing rs in
    let has = (means x).shows (the_passes p nothing rs some) in
    let one = ((means_sound rs).shows good).s4 x (the_has p nothing rs some) has.0.0.0.0.0 in
    let most =
    count_less p (overlaps x) rs (λ y m e. both_overlap form tier exchange shares x y has ((means y).shows e))
    in
    omega arith)
    (λ none. let h = leb-false 1 (count p rs) none in omega arith)
