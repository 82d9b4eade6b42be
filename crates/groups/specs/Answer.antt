-- What the search for a band answers, by the place of the band and by its rate. Assumes nothing.
use Rattle.std.specs.Prelude.{◌≡◌, Bool, List, ℕ, ◌≤◌, ◌<◌}
use Rattle.std.proofs.Math.Path.{sym}
use Rattle.std.proofs.Common.{◌∙◌}
use Rattle.std.proofs.Math.Bool.{true}
use Rattle.std.proofs.Math.Dec.{leb}
use borrow.Author.Tests.{le-ltb, lt-ltb, ne_eqb}
use Rattle.laws.specs.Place.{the_none, the_passes}
use Rattle.laws.specs.Search.{count, place, the}
use Rattle.record.specs.Codes.{kind_band}
use Rattle.record.specs.declared.row.Row.{Row}
use Rattle.units.specs.declared.PerTenThousand.{PerTenThousand}
use Rattle.model.specs.declared.BandAnswer.TheVariants.{NoBand, Rate, ZeroRate}
use Rattle.model.specs.Band.{band_answer, band_for, rated}
use Rattle.model.specs.Rows.{nothing, rows}
use Rattle.facts.specs.Most.{band_kind}
use Rattle.places.specs.Rows.{row_at}
use Rattle.directory.specs.Found.{place_row, there_is}
use Rattle.directory.specs.Listed.{places}

-- ---- by its rate
pub rate_zero : (rate : PerTenThousand) → rate.0 ≡ 0 → ZeroRate ≡ rated rate.0
rate_zero rate e = rw e

pub rate_above : (rate : PerTenThousand) → (rate.0 ≡ 0 → ⊥) → Rate rate ≡ rated rate.0
rate_above rate n = rw (ne_eqb rate.0 0 n)

-- ---- by its place
module _ (b : List ℕ) (form tier exchange shares : ℕ) {x : ℕ}
    (e : x ≡ place (band_for form tier exchange shares) (rows b)) where
  abbrev holds : Row → Bool
  holds r = band_for form tier exchange shares r

  abbrev found : Row
  found = the holds nothing (rows b)

  pub band_there : {r : Row} → x < places b → r ≡ row_at b x
      → rated r.n3 ≡ band_answer (rows b) form tier exchange shares
  unfolding band_answer
  band_there h q =
      let some : leb 1 (count holds (rows b)) ≡ true = sym (there_is holds b e) ∙ lt-ltb x (places b) h in
      let k : found.kind ≡ kind_band =
      band_kind form tier exchange shares found (the_passes holds nothing (rows b) some)
      in
      rw (place_row holds b e q, k)

  pub no_band_holds : places b ≤ x → NoBand ≡ band_answer (rows b) form tier exchange shares
  unfolding band_answer
  no_band_holds h = rw (the_none holds nothing (rows b) (sym (there_is holds b e) ∙ le-ltb x (places b) h))
