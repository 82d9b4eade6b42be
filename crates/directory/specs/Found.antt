-- What the place of the first row that passes a test tells: whether there is one, and which. Assumes nothing.
use Rattle.std.specs.Prelude.{◌≡◌, Bool, List, ℕ, leb, ltb}
use Rattle.std.proofs.Common.{sym, ◌∙◌}
use Rattle.laws.specs.Place.{some_place, the_place}
use Rattle.laws.specs.Search.{count, place, the}
use Rattle.keys.specs.declared.Key.{Key}
use Rattle.record.specs.declared.row.Row.{Row}
use Rattle.model.specs.Rows.{found, has_key, nothing, rows, there}
use Rattle.facts.specs.Rows.{length_rows}
use Rattle.places.specs.Rows.{row_at}
use Rattle.directory.specs.Listed.{places}

pub there_is : (p : Row → Bool) (b : List ℕ) {x : ℕ} → x ≡ place p (rows b)
    → ltb x (places b) ≡ leb 1 (count p (rows b))
there_is p b e = rw (e, ← length_rows b) (sym (some_place p (rows b)))

pub key_there : (k : Key) (b : List ℕ) {x : ℕ} → x ≡ place (has_key k) (rows b) → ltb x (places b) ≡ there k (rows b)
unfolding there
key_there k b e = there_is (has_key k) b e

pub place_row : (p : Row → Bool) (b : List ℕ) {x : ℕ} {r : Row} → x ≡ place p (rows b) → r ≡ row_at b x
    → r ≡ the p nothing (rows b)
place_row p b e h = h ∙ rw e (sym (the_place p nothing (rows b)))

pub key_row : (k : Key) (b : List ℕ) {x : ℕ} {r : Row} → x ≡ place (has_key k) (rows b) → r ≡ row_at b x
    → r ≡ found k (rows b)
unfolding found
key_row k b e h = place_row (has_key k) b e h
