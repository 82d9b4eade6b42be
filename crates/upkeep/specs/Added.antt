-- Rows added one after the other, each at the lowest free place, while the directory stays right.
use Rattle.std.specs.Prelude.{◌≡◌, Bool, true, false, List, [], ◌∷◌, ◌++◌, ℕ, zero, suc, ◌+◌, ◌≤◌, max, length, get_or, set}
use Rattle.std.proofs.Math.Path.{refl}
use Rattle.std.proofs.Common.{sym, ap, ◌∙◌, length-append}
use Rattle.std.proofs.lemmas.Bool.{false≢true}
use native.Mathlib.Omega.{arith}
use Rattle.laws.specs.Change.{fill, fill_append, put}
use Rattle.record.specs.Codes.{kind_free}
use Rattle.record.specs.declared.row.Row.{Row}
use Rattle.model.specs.Order.{trade_id}
use Rattle.model.specs.Rows.{is, nothing, rows, same_row}
use Rattle.model.specs.Sound.{s1}
use Rattle.facts.specs.Rows.{Clean, clean_fit, same_rows}
use Rattle.places.specs.Put.{free_add}
use Rattle.places.specs.Rows.{after, free_from, put_at, row_at}
use Rattle.directory.specs.Directory.{Directory}
use Rattle.directory.specs.declared.totals.Totals.{Totals}

-- there is room for the rows hs
pub record Room (hs : List Row) (b d : List ℕ) (t : Totals) : Type 0 where
  pub directory : Directory b d t
  pub clean : Clean (rows b)
  pub room : length hs ≤ t.free

-- they are added
pub record Added (hs : List Row) (b : List ℕ) (t : Totals) (b' d' : List ℕ) (t' : Totals) : Type 0 where
  pub directory : Directory b' d' t'
  pub clean : Clean (rows b')
  pub filled : rows b' ≡ fill same_row nothing hs (rows b)
  pub room : t'.free + length hs ≡ t.free

-- what `add` promises of one
abbrev Adds : Row → List ℕ → Totals → List ℕ → List ℕ → Totals → Type 0
Adds r b t b' d' t' =
    let p = free_from (rows b) 0 in
    ((b' ≡ put_at b p r) × (rows b' ≡ set (rows b) p r))
    × (Directory b' d' t'
    × ((t'.free + 1 ≡ t.free) × (t'.largest.0 ≡ max t.largest.0 (trade_id r))))

pub room_start : (hs : List Row) {b d : List ℕ} {t : Totals} → Directory b d t → s1 (rows b) ≡ true
    → length hs ≤ t.free → Room hs b d t
room_start hs {b} s e h = record { directory = s; clean = clean_fit (rows b) e; room = h }

module _ {b d : List ℕ} {t : Totals} where
  pub room_first : (hs ks : List Row) → Room (hs ++ ks) b d t → Room hs b d t
  room_first hs ks s =
      let n = length-append hs ks in
      let r = s.room in
      record { directory = s.directory; clean = s.clean; room = omega arith }

  pub room_next : (hs ks : List Row) {b' d' : List ℕ} {t' : Totals} → Room (hs ++ ks) b d t → Added hs b t b' d' t'
      → Room ks b' d' t'
  room_next hs ks s a =
      let n = length-append hs ks in
      let r = s.room in
      let m = a.room in
      record { directory = a.directory; clean = a.clean; room = omega arith }

  pub added_none : Room [] b d t → Added [] b t b d t
  unfolding fill
  added_none s = record { directory = s.directory; clean = s.clean; filled = refl; room = omega arith }

  pub added_one : {n r : Row} {b' d' : List ℕ} {t' : Totals} → Room (n ∷ []) b d t → is kind_free n ≡ false → r ≡ n
      → Adds r b t b' d' t' → Added (n ∷ []) b t b' d' t'
  unfolding fill
  added_one {n} {r} {b'} s e f a =
      let one =
      free_add b b' 0 n {next = after (rows b) (free_from (rows b) 0)} (record { clean = s.clean; lowest = refl }) e
      refl (rw f at a.0.1)
      in
      let m = a.1.1.0 in
      record { directory = a.1.0; clean = one.1.clean; filled = one.0; room = omega arith }

pub added_then : (hs ks : List Row) {b b₁ d₁ b₂ d₂ : List ℕ} {t t₁ t₂ : Totals} → Added hs b t b₁ d₁ t₁
    → Added ks b₁ t₁ b₂ d₂ t₂ → Added (hs ++ ks) b t b₂ d₂ t₂
added_then hs ks {b = b} s a =
    let n = length-append hs ks in
    let m = s.room in
    let k = a.room in
    record {
      directory = a.directory;
      clean = a.clean;
      filled = a.filled ∙ ap (fill same_row nothing ks) s.filled ∙ sym (fill_append same_row nothing hs ks (rows b));
      room = omega arith;
    }

-- ---- rows that are not free stay where they are
put_keeps : (n : Row) (rs : List Row) (p : ℕ) → is kind_free (get_or rs p nothing) ≡ false
    → get_or (put same_row nothing n rs) p nothing ≡ get_or rs p nothing
unfolding put
put_keeps n [] p e = refl
put_keeps n (x ∷ l) zero e = go (same_row nothing x) refl
  where
    go : (t : Bool) → same_row nothing x ≡ t → get_or (put same_row nothing n (x ∷ l)) 0 nothing ≡ x
    go true h = absurd (false≢true (sym e ∙ ap (is kind_free) (sym (same_rows nothing x h))))
    go false h = rw h
put_keeps n (x ∷ l) (suc p) e = go (put_keeps n l p e) (same_row nothing x) refl
  where
    go : get_or (put same_row nothing n l) p nothing ≡ get_or l p nothing → (t : Bool) → same_row nothing x ≡ t
        → get_or (put same_row nothing n (x ∷ l)) (suc p) nothing ≡ get_or l p nothing
    go ih true h = rw h
    go ih false h = rw h ih

pub fill_keeps : (hs rs : List Row) (p : ℕ) → is kind_free (get_or rs p nothing) ≡ false
    → get_or (fill same_row nothing hs rs) p nothing ≡ get_or rs p nothing
unfolding fill
fill_keeps [] rs p e = refl
fill_keeps (h ∷ hs) rs p e =
    let one = put_keeps h rs p e in
    fill_keeps hs (put same_row nothing h rs) p (ap (is kind_free) one ∙ e) ∙ one

pub added_keeps : {hs : List Row} {b b' d' : List ℕ} {t t' : Totals} → Added hs b t b' d' t' → (p : ℕ)
    → is kind_free (row_at b p) ≡ false → row_at b' p ≡ row_at b p
added_keeps {hs} {b} a p e = rw a.filled (fill_keeps hs (rows b) p e)
