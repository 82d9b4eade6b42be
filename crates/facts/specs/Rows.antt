-- Rows: the test of sameness tells equality, a free row that fits is nothing, and what is found, kept and counted after
-- a row takes another's place. Assumes nothing.
use Rattle.std.specs.Prelude.{◌≡◌, refl, Bool, true, false, List, [], ◌∷◌, ℕ, ◌≤◌, ◌/◌, eqb, leb, ltb, length, get_or, set}
use Rattle.std.proofs.Common.{sym, ◌∙◌, arith, eqb-true, ltb-true, ltb-false}
use Rattle.std.proofs.Math.Path.{ap}
use Rattle.std.proofs.Math.ListN.{get_or-eq_default}
use Rattle.std.proofs.lemmas.List.{length-map}
use Rattle.laws.specs.Change.{count_alike, keep_other, put, put_the, the_other, the_same}
use Rattle.laws.specs.Chunk.{chunk, length_chunk}
use Rattle.laws.specs.Digits.{Digit, digits_equal, head_equal}
use Rattle.laws.specs.Place.{every_at}
use Rattle.laws.specs.Search.{keep, place}
use Rattle.laws.specs.Tests.{eqb_itself}
use Rattle.record.specs.Codes.{kind_free}
use Rattle.record.specs.Grid.{decode, row_eq}
use Rattle.record.specs.Symbol.{numbered, same_symbol, symbol_eq, symbol_itself, symbol_number}
use Rattle.keys.specs.declared.Key.{Key}
use Rattle.record.specs.declared.row.Row.{Row}
use Rattle.rules.specs.Meaning.{means_free}
use Rattle.rules.specs.Rules.{as_kind, fits}
use Rattle.model.specs.Rows.{found, has_key, most_records, nothing, rows, same_row, there}
use Rattle.model.specs.Sound.{s1}

-- ---- the test tells equality
abbrev field : ℕ → ℕ → Digit
field x y = record { base = 0; mine = x; yours = y }

abbrev fields : Row → Row → List Digit
fields a b =
    field a.form b.form
    ∷ field a.status b.status
    ∷ field a.flags b.flags
    ∷ field a.party b.party
    ∷ field a.id b.id
    ∷ field (symbol_number a.symbol) (symbol_number b.symbol)
    ∷ field a.n1 b.n1
    ∷ field a.n2 b.n2
    ∷ field a.n3 b.n3
    ∷ field a.n4 b.n4
    ∷ field a.m1 b.m1
    ∷ field a.m2 b.m2
    ∷ field a.time b.time
    ∷ field a.n5 b.n5
    ∷ []

pub same_rows : (a b : Row) → same_row a b ≡ true → a ≡ b
unfolding same_row same_symbol
same_rows a b e =
    let at = digits_equal (eqb a.kind b.kind) (fields a b) e in
    row_eq (eqb-true a.kind b.kind (head_equal _ (fields a b) e)) (at 0) (at 1) (at 2) (at 3) (at 4)
    (symbol_eq {a = a.symbol} {b = b.symbol} (at 5)) (at 6) (at 7) (at 8) (at 9) (at 10) (at 11) (at 12) (at 13)

pub row_itself : (a : Row) → same_row a a ≡ true
unfolding same_row
row_itself a = simp (eqb_itself, symbol_itself)

-- ---- a row that is found is changed in the place of its key
pub put_found : (k : Key) (n : Row) (rs : List Row) → there k rs ≡ true
    → put same_row (found k rs) n rs ≡ set rs (place (has_key k) rs) n
unfolding there found
put_found k n rs e = put_the same_row same_rows row_itself (has_key k) nothing n rs e

-- ---- free rows
-- no row of the kind of free rows is anything but zeros
abbrev pub Clean : List Row → Type 0
Clean rs = (i : ℕ) → (get_or rs i nothing).kind ≡ kind_free → get_or rs i nothing ≡ nothing

none : (x : ℕ) → x ≤ 0 → x ≡ 0
none x h = omega arith

free_is : (r : Row) → fits r ≡ true → r.kind ≡ kind_free → r ≡ nothing
free_is r f k =
    let h = (means_free r).shows (as_kind kind_free r k ∙ f) in
    row_eq k (none _ h.2.1) (none _ h.2.2.1) (none _ h.2.2.2.1) (none _ h.2.2.2.2.1)
    (none _ h.2.2.2.2.2.1) (ap numbered (none _ h.2.2.2.2.2.2.1))
    (none _ h.2.2.2.2.2.2.2.1)
    (none _ h.2.2.2.2.2.2.2.2.1) (none _ h.2.2.2.2.2.2.2.2.2.1)
    (none _ h.2.2.2.2.2.2.2.2.2.2.1) (none _ h.2.2.2.2.2.2.2.2.2.2.2.1)
    (none _ h.2.2.2.2.2.2.2.2.2.2.2.2.1) (none _ h.2.2.2.2.2.2.2.2.2.2.2.2.2.1)
    (none _ h.2.2.2.2.2.2.2.2.2.2.2.2.2.2.1)

pub clean_fit : (rs : List Row) → s1 rs ≡ true → Clean rs
unfolding s1
clean_fit rs e i k = go (ltb i (length rs)) refl
  where
    go : (t : Bool) → ltb i (length rs) ≡ t → get_or rs i nothing ≡ nothing
    go true h = free_is (get_or rs i nothing) (every_at fits nothing rs i e (ltb-true i (length rs) h)) k
    go false h = get_or-eq_default rs nothing (ltb-false i (length rs) h)

-- ---- what is found, kept and counted after a put
module _ (o n : Row) (rs : List Row) where
  pub there_alike : (k : Key) → has_key k n ≡ has_key k o → there k (put same_row o n rs) ≡ there k rs
  unfolding there
  there_alike k e = ap (leb 1) (count_alike same_row same_rows (has_key k) o n e rs)

  pub found_other : (k : Key) → has_key k o ≡ false → has_key k n ≡ false → found k (put same_row o n rs) ≡ found k rs
  unfolding found
  found_other k was now = the_other same_row same_rows (has_key k) o n was now nothing rs

  pub there_other : (k : Key) → has_key k o ≡ false → has_key k n ≡ false → there k (put same_row o n rs) ≡ there k rs
  there_other k was now = there_alike k (now ∙ sym was)

  pub found_same : (k : Key) → there k rs ≡ true → o ≡ found k rs → has_key k n ≡ true
      → found k (put same_row o n rs) ≡ n
  unfolding found there
  found_same k e was now = rw was (the_same same_row same_rows row_itself (has_key k) nothing n now rs e)

  pub keep_put : (p : Row → Bool) → p o ≡ false → p n ≡ false → keep p (put same_row o n rs) ≡ keep p rs
  keep_put p was now = keep_other same_row same_rows p o n was now rs

-- ---- how many there are
pub length_rows : (b : List ℕ) → length (rows b) ≡ length b / 64
unfolding rows
length_rows b = length-map (chunk 64 (length b / 64) b) decode ∙ length_chunk 64 (length b / 64) b

pub few_rows : (b : List ℕ) → length b / 64 ≤ most_records → length (rows b) ≤ most_records
few_rows b h = rw length_rows h
