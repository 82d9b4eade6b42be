-- The directory of a book while rows come and go: its totals, and what a caller needs to know of it.
use Rattle.std.specs.Prelude.{◌≡◌, refl, Bool, false, List, ◌∷◌, ℕ, ◌+◌, ◌-◌, ◌≤◌, ◌<◌, max, eqb, ltb, length, set}
use Rattle.std.proofs.Common.{sym, ap, ◌∙◌, get_or-set_same}
use Rattle.std.proofs.Math.Bool.{true}
use Rattle.std.proofs.lemmas.Bool.{false≢true}
use native.Mathlib.Omega.{arith}
use borrow.Author.Tests.{eqb-true, le-leb, ltb-true, ltb-false}
use Rattle.laws.specs.Chain.{chain_put}
use Rattle.laws.specs.Place.{some_place}
use Rattle.laws.specs.Puts.{count_length}
use Rattle.laws.specs.Search.{bit, count, total}
use Rattle.chains.specs.Set.{largest_alike, largest_set, total_alike, total_set}
use Rattle.laws.specs.Walk.{from_holds}
use Rattle.record.specs.Codes.{kind_free, kind_trade}
use Rattle.keys.specs.Key.{key_of}
use Rattle.keys.specs.declared.Key.{Key}
use Rattle.record.specs.declared.row.Row.{Row}
use Rattle.model.specs.Order.{trade_id}
use Rattle.model.specs.Plan.{room}
use Rattle.model.specs.Rows.{is, most_records, nothing, rows}
use Rattle.places.specs.Put.{Adding, add_next}
use Rattle.facts.specs.Rows.{length_rows}
use Rattle.places.specs.Rows.{after, free_from, length_put_at, put_at, row_at, rows_past}
use Rattle.chains.specs.Chains.{half}
use Rattle.directory.specs.Directory.{Directory}
use Rattle.chains.specs.Group.{group_kind, group_of, key_group, row_bucket, same_bucket}
use Rattle.directory.specs.Listed.{Listed, places}
use Rattle.directory.specs.declared.totals.Totals.{Totals}

-- a free row is no trade
free_no_trade : (r : Row) → is kind_free r ≡ true → trade_id r ≡ 0
free_no_trade r e = rw (eqb-true r.kind kind_free e)

-- a row that is not free has a place
pub live_inside : (b : List ℕ) (p : ℕ) → is kind_free (row_at b p) ≡ false → p < places b
live_inside b p e = go (ltb p (places b)) refl
  where
    go : (t : Bool) → ltb p (places b) ≡ t → p < places b
    go true h = ltb-true p (places b) h
    go false h = absurd (false≢true (sym (rw (rows_past b p (ltb-false p (places b) h)) at e)))

-- where nothing is put, the row is free
pub nothing_there : (b b' : List ℕ) (p : ℕ) {r : Row} → p < places b → r ≡ nothing
    → rows b' ≡ set (rows b) p r → is kind_free (row_at b' p) ≡ true
nothing_there b b' p {r} i e q =
    let there : row_at b' p ≡ nothing = rw q (get_or-set_same (rows b) p r nothing (rw length_rows i)) ∙ e in
    rw there

module _ {b d : List ℕ} {t : Totals} (s : Directory b d t) where
  pub free_inside : 1 ≤ t.free → free_from (rows b) 0 < places b
  unfolding room
  free_inside z =
      let e = s.free in
      let n = length_rows b in
      let some = le-leb 1 (count (is kind_free) (rows b)) (omega arith) in
      let i = ltb-true (free_from (rows b) 0) (length (rows b)) (sym (some_place (is kind_free) (rows b)) ∙ some) in
      omega arith

  pub free_few : t.free ≤ most_records
  unfolding room
  free_few =
      let e = s.free in
      let n = length_rows b in
      let few = s.listed.few in
      let c = count_length (is kind_free) (rows b) in
      omega arith

  module _ {b' d' : List ℕ} (l : Listed b' d') {n : Totals} where
    pub added : {p : ℕ} (r : Row) → p ≡ free_from (rows b) 0 → 1 ≤ t.free → is kind_free r ≡ false
        → rows b' ≡ set (rows b) p r → n.free ≡ t.free - 1 → n.largest.0 ≡ max t.largest.0 (trade_id r)
        → Directory b' d' n
    unfolding room count
    added {p} r e z live q f g =
        let i = free_inside z in
        let k = length_rows b in
        let free : is kind_free (row_at b p) ≡ true =
        rw e (from_holds (is kind_free) (rows b) 0 nothing (omega arith))
        in
        let was = free_no_trade (row_at b p) free in
        let c : total (λ x. bit (is kind_free x)) (set (rows b) p r) + 1
        ≡ total (λ x. bit (is kind_free x)) (rows b) + 0 =
        rw (free, live) at (total_set (λ x. bit (is kind_free x)) nothing r (rows b) p (omega arith))
        in
        let m = largest_set trade_id nothing r (rows b) p (omega arith) in
        let u = s.free in
        let v = s.largest in
        record { listed = l; free = rw q (omega arith); largest = rw q (omega arith) }

    pub freed : (p : ℕ) → is kind_free (row_at b p) ≡ false → trade_id (row_at b p) ≤ t.largest.0 - 1
        → rows b' ≡ set (rows b) p nothing → n.free ≡ t.free + 1 → n.largest ≡ t.largest → Directory b' d' n
    unfolding room count
    freed p live low q f g =
        let i = live_inside b p live in
        let k = length_rows b in
        let c : total (λ x. bit (is kind_free x)) (set (rows b) p nothing) + 0
        ≡ total (λ x. bit (is kind_free x)) (rows b) + 1 =
        rw live at (total_set (λ x. bit (is kind_free x)) nothing nothing (rows b) p (omega arith))
        in
        let m = largest_set trade_id nothing nothing (rows b) p (omega arith) in
        let u = s.free in
        let v = s.largest in
        record { listed = l; free = rw q (omega arith); largest = rw (q, g) (omega arith) }

-- ---- a row that stays in its group
trade_group : (r : Row) → r.kind ≡ kind_trade → (group_of r).id ≡ r.id
unfolding group_of key_group key_of
trade_group r e = rw e

same_kind : (r s : Row) → group_of r ≡ group_of s → r.kind ≡ s.kind
same_kind r s e = sym (group_kind r) ∙ ap (λ (k : Key). k.kind) e ∙ group_kind s

same_number : (r s : Row) → group_of r ≡ group_of s → trade_id r ≡ trade_id s
same_number r s e = go (is kind_trade r) refl
  where
    k : r.kind ≡ s.kind
    k = same_kind r s e

    go : (t : Bool) → is kind_trade r ≡ t → trade_id r ≡ trade_id s
    go true h =
        let a = eqb-true r.kind kind_trade h in
        let i : r.id ≡ s.id =
        sym (trade_group r a) ∙ ap (λ (k : Key). k.id) e ∙ trade_group s (sym k ∙ a)
        in
        rw (k, i)
    go false h = let m : is kind_trade s ≡ false = rw (← k) h in rw (h, m)

pub changed : {b d : List ℕ} {t : Totals} → Directory b d t → {b' : List ℕ} (p : ℕ) (r : Row)
    → group_of r ≡ group_of (row_at b p) → (b' ≡ put_at b p r) × (rows b' ≡ set (rows b) p r) → Directory b' d t
unfolding room count
changed {b} {d} {t} s {b'} p r g q =
    let l = s.listed in
    let z : length b' ≡ length b = ap length q.0 ∙ length_put_at b p r in
    let k = same_kind r (row_at b p) g in
    let free : bit (is kind_free r) ≡ bit (is kind_free (row_at b p)) = rw k in
    record {
      listed = record {
        few = rw z l.few;
        fits = rw z l.fits;
        short = l.short;
        chained = rw q.1 (chain_put (row_bucket (half d)) nothing (half d) (rows b) l.chained p r
            (λ _. same_bucket (half d) r (row_at b p) g));
      };
      free = s.free ∙ rw q.1 (sym (total_alike (λ x. bit (is kind_free x)) nothing r (rows b) p free));
      largest = s.largest ∙ rw q.1 (sym (largest_alike trade_id nothing r (rows b) p (same_number r (row_at b p) g)));
    }

-- ---- for callers
-- a row that is no trade may be freed
pub no_number : (r : Row) (m : ℕ) {k : ℕ} → r.kind ≡ k → eqb k kind_trade ≡ false → trade_id r ≤ m
no_number r m e n = rw (e, n) (omega arith)

-- what is added at the lowest free place is what the model fills in
pub add_lowest : {w left : List Row} {n r : Row} {b b' : List ℕ} → Adding w (n ∷ left) b 0 → is kind_free n ≡ false
    → r ≡ n → rows b' ≡ set (rows b) (free_from (rows b) 0) r → Adding w left b' 0
add_lowest {b = b} s e f q =
    let one = add_next {next = after (rows b) (free_from (rows b) 0)} s e f refl q in
    record { free = record { clean = one.free.clean; lowest = refl }; leads = one.leads }
