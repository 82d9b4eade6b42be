-- Places of a book collected along a chain, in the order of the book: of the rows of q, which the chain leads to, those
-- of p. Assumes nothing.
use Rattle.std.specs.Prelude.{◌≡◌, refl, Bool, true, false, cond, List, [], ◌∷◌, ◌++◌, map, ℕ, ◌+◌, ◌-◌, ◌≤◌, ◌<◌, eqb, length, take, drop, get_or, set}
use Rattle.std.proofs.Math.Path.{sym}
use Rattle.std.proofs.Common.{◌∙◌, append-nil, add-zero, add-one, arith, length-set, get_or-set_same, get_or-set_other, take-suc-set, eqb-true}
use Rattle.std.proofs.lemmas.List.{take-set-le}
use Rattle.std.proofs.lemmas.Bool.{eqb-false}
use Rattle.laws.specs.Search.{bit, keep, place, seek}
use Rattle.laws.specs.Walk.{from_high, from_holds, from_low, from_passes, left_next, left_none}
use Rattle.record.specs.declared.row.Row.{Row}
use Rattle.model.specs.Rows.{most_records, nothing, rows}
use Rattle.facts.specs.Rows.{length_rows}
use Rattle.places.specs.Rows.{row_at}
use Rattle.directory.specs.Listed.{places}

-- what a place tells: it is inside the book, and a row of p stands there
pub record At (p : Row → Bool) (b : List ℕ) (x : ℕ) : Type 0 where
  pub inside : x < places b
  pub holds : p (row_at b x) ≡ true

-- the first n places are those of the rows of p, in the order of the book
pub record Collected (p : Row → Bool) (b at : List ℕ) (n : ℕ) : Type 0 where
  pub rows : map (row_at b) (take n at) ≡ keep p (rows b)
  pub few : n ≤ places b
  pub each : (k : ℕ) → k < n → At p b (get_or at k 0)

-- those before the place c are collected, and at c stands the next of q
pub record Collecting (q p : Row → Bool) (b at : List ℕ) (n c : ℕ) : Type 0 where
  pub among : (r : Row) → q r ≡ false → p r ≡ false
  pub rows : map (row_at b) (take n at) ++ keep p (drop c (rows b)) ≡ keep p (rows b)
  pub few : n ≤ c
  pub long : most_records ≤ length at
  pub within : c ≤ places b
  pub here : c < places b → q (row_at b c) ≡ true
  pub each : (k : ℕ) → k < n → At p b (get_or at k 0)

module _ (q p : Row → Bool) (among : (r : Row) → q r ≡ false → p r ≡ false) (b : List ℕ) where
  -- rows of others are passed by
  none : (x : Row) (m : List Row) → q x ≡ false → keep p (x ∷ m) ≡ keep p m
  unfolding keep
  none x m e = rw (among x e)

  stands : (i c : ℕ) → c ≡ seek q i (drop i (rows b)) → c < places b → q (row_at b c) ≡ true
  stands i c e h = rw e (from_holds q (rows b) i nothing (rw (length_rows, ← e) h))

  within_book : (i c : ℕ) → c ≡ seek q i (drop i (rows b)) → i ≤ places b → c ≤ places b
  within_book i c e h =
      let n = length_rows b in
      let z = from_high q (rows b) i (omega arith) in
      omega arith

  pub collect_start : (at : List ℕ) {c : ℕ} → most_records ≤ length at → c ≡ place q (rows b)
      → Collecting q p b at 0 c
  collect_start at {c} l e = record {
    among = among;
    rows = rw e (sym (from_passes q (rows b) 0 (keep p) none));
    few = omega arith;
    long = l;
    within = within_book 0 c e (omega arith);
    here = stands 0 c e;
    each = λ k h. absurd (omega arith);
  }

map_one_more : {A B : Type 0} (f : A → B) (l : List A) (x : A) (m : List B)
    → map f (l ++ x ∷ []) ++ m ≡ map f l ++ f x ∷ m
map_one_more f [] x m = refl
map_one_more f (y ∷ l) x m = rw (map_one_more f l x m)

module _ {q p : Row → Bool} {b at : List ℕ} {n c : ℕ} (h : Collecting q p b at n c) where
  -- the rest from c on
  from_here : c < places b
      → keep p (drop c (rows b))
      ≡ cond (p (row_at b c)) (row_at b c ∷ keep p (drop (c + 1) (rows b))) (keep p (drop (c + 1) (rows b)))
  unfolding keep
  from_here i = rw (left_next (rows b) c nothing (rw length_rows i))

  each_more : {at' : List ℕ} → n < length at → c < places b → p (row_at b c) ≡ true → at' ≡ set at n c
      → (k : ℕ) → k < n + 1 → At p b (get_or at' k 0)
  each_more {at'} l i y e k m = go (eqb k n) refl
    where
      go : (t : Bool) → eqb k n ≡ t → At p b (get_or at' k 0)
      go true z = rw (e, eqb-true k n z, get_or-set_same at n c 0 l) (record { inside = i; holds = y })
      go false z =
          let o = eqb-false k n z in
          rw (e, get_or-set_other at n k c 0 o) (h.each k (omega arith))

  each_same : {at' : List ℕ} → at' ≡ set at n c → (k : ℕ) → k < n → At p b (get_or at' k 0)
  each_same e k m =
      let o : k ≡ n → ⊥ = λ z. omega arith in
      rw (e, get_or-set_other at n k c 0 o) (h.each k m)

  -- the next place is a later one
  pub collect_less : {c' : ℕ} → c < places b → c' ≡ seek q (c + 1) (drop (c + 1) (rows b))
      → places b - c' < places b - c
  collect_less i g = let l = from_low q (rows b) (c + 1) in omega arith

  pub collect_more : {at' : List ℕ} {n' c' : ℕ} → n < most_records → c < places b
      → n' ≡ n + bit (p (row_at b c)) → at' ≡ set at n c
      → c' ≡ seek q (c + 1) (drop (c + 1) (rows b)) → Collecting q p b at' n' c'
  collect_more {at'} {n'} {c'} few i e f g = go (p (row_at b c)) refl
    where
      l : n < length at
      l = omega (arith, h.long)

      rest : List Row
      rest = keep p (drop (c + 1) (rows b))

      past : rest ≡ keep p (drop c' (rows b))
      past = rw g (from_passes q (rows b) (c + 1) (keep p) (none q p h.among b))

      later : c + 1 ≤ c'
      later = rw g (from_low q (rows b) (c + 1))

      made : map (row_at b) (take n' at') ++ rest ≡ keep p (rows b)
          → n' ≤ n + 1 → ((k : ℕ) → k < n' → At p b (get_or at' k 0)) → Collecting q p b at' n' c'
      made r m a =
          let w = h.few in
          record {
            among = h.among;
            rows = rw (← past) r;
            few = omega (arith, later);
            long = rw (f, length-set) h.long;
            within = within_book q p h.among b (c + 1) c' g (omega arith);
            here = stands q p h.among b (c + 1) c' g;
            each = a;
          }

      go : (t : Bool) → p (row_at b c) ≡ t → Collecting q p b at' n' c'
      go true t =
          let m : n' ≡ n + 1 = e ∙ rw t in
          let u : take n' at' ≡ take n at ++ c ∷ [] = rw (m, f, add-one n) (take-suc-set at n c l) in
          let all = rw (from_here i, t) at h.rows in
          made (rw (u, map_one_more (row_at b) (take n at) c rest) all) (omega arith) (rw m (each_more l i t f))
      go false t =
          let m : n' ≡ n = e ∙ rw t (add-zero n) in
          let u : take n' at' ≡ take n at = rw (m, f) (take-set-le n at n c (omega arith)) in
          let all = rw (from_here i, t) at h.rows in
          made (rw u all) (omega arith) (rw m (each_same f))

  pub collect_end : places b ≤ c → Collected p b at n
  unfolding keep
  collect_end e =
      let w = h.within in
      let a = h.few in
      let r = rw (left_none (rows b) c (rw length_rows e)) at h.rows in
      record { rows = sym (append-nil (map (row_at b) (take n at))) ∙ r; few = omega arith; each = h.each }
