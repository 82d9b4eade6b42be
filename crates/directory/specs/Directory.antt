-- The directory of a book: the places of its rows by their groups, how many are free, and the largest trade number.
-- Assumes nothing.
use Rattle.std.specs.Prelude.{◌≡◌, refl, Bool, true, false, ◌&&◌, List, ℕ, ◌+◌, ◌-◌, ◌/◌, ◌≤◌, ◌<◌, max, eqb, ltb, length, take, drop, get_or, set, replicate}
use Rattle.std.proofs.Common.{ap, ◌∙◌, arith, length-drop, length-set, length-take, get_or-drop, get_or-take, ltb-true, ltb-false}
use Rattle.std.proofs.lemmas.List.{length-replicate, get_or-replicate}
use Rattle.laws.specs.Chain.{Chained, chain_start, chain_more}
use Rattle.laws.specs.Search.{bit, count, largest, total}
use Rattle.laws.specs.Tests.{and_left, and_right}
use Rattle.laws.specs.Walk.{left_next, left_none}
use Rattle.record.specs.Codes.{kind_free, kind_trade}
use Rattle.keys.specs.declared.Key.{Key}
use Rattle.record.specs.declared.row.Row.{Row}
use Rattle.model.specs.Order.{trade_id}
use Rattle.model.specs.Plan.{room}
use Rattle.model.specs.Rows.{is, most_records, nothing, rows}
use Rattle.facts.specs.Rows.{length_rows}
use Rattle.places.specs.Rows.{row_at}
use Rattle.chains.specs.Chains.{half}
use Rattle.chains.specs.Group.{bucket_of, group_of, most_heads, row_bucket}
use Rattle.directory.specs.Listed.{Listed, places}
use Rattle.directory.specs.declared.totals.Totals.{Totals}

pub record Directory (b d : List ℕ) (t : Totals) : Type 0 where
  pub listed : Listed b d
  pub free : t.free ≡ room (rows b)
  pub largest : t.largest.0 ≡ largest trade_id (rows b)

-- ---- the larger of a number and a trade's
pub raised_yes : (t : ℕ) (r : Row) → (is kind_trade r && ltb t r.id) ≡ true → r.id ≡ max t (trade_id r)
raised_yes t r e =
    let k = and_left (is kind_trade r) (ltb t r.id) e in
    let l = ltb-true t r.id (and_right (is kind_trade r) (ltb t r.id) e) in
    rw k (omega arith)

pub raised_no : (t : ℕ) (r : Row) → (is kind_trade r && ltb t r.id) ≡ false → t ≡ max t (trade_id r)
raised_no t r e = go (is kind_trade r) refl
  where
    go : (u : Bool) → is kind_trade r ≡ u → t ≡ max t (trade_id r)
    go true k = let l = ltb-false t r.id (rw k at e) in rw k (omega arith)
    go false k = rw k (omega arith)

-- ---- built
-- an area that is large enough for a book, in which every bucket is empty
pub record Blank (b d : List ℕ) : Type 0 where
  pub fits : places b < half d
  pub short : half d ≤ most_heads
  pub all : (h : ℕ) → h < half d → get_or d h 0 ≡ places b

pub blank_of : (b : List ℕ) (n e : ℕ) → e ≡ places b → places b < n / 2 → n / 2 ≤ most_heads → Blank b (replicate n e)
blank_of b n e q f m =
    let l = length-replicate n e in
    record {
      fits = omega arith;
      short = omega arith;
      all = λ h k. get_or-replicate n h e 0 (omega arith) ∙ q;
    }

-- a part of such an area
pub blank_part : (b : List ℕ) (n a m e : ℕ) → e ≡ places b → a + m ≤ n → places b < m / 2 → m / 2 ≤ most_heads
    → Blank b (take m (drop a (replicate n e)))
blank_part b n a m e q i f z =
    let l : length (take m (drop a (replicate n e))) ≡ m =
    simp (length-take, length-drop, length-replicate) (omega arith)
    in
    record {
      fits = omega arith;
      short = omega arith;
      all = λ h k.
          get_or-take m (drop a (replicate n e)) h 0 (omega arith) ∙ get_or-drop a (replicate n e) h 0
          ∙ get_or-replicate n (a + h) e 0 (omega arith) ∙ q;
    }

-- the rows of a book from i on are in the directory, and counted
pub record Built (b d : List ℕ) (free top i : ℕ) : Type 0 where
  pub within : i ≤ places b
  pub few : places b ≤ most_records
  pub fits : places b < half d
  pub short : half d ≤ most_heads
  pub chained : Chained (row_bucket (half d)) nothing (half d) (rows b) d i
  pub counted : free ≡ count (is kind_free) (drop i (rows b))
  pub small : free + i ≤ places b
  pub raised : top ≡ largest trade_id (drop i (rows b))

pub build_start : {b d : List ℕ} → Blank b d → places b ≤ most_records → Built b d 0 0 (places b)
unfolding count total largest
build_start {b} {d} s h =
    let none = left_none (rows b) (places b) (rw length_rows (omega arith)) in
    record {
      within = omega arith;
      few = h;
      fits = s.fits;
      short = s.short;
      chained = chain_start (row_bucket (half d)) nothing (half d) (rows b) d (places b) (length_rows b) s.all;
      counted = rw none;
      small = omega arith;
      raised = rw none;
    }

bit_small : (t : Bool) → bit t ≤ 1
bit_small true = omega arith
bit_small false = omega arith

pub build_more : {b d : List ℕ} {f t i : ℕ} → Built b d f t i → {h x y : ℕ} {r : Row} {k : Key} {d' : List ℕ} → 0 < i
    → r ≡ row_at b (i - 1) → k ≡ group_of r → h ≡ bucket_of (half d) k → h < half d
    → d' ≡ set (set d (half d + (i - 1)) (get_or d h 0)) h (i - 1) → x ≡ bit (eqb r.kind kind_free)
    → y ≡ max t (trade_id r) → Built b d' (f + x) y (i - 1)
unfolding count total largest row_bucket
build_more {b} {d} {f} {t} {i} s {h} {x} {y} {r} {k} {d'} p a g m z q u v =
    let j = i - 1 in
    let e : j + 1 ≡ i = omega arith in
    let w = s.within in
    let o : j < length (rows b) = rw length_rows (omega arith) in
    let next = left_next (rows b) j nothing o in
    let mine : h ≡ row_bucket (half d) (row_at b j) = m ∙ ap (bucket_of (half d)) (g ∙ ap group_of a) in
    let c : Chained (row_bucket (half d)) nothing (half d) (rows b) d (j + 1) = rw e s.chained in
    let l : length d' ≡ length d = rw (q, length-set, length-set) in
    let more = chain_more (row_bucket (half d)) nothing (half d) (rows b) d j h c o mine z (omega (arith, s.fits)) in
    let counted : f ≡ count (is kind_free) (drop (j + 1) (rows b)) = rw e s.counted in
    let raised : t ≡ largest trade_id (drop (j + 1) (rows b)) = rw e s.raised in
    let one : x ≡ bit (is kind_free (row_at b j)) = u ∙ ap (λ (r : Row). bit (is kind_free r)) a in
    let top : y ≡ max t (trade_id (row_at b j)) = v ∙ ap (λ (r : Row). max t (trade_id r)) a in
    let small = bit_small (is kind_free (row_at b j)) in
    let before = s.small in
    record {
      within = omega arith;
      few = s.few;
      fits = rw l s.fits;
      short = rw l s.short;
      chained = rw (l, q) more;
      counted = rw next (omega arith);
      small = omega arith;
      raised = rw next (omega arith);
    }

pub build_end : {b d : List ℕ} {f t i : ℕ} → Built b d f t i → i ≤ 0 → {n : Totals} → n.free ≡ f
    → n.largest.0 ≡ t → Directory b d n
unfolding room
build_end {i = i} s h e g =
    let z : i ≡ 0 = omega arith in
    let c = rw z at s.chained in
    let u = rw z at s.counted in
    let v = rw z at s.raised in
    record {
      listed = record { few = s.few; fits = s.fits; short = s.short; chained = c };
      free = e ∙ u;
      largest = g ∙ v;
    }

pub same_cells : (d : List ℕ) (x y v w : ℕ) {d' : List ℕ} {n : ℕ} → d' ≡ set (set d x v) y w → length d ≡ n
    → length d' ≡ n
same_cells d x y v w q e = rw (q, length-set, length-set) e

pub ruleset builds = (build_start, build_more, build_end, same_cells)
