-- A row leaves the directory, and another comes into its place: between the two the place is in no chain. The last
-- bucket is that of the free rows, so its chain lists the free places, the lowest first.
use Rattle.std.specs.Prelude.{◌≡◌, refl, Bool, true, false, List, [], map, ℕ, ◌+◌, ◌-◌, ◌≤◌, ◌<◌, eqb, ltb, drop}
use Rattle.std.proofs.Common.{sym, ap, ◌∙◌, get_or-set_same, set-set}
use native.Mathlib.Omega.{arith}
use Rattle.std.proofs.Math.ListN.{length, get_or, set, length-set}
use Rattle.std.proofs.lemmas.List.{length-map, set-get_or}
use Rattle.std.proofs.Math.Seq.{get_or-set_other}
use borrow.Author.Tests.{eq-eqb, ne_eqb, eqb-true, eqb-false, ltb-true, ltb-false}
use Rattle.laws.specs.Chain.{numbered}
use Rattle.laws.specs.Chunk.{map_set}
use Rattle.chains.specs.Links.{Linked, links_in, links_left, of, own_head, own_place, owner}
use Rattle.chains.specs.Next.{seek_same}
use Rattle.chains.specs.Relink.{chained_links, links_chained, number_at}
use Rattle.laws.specs.Search.{seek}
use Rattle.laws.specs.Walk.{from, from_holds, from_low, left_none}
use Rattle.record.specs.Codes.{kind_free}
use Rattle.keys.specs.declared.Key.{Key}
use Rattle.record.specs.declared.row.Row.{Row}
use Rattle.model.specs.Rows.{is, most_records, nothing, rows}
use Rattle.facts.specs.Rows.{length_rows}
use Rattle.places.specs.Rows.{free_from, length_put_at, put_at, row_at}
use Rattle.chains.specs.Chains.{Before, Rising, half, walk_start}
use Rattle.chains.specs.Group.{bucket_of, free_bucket, group_kind, group_of, live_bucket, most_heads, row_bound}
use Rattle.chains.specs.Group.{row_bucket}
use Rattle.directory.specs.Listed.{Listed, places}

-- the bucket of each place
abbrev buckets : List ℕ → List ℕ → List ℕ
buckets b d = map (row_bucket (half d)) (rows b)

-- all rows are listed but that at p
pub record Without (b d : List ℕ) (p : ℕ) : Type 0 where
  pub few : places b ≤ most_records
  pub fits : places b < half d
  pub short : half d ≤ most_heads
  pub inside : p < places b
  pub links : Linked (half d) (set (buckets b d) p (half d)) d

-- ---- the free rows
group_free : (r : Row) (t : Bool) → is kind_free r ≡ t → eqb (group_of r).kind kind_free ≡ t
group_free r t e = rw group_kind e

pub in_last : (size : ℕ) (r : Row) → is kind_free r ≡ true → row_bucket size r ≡ size - 1
unfolding row_bucket
in_last size r e = free_bucket size (group_of r) (group_free r true e)

not_last : (size : ℕ) (r : Row) → 2 ≤ size → is kind_free r ≡ false → row_bucket size r < size - 1
unfolding row_bucket
not_last size r z e = live_bucket size (group_of r) z (group_free r false e)

last_free : (size : ℕ) → 2 ≤ size → (r : Row) → numbered (row_bucket size) (size - 1) r ≡ is kind_free r
unfolding numbered
last_free size z r = go (is kind_free r) refl
  where
    go : (t : Bool) → is kind_free r ≡ t → eqb (row_bucket size r) (size - 1) ≡ is kind_free r
    go true e = eq-eqb (row_bucket size r) (size - 1) (in_last size r e) ∙ sym e
    go false e =
        let h = not_last size r z e in
        ne_eqb (row_bucket size r) (size - 1) (λ q. omega arith) ∙ sym e

-- the lowest free place is the head of their chain
pub free_first : {b d : List ℕ} → Listed b d → {c : ℕ} → c ≡ get_or d (half d - 1) 0 → c ≡ free_from (rows b) 0
unfolding seek
free_first {b} {d} s e =
    let f = s.fits in
    e ∙ s.chained.heads (half d - 1) (omega arith) ∙ go (ltb 0 (places b)) refl
  where
    last : Row → Bool
    last = numbered (row_bucket (half d)) (half d - 1)

    go : (t : Bool) → ltb 0 (places b) ≡ t → from last (rows b) 0 ≡ free_from (rows b) 0
    go true k =
        let z = ltb-true 0 (places b) k in
        let f = s.fits in
        seek_same last (is kind_free) (last_free (half d) (omega arith)) 0 (drop 0 (rows b))
    go false k =
        let z = ltb-false 0 (places b) k in
        let none : rows b ≡ [] = left_none (rows b) 0 (rw length_rows z) in
        rw none

-- ---- a row leaves
numbers_long : (b d : List ℕ) → length (buckets b d) ≡ places b
numbers_long b d = length-map (rows b) (row_bucket (half d)) ∙ length_rows b

bucket_at : (b d : List ℕ) (p : ℕ) → p < places b → get_or (buckets b d) p 0 ≡ row_bucket (half d) (row_at b p)
bucket_at b d p z = number_at (row_bucket (half d)) nothing (rows b) p (rw length_rows z)

listed_links : {b d : List ℕ} → Listed b d → Linked (half d) (buckets b d) d
listed_links {b} {d} s =
    let f = s.fits in
    let n = length_rows b in
    chained_links (row_bucket (half d)) nothing (half d) (rows b) d s.chained (omega arith)

pub listed_rises : {b d : List ℕ} → Listed b d → (p : ℕ) → p < places b → Rising d p
listed_rises {b} {d} s p z =
    let l = listed_links s in
    let f = s.fits in
    let n = numbers_long b d in
    record { fits = omega arith; rises = λ j i. l.rises j (omega arith) }

pub leaves : {b d : List ℕ} → Listed b d → {d' : List ℕ} {h p x : ℕ} → p < places b → Before d h p x → p ≤ get_or d x 0
    → h < half d → h ≡ row_bucket (half d) (row_at b p) → d' ≡ set d x (get_or d (half d + p) 0) → Without b d' p
leaves {b} {d} s {d'} {h} {p} {x} z w past i e q =
    let ns = buckets b d in
    let n = numbers_long b d in
    let l = listed_links s in
    let same : length d' ≡ length d = rw (q, length-set) in
    let left : Linked (half d) (set ns p (half d)) (set d x (get_or d (half d + p) 0)) =
    links_left (half d) ns d l p h (omega arith) i x w.inside (w.owned ns l (omega arith)) past
    (bucket_at b d p z ∙ sym e)
    in
    record {
      few = s.few;
      fits = rw same s.fits;
      short = rw same s.short;
      inside = z;
      links = rw (same, q) left;
    }

-- the lowest free place leaves
module _ {b d : List ℕ} (s : Listed b d) {c : ℕ} (e : c ≡ get_or d (half d - 1) 0)
    (i : free_from (rows b) 0 < places b) where
  pub free_in : c < places b
  free_in = rw (free_first s e) i

  pub takes : {d' : List ℕ} → d' ≡ set d (half d - 1) (get_or d (half d + c) 0)
      → (c ≡ free_from (rows b) 0) × Without b d' c
  takes q =
      let f = free_first s e in
      let n = length_rows b in
      let z = s.fits in
      let free : is kind_free (row_at b c) ≡ true = rw f (from_holds (is kind_free) (rows b) 0 nothing (omega arith)) in (
        f,
        leaves s free_in (walk_start d (half d - 1) c (omega arith)) (omega arith) (omega arith)
            (sym (in_last (half d) (row_at b c) free)) q,
      )

pub without_rises : {b d : List ℕ} {p : ℕ} → Without b d p → Rising d p
without_rises {b} {d} {p} s =
    let n : length (set (buckets b d) p (half d)) ≡ places b = rw length-set (numbers_long b d) in
    let f = s.fits in
    let z = s.inside in
    record { fits = omega arith; rises = λ j i. s.links.rises j (omega arith) }

-- another row is put there
pub without_put : {b d : List ℕ} {p : ℕ} → Without b d p → {b' : List ℕ} (r : Row)
    → (b' ≡ put_at b p r) × (rows b' ≡ set (rows b) p r) → Without b' d p
without_put {b} {d} {p} s {b'} r q =
    let g = row_bucket (half d) in
    let z : length b' ≡ length b = ap length q.0 ∙ length_put_at b p r in
    let e : set (buckets b' d) p (half d) ≡ set (buckets b d) p (half d) =
    rw (q.1, map_set g (rows b) p r, set-set (map g (rows b)) p (g r) (half d))
    in
    record {
      few = rw z s.few;
      fits = rw z s.fits;
      short = s.short;
      inside = rw z s.inside;
      links = rw e s.links;
    }

-- ---- and comes in
-- the cell x of the chain of h leads to p or past it
pub record Leads (b d : List ℕ) (h p x : ℕ) : Type 0 where
  pub inside : x < half d + p
  pub owned : owner (half d) (set (buckets b d) p (half d)) x ≡ h
  pub past : p ≤ get_or d x 0

pub leads_of : {b d : List ℕ} {p : ℕ} → Without b d p → {h x : ℕ} → Before d h p x → p ≤ get_or d x 0 → Leads b d h p x
leads_of {b} {d} {p} s w past =
    let n : length (set (buckets b d) p (half d)) ≡ places b = rw length-set (numbers_long b d) in
    let z = s.inside in
    record {
      inside = w.inside;
      owned = w.owned (set (buckets b d) p (half d)) s.links (omega arith);
      past = past;
    }

pub comes_in : {b d : List ℕ} {p : ℕ} → Without b d p → {h x : ℕ} {d' : List ℕ} → Leads b d h p x
    → h ≡ row_bucket (half d) (row_at b p) → d' ≡ set (set d (half d + p) (get_or d x 0)) x p → Listed b d'
comes_in {b} {d} {p} s {h} {x} {d'} w e q =
    let g = row_bucket (half d) in
    let ns = buckets b d in
    let n = numbers_long b d in
    let k : length (set ns p (half d)) ≡ places b = rw length-set n in
    let z = s.inside in
    let f = s.fits in
    let same : length d' ≡ length d = rw (q, length-set, length-set) in
    let bound : h < half d = rw e (row_bound (half d) (omega arith) (row_at b p)) in
    let none = get_or-set_same ns p (half d) 0 (omega arith) in
    let linked : Linked (half d) (set (set ns p (half d)) p h) (set (set d (half d + p) (get_or d x 0)) x p) =
    links_in (half d) (set ns p (half d)) d s.links p h (omega arith) bound x w.inside w.owned w.past
    (omega arith)
    in
    let back : set (set ns p (half d)) p h ≡ ns =
    set-set ns p (half d) h ∙ rw (e ∙ sym (bucket_at b d p z)) (set-get_or ns p 0)
    in
    record {
      few = s.few;
      fits = rw same s.fits;
      short = rw same s.short;
      chained = rw (same, q) (links_chained g nothing (half d) (rows b) _ (rw back at linked)
          (row_bound (half d) (omega arith)));
    }

-- the bucket of the row at p, as the code finds it
pub bucket_of_holds : (b : List ℕ) (p n : ℕ) {h : ℕ} {r : Row} {k : Key} → r ≡ row_at b p → k ≡ group_of r → h ≡ bucket_of n k
    → h ≡ row_bucket n (row_at b p)
unfolding row_bucket
bucket_of_holds b p n e f q = q ∙ ap (bucket_of n) (f ∙ ap group_of e)

-- ---- the cell that leads past a free place
-- no place from q to p is free
pub record NoFree (b : List ℕ) (q p : ℕ) : Type 0 where
  pub low : q ≤ p
  pub none : (i : ℕ) → q ≤ i → i < p → is kind_free (row_at b i) ≡ false

pub down_start : (b : List ℕ) (p : ℕ) → NoFree b p p
down_start b p = record { low = omega arith; none = λ i h k. absurd (omega arith) }

pub down_more : {b : List ℕ} {q p : ℕ} → NoFree b q p → {r : Row} → 0 < q → r ≡ row_at b (q - 1)
    → (r.kind ≡ kind_free → ⊥) → NoFree b (q - 1) p
down_more {b} {q} {p} s {r} z e n =
    let l = s.low in
    record { low = omega arith; none = λ i h k. go i h k (eqb i (q - 1)) refl }
  where
    go : (i : ℕ) → q - 1 ≤ i → i < p → (t : Bool) → eqb i (q - 1) ≡ t → is kind_free (row_at b i) ≡ false
    go i h k true m = rw (eqb-true i (q - 1) m, ← e) (ne_eqb r.kind kind_free n)
    go i h k false m = let d : (i ≡ q - 1 → ⊥) = eqb-false i (q - 1) m in s.none i (omega arith) k

module _ {b d : List ℕ} {p : ℕ} (s : Without b d p) where
  big : 2 ≤ half d
  big = let f = s.fits in let z = s.inside in omega arith

  -- the next free place from q on is past p
  free_past : (q : ℕ) → NoFree b q p
      → p ≤ from (of (half d - 1)) (set (buckets b d) p (half d)) q
  unfolding of
  free_past q n =
      let ns = set (buckets b d) p (half d) in
      let long : length ns ≡ places b = rw length-set (numbers_long b d) in
      let f = from (of (half d - 1)) ns q in
      let low = from_low (of (half d - 1)) ns q in
      let z = s.inside in
      let size = big in
      let no : (f < p → ⊥) =
      λ l.
      let h : get_or ns f 0 ≡ half d - 1 =
      eqb-true (get_or ns f 0) (half d - 1) (from_holds (of (half d - 1)) ns q 0 (omega arith)) in
      let o : get_or ns f 0 ≡ row_bucket (half d) (row_at b f) =
      get_or-set_other (buckets b d) p f (half d) 0 (λ e. omega arith) ∙ bucket_at b d f (omega arith) in
      let m = not_last (half d) (row_at b f) size (n.none f low l) in
      omega arith
      in
      omega arith

  leads_past : (x q : ℕ) → x < half d + p → x + 1 - half d ≡ q
      → owner (half d) (set (buckets b d) p (half d)) x ≡ half d - 1 → NoFree b q p → Leads b d (half d - 1) p x
  leads_past x q i e o n =
      let ns = set (buckets b d) p (half d) in
      let long : length ns ≡ places b = rw length-set (numbers_long b d) in
      let z = s.inside in
      let size = big in
      let c : get_or d x 0 ≡ from (of (half d - 1)) ns q = rw (o, e) at (s.links.cells x (omega arith) (omega arith)) in
      let past = free_past q n in
      record { inside = i; owned = o; past = rw c past }

  pub down_found : {q : ℕ} {r : Row} → NoFree b q p → 0 < q → r ≡ row_at b (q - 1) → r.kind ≡ kind_free
      → Leads b d (half d - 1) p (half d + (q - 1))
  down_found {q} {r} n z e k =
      let l = n.low in
      let i = s.inside in
      let free : is kind_free (row_at b (q - 1)) ≡ true = rw (← e) (eq-eqb r.kind kind_free k) in
      leads_past (half d + (q - 1)) q (omega arith) (omega arith)
      (own_place (half d) (set (buckets b d) p (half d)) (q - 1)
      ∙ get_or-set_other (buckets b d) p (q - 1) (half d) 0 (λ e. omega arith)
      ∙ bucket_at b d (q - 1) (omega arith) ∙ in_last (half d) (row_at b (q - 1)) free) n

  at_head : owner (half d) (set (buckets b d) p (half d)) (half d - 1) ≡ half d - 1
  at_head = let size = big in own_head (half d) (set (buckets b d) p (half d)) (half d - 1) (omega arith)

  pub down_none : {q : ℕ} → NoFree b q p → q ≤ 0 → Leads b d (half d - 1) p (half d - 1)
  down_none {q} n z =
      let size = big in
      leads_past (half d - 1) q (omega arith) (omega arith) at_head n

  pub down_first : {c : ℕ} → c ≡ get_or d (half d - 1) 0 → p ≤ c → Leads b d (half d - 1) p (half d - 1)
  down_first e z =
      let size = big in
      record { inside = omega arith; owned = at_head; past = omega arith }

pub ruleset downs = (down_start, down_more, down_found, down_none, down_first)
