-- A directory lists a book: each row is in the chain of its group's bucket. What a walk along a chain keeps is what the
-- plain loop keeps, and that the place it stands at has the bucket that it looks in. Assumes nothing.
use Rattle.std.specs.Prelude.{◌≡◌, refl, Bool, true, false, List, ◌∷◌, ℕ, ◌+◌, ◌-◌, ◌*◌, ◌/◌, ◌≤◌, ◌<◌, length, drop, get_or, eqb}
use Rattle.std.proofs.Common.{sym, ◌∙◌, zero-add, mul-suc, mul-le-mul_left, add-one}
use Rattle.std.proofs.Math.Path.{ap}
use native.Mathlib.Omega.{arith}
use borrow.Author.Tests.{eq-eqb, eqb-true, eqb-false}
use Rattle.laws.specs.Chain.{Chained, numbered}
use Rattle.laws.specs.Search.{place, seek, total}
use Rattle.laws.specs.Walk.{from, from_high, from_holds, from_low, from_passes, from_skips, left_next, left_none}
use Rattle.keys.specs.Key.{key_of, same_key}
use Rattle.keys.specs.KeyLaws.{same_keys}
use Rattle.keys.specs.declared.Key.{Key}
use Rattle.record.specs.declared.row.Row.{Row}
use Rattle.model.specs.Rows.{has_key, most_records, nothing, rows}
use Rattle.places.specs.Loop.{Sought, seek_found, seek_more, seek_none}
use Rattle.facts.specs.Rows.{length_rows}
use Rattle.places.specs.Rows.{row_at}
use Rattle.chains.specs.Chains.{half}
use Rattle.chains.specs.Group.{apart, bucket_bound, bucket_of, by_key, group_of, key_group, most_heads, row_bucket}

-- the number of a book's places
abbrev pub places : List ℕ → ℕ
places b = length b / 64

pub record Listed (b d : List ℕ) : Type 0 where
  pub few : places b ≤ most_records
  pub fits : places b < half d
  pub short : half d ≤ most_heads
  pub chained : Chained (row_bucket (half d)) nothing (half d) (rows b) d 0

-- the rows of p are all of the group k
pub record Grouped (p : Row → Bool) (k : Key) : Type 0 where
  pub all : (r : Row) → p r ≡ true → group_of r ≡ k

-- f counts nothing of the rows of other groups than k; m, the most that it counts of a row, is carried along
pub record Counted (f : Row → ℕ) (m : ℕ) (k : Key) : Type 0 where
  pub none : (r : Row) → (group_of r ≡ k → ⊥) → f r ≡ 0

-- what f gives of the rows of p, and nothing of any other
pub only_grouped : (p : Row → Bool) (f : Row → ℕ) (m : ℕ) (k : Key) → Grouped p k
    → ((r : Row) → p r ≡ false → f r ≡ 0) → Counted f m k
only_grouped p f m k a z = record { none = λ r e. go r e (p r) refl }
  where
    go : (r : Row) → (group_of r ≡ k → ⊥) → (t : Bool) → p r ≡ t → f r ≡ 0
    go r e true q = absurd (e (a.all r q))
    go r e false q = z r q

-- ---- the cells of a directory
module _ (size h : ℕ) (r : Row) where
  has : row_bucket size r ≡ h → numbered (row_bucket size) h r ≡ true
  unfolding numbered
  has e = eq-eqb (row_bucket size r) h e

  is_of : numbered (row_bucket size) h r ≡ true → row_bucket size r ≡ h
  unfolding numbered
  is_of e = eqb-true (row_bucket size r) h e

  not_of : numbered (row_bucket size) h r ≡ false → row_bucket size r ≡ h → ⊥
  unfolding numbered
  not_of e = eqb-false (row_bucket size r) h e

-- the rows of a group have its bucket
in_bucket : (size : ℕ) (r : Row) (k : Key) → group_of r ≡ k → row_bucket size r ≡ bucket_of size k
unfolding row_bucket
in_bucket size r k e = ap (bucket_of size) e

module _ {b d : List ℕ} (s : Listed b d) where
  link_at : (c : ℕ) → c < places b
      → get_or d (half d + c) 0 ≡ from (numbered (row_bucket (half d)) (row_bucket (half d) (row_at b c))) (rows b) (c + 1)
  link_at c h = s.chained.links c (omega arith) (rw length_rows h)

  head_at : (k : Key) {g : Key} {c : ℕ} → g ≡ k → c ≡ get_or d (bucket_of (half d) g) 0
      → c ≡ from (numbered (row_bucket (half d)) (bucket_of (half d) k)) (rows b) 0
  head_at k e f =
      let z = s.fits in
      f ∙ rw e (s.chained.heads (bucket_of (half d) k) (bucket_bound (half d) k (omega arith)))

  pub next_less : (c u : ℕ) → c < places b → u ≡ get_or d (half d + c) 0 → places b - u < places b - c
  next_less c u h q =
      let e = link_at c h in
      let l = from_low (numbered (row_bucket (half d)) (row_bucket (half d) (row_at b c))) (rows b) (c + 1) in
      omega arith

-- the next place of a bucket has that bucket
holds_there : (size h : ℕ) (b : List ℕ) (i c : ℕ) → c ≡ from (numbered (row_bucket size) h) (rows b) i → c < places b
    → row_bucket size (row_at b c) ≡ h
holds_there size h b i c q z =
    let n = length_rows b in
    is_of size h (row_at b c) (rw q (from_holds (numbered (row_bucket size) h) (rows b) i nothing (omega arith)))

-- where a walk along the chain of the group k may stand
pub record InBucket (b d : List ℕ) (k : Key) (c : ℕ) : Type 0 where
  pub here : c < places b → row_bucket (half d) (row_at b c) ≡ bucket_of (half d) k

module _ {b d : List ℕ} (s : Listed b d) (k : Key) where
  pub at_first : {g : Key} {c : ℕ} → g ≡ k → c ≡ get_or d (bucket_of (half d) g) 0 → InBucket b d k c
  at_first {g} {c} e f = record { here = holds_there (half d) (bucket_of (half d) k) b 0 c (head_at s k e f) }

  pub at_next : {i c : ℕ} → group_of (row_at b i) ≡ k → i < places b → c ≡ get_or d (half d + i) 0 → InBucket b d k c
  at_next {i} {c} e h f =
      record {
        here = holds_there (half d) (bucket_of (half d) k) b (i + 1) c
            (f ∙ link_at s i h ∙ rw (in_bucket (half d) (row_at b i) k e));
      }

-- ---- a search for a row of p, all of which are of the group k
pub record Probed (p : Row → Bool) (k : Key) (b d : List ℕ) (w c : ℕ) : Type 0 where
  pub sought : Sought p b w c
  pub here : c < places b → row_bucket (half d) (row_at b c) ≡ bucket_of (half d) k
  pub grouped : Grouped p k

probe_at : (p : Row → Bool) (k : Key) (b d : List ℕ) (w i : ℕ) → Grouped p k → seek p i (drop i (rows b)) ≡ w → (c : ℕ)
    → c ≡ from (numbered (row_bucket (half d)) (bucket_of (half d) k)) (rows b) i → Probed p k b d w c
probe_at p k b d w i a e c q =
    let size = half d in
    let h = bucket_of size k in
    record {
      sought = record {
        same = rw q (sym (from_skips (numbered (row_bucket size) h) (rows b) i p
            (λ r t. has size h r (in_bucket size r k (a.all r t)))) ∙ e);
      };
      here = holds_there size h b i c q;
      grouped = a;
    }

pub probe_here : {p : Row → Bool} {k : Key} {b d : List ℕ} {c : ℕ} → Grouped p k → InBucket b d k c
    → Probed p k b d (seek p c (drop c (rows b))) c
probe_here a h = record { sought = record { same = refl }; here = h.here; grouped = a }

-- what a search from there on finds
module _ {b d : List ℕ} (s : Listed b d) {p : Row → Bool} {k : Key} (a : Grouped p k) where
  skips : (i c : ℕ) → c ≡ from (numbered (row_bucket (half d)) (bucket_of (half d) k)) (rows b) i
      → seek p c (drop c (rows b)) ≡ seek p i (drop i (rows b))
  skips i c q =
      let h = bucket_of (half d) k in
      rw q (sym (from_skips (numbered (row_bucket (half d)) h) (rows b) i p
      (λ r t. has (half d) h r (in_bucket (half d) r k (a.all r t)))))

  pub from_first : {g : Key} {c x : ℕ} → g ≡ k → c ≡ get_or d (bucket_of (half d) g) 0 → x ≡ seek p c (drop c (rows b))
      → x ≡ place p (rows b)
  from_first {g} {c} e f q = q ∙ skips 0 c (head_at s k e f)

  pub from_next : {i c x : ℕ} → group_of (row_at b i) ≡ k → i < places b → c ≡ get_or d (half d + i) 0
      → x ≡ seek p c (drop c (rows b)) → x ≡ seek p (i + 1) (drop (i + 1) (rows b))
  from_next {i} {c} e h f q =
      q ∙ skips (i + 1) c (f ∙ link_at s i h ∙ rw (in_bucket (half d) (row_at b i) k e))

  pub probe_first : {g : Key} {c : ℕ} → g ≡ k → c ≡ get_or d (bucket_of (half d) g) 0
      → Probed p k b d (place p (rows b)) c
  probe_first {g} {c} e f = record {
    sought = record { same = skips 0 c (head_at s k e f) };
    here = (at_first s k e f).here;
    grouped = a;
  }

  pub probe_next : {i c : ℕ} → group_of (row_at b i) ≡ k → i < places b → c ≡ get_or d (half d + i) 0
      → Probed p k b d (seek p (i + 1) (drop (i + 1) (rows b))) c
  probe_next {i} {c} e h f = record {
    sought = record { same = from_next e h f refl };
    here = (at_next s k e h f).here;
    grouped = a;
  }

module _ {p : Row → Bool} {k : Key} {b d : List ℕ} {w c : ℕ} (s : Probed p k b d w c) where
  pub probe_found : {x : Bool} {r : Row} → c < places b → r ≡ row_at b c → x ≡ p r → x ≡ true → c ≡ w
  probe_found h a f t = seek_found s.sought h a f t

  pub probe_none : places b ≤ c → c ≡ w
  probe_none h = seek_none s.sought h

  pub probe_more : {x : Bool} {r : Row} {u : ℕ} → Listed b d → c < places b → r ≡ row_at b c → x ≡ p r → x ≡ false
      → u ≡ get_or d (half d + c) 0 → Probed p k b d w u
  probe_more {x} {r} {u} t h a f e q =
      let l = seek_more s.sought h a f e in
      probe_at p k b d w (c + 1) s.grouped l.same u (q ∙ link_at t c h ∙ rw (s.here h))

-- ---- a sum over the group k
pub record Tallied (f : Row → ℕ) (m : ℕ) (k : Key) (b d : List ℕ) (w sum c : ℕ) : Type 0 where
  pub within : c ≤ places b
  pub same : sum + total f (drop c (rows b)) ≡ w
  pub small : sum ≤ m * c
  pub here : c < places b → row_bucket (half d) (row_at b c) ≡ bucket_of (half d) k
  pub counted : Counted f m k

tally_at : (f : Row → ℕ) (m : ℕ) (k : Key) (b d : List ℕ) (w sum i : ℕ) → Counted f m k → i ≤ places b
    → sum + total f (drop i (rows b)) ≡ w → sum ≤ m * i → (c : ℕ)
    → c ≡ from (numbered (row_bucket (half d)) (bucket_of (half d) k)) (rows b) i → Tallied f m k b d w sum c
unfolding total
tally_at f m k b d w sum i a h e s c q =
    let size = half d in
    let j = bucket_of size k in
    let n = length_rows b in
    let z = from_high (numbered (row_bucket size) j) (rows b) i (omega arith) in
    let y = from_low (numbered (row_bucket size) j) (rows b) i in
    let skip : (x : Row) (l : List Row) → numbered (row_bucket size) j x ≡ false → total f (x ∷ l) ≡ total f l =
    λ x l u. rw (a.none x (λ v. not_of size j x u (in_bucket size x k v))) (zero-add (total f l))
    in
    let t = from_passes (numbered (row_bucket size) j) (rows b) i (total f) skip in
    let l : m * i ≤ m * c = mul-le-mul_left m (omega arith) in
    record {
      within = omega arith;
      same = rw q (rw t at e);
      small = omega arith;
      here = holds_there size j b i c q;
      counted = a;
    }

pub tally_start : {b d : List ℕ} → Listed b d → (f : Row → ℕ) (m : ℕ) {k g : Key} {c : ℕ} → Counted f m k → g ≡ k
    → c ≡ get_or d (bucket_of (half d) g) 0 → Tallied f m k b d (total f (rows b)) 0 c
tally_start {b} {d} s f m {k} {g} {c} a e q =
    tally_at f m k b d (total f (rows b)) 0 0 a (omega arith) (zero-add (total f (rows b))) (omega arith) c
    (head_at s k e q)

module _ {f : Row → ℕ} {m : ℕ} {k : Key} {b d : List ℕ} {w sum c : ℕ} (s : Tallied f m k b d w sum c) where
  pub tally_more : {x : ℕ} {r : Row} {u : ℕ} → Listed b d → c < places b → r ≡ row_at b c → x ≡ f r → x ≤ m
      → u ≡ get_or d (half d + c) 0 → Tallied f m k b d w (sum + x) u
  unfolding total
  tally_more {x} {r} {u} t h a e l q =
      let v : x ≡ f (row_at b c) = e ∙ ap f a in
      let z : total f (drop c (rows b)) ≡ x + total f (drop (c + 1) (rows b)) =
      rw (left_next (rows b) c nothing (rw length_rows h), v)
      in
      let o : m * (c + 1) ≡ m * c + m = rw (add-one, mul-suc) in
      let y = s.same in
      let p = s.small in
      tally_at f m k b d w (sum + x) (c + 1) s.counted (omega arith) (omega arith) (omega arith) u
      (q ∙ link_at t c h ∙ rw (s.here h))

  pub tally_all : places b ≤ c → sum ≡ w
  unfolding total
  tally_all h =
      let t : total f (drop c (rows b)) ≡ 0 = rw (left_none (rows b) c (rw length_rows h)) in
      let q = s.same in
      omega arith

pub ruleset walks =
    (next_less, probe_first, probe_here, probe_found, probe_none, probe_more, tally_start, tally_more, tally_all)

-- ---- the rows of a key
own_kind : (r : Row) → (key_of r).kind ≡ r.kind
unfolding key_of
own_kind r = refl

pub key_grouped : (k : Key) → apart k.kind ≡ false → Grouped (has_key k) (key_group k)
unfolding has_key
key_grouped k n = record { all = λ r e. go r (same_keys (key_of r) k e) }
  where
    go : (r : Row) → key_of r ≡ k → group_of r ≡ key_group k
    go r e =
        let k : apart (key_of r).kind ≡ false = ap (λ (x : Key). apart x.kind) e ∙ n in
        by_key r (rw own_kind at k) ∙ ap key_group e

-- and of the key of a row
module _ (r : Row) {k : Key} (n : apart r.kind ≡ false) (e : k ≡ key_of r) where
  pub own_key : apart k.kind ≡ false
  own_key = ap (λ (x : Key). apart x.kind) e ∙ rw own_kind n

  pub own_group : (b : List ℕ) (i : ℕ) → r ≡ row_at b i → group_of (row_at b i) ≡ key_group k
  own_group b i q = ap group_of (sym q) ∙ by_key r n ∙ ap key_group (sym e)

  -- a walk from where a search for the row's key has come to
  pub probed_bucket : {b d : List ℕ} {w c : ℕ} → Probed (has_key (key_of r)) (key_group (key_of r)) b d w c
      → InBucket b d (key_group k) c
  probed_bucket s = rw e (record { here = s.here })

  pub probed_walk : {b d : List ℕ} {w c x : ℕ} → Probed (has_key (key_of r)) (key_group (key_of r)) b d w c
      → x ≡ seek (has_key k) c (drop c (rows b)) → x ≡ w
  probed_walk s q = q ∙ rw e s.sought.same

-- a row of another kind does not have it
pub other_kind : (r s : Row) → eqb s.kind r.kind ≡ false → has_key (key_of r) s ≡ false
unfolding has_key same_key key_of
other_kind r s h = rw h
