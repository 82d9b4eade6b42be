-- S2 by places: no key stands again after its row. Assumes nothing.
use Rattle.std.specs.Prelude.{◌≡◌, refl, Bool, false, not, ◌&&◌, ◌||◌, eqb, leb, ltb, length, drop}
use Rattle.std.proofs.Common.{sym, ◌∙◌, add-suc, add-zero, add-one, length-drop, eqb-true, eq-eqb, ne_eqb, le-leb, leb-true, leb-false, ltb-true, ltb-false}
use Rattle.std.proofs.Math.Path.{ap}
use Rattle.std.proofs.Math.Bool.{true}
use Rattle.std.proofs.lemmas.Bool.{false≢true, eqb-false, lt-leb}
use mathlib.Core.List.Memᴰ
use mathlib.Core.List.{List, [], ◌∷◌, Memᴰ}
use Prim.Native.Nat.{ℕ, zero, suc, ◌+◌, ◌-◌, ◌/◌, ◌≤◌, ◌<◌}
use native.Mathlib.Omega.{arith}
use Rattle.laws.specs.Search.{count, every, means_every, place, seek, total}
use Rattle.laws.specs.Tests.{and_both, and_left, and_right, one_truth, or_either, or_else}
use Rattle.laws.specs.Walk.{from, from_clear, from_holds, from_low, left_next, left_none}
use Rattle.record.specs.Codes.{kind_free}
use Rattle.keys.specs.Key.{key_of}
use Rattle.keys.specs.KeyLaws.{key_itself, same_keys}
use Rattle.keys.specs.declared.Key.{Key}
use Rattle.record.specs.declared.row.Row.{Row}
use Rattle.model.specs.Rows.{has_key, is, nothing, rows}
use Rattle.model.specs.Sound.{alone, s2}
use Rattle.facts.specs.Rows.{length_rows}
use Rattle.places.specs.Rows.{row_at}
use Rattle.laws.specs.Place.{seek_suc, some_place}

-- the key of a row stands nowhere in a list
abbrev nowhere : Row → List Row → Bool
nowhere r l = is kind_free r || eqb (count (has_key (key_of r)) l) 0

unfoldable pub distinct : List Row → Bool
distinct [] = true
distinct (r ∷ l) = nowhere r l && distinct l

-- ---- `distinct` is S2
module _ {A : Type 0} (p : A → Bool) where
  counted : (l : List A) (x : A) → Memᴰ x l → p x ≡ true → 1 ≤ count p l
  unfolding count total
  counted [] x m e = absurd (Memᴰ.not-nil m)
  counted (y ∷ l) x (Memᴰ.head q) e = let h : p y ≡ true = ap p (sym q) ∙ e in rw h (omega arith)
  counted (y ∷ l) x (Memᴰ.tail m) e = let h = counted l x m e in omega arith

own_key : (r : Row) → has_key (key_of r) r ≡ true
unfolding has_key
own_key r = key_itself (key_of r)

same_key_holds : (r x : Row) → has_key (key_of x) r ≡ true → key_of r ≡ key_of x
unfolding has_key
same_key_holds r x e = same_keys (key_of r) (key_of x) e

-- a row of this kind that is not free is not of the kind of free rows
same_free : (r x : Row) → key_of r ≡ key_of x → is kind_free x ≡ false → is kind_free r ≡ false
unfolding key_of
same_free r x e f = ap (λ (k : Key). eqb k.kind kind_free) e ∙ f

-- a row is alone in r and l where it is alone in l and r has another key
alone_more : (r x : Row) (l : List Row) → nowhere r l ≡ true → Memᴰ x l → alone l x ≡ true
    → alone (r ∷ l) x ≡ true
unfolding count total
alone_more r x l n m a =
    or_either (is kind_free x) (eqb (count (has_key (key_of x)) (r ∷ l)) 1) (λ f. go f (has_key (key_of x) r) refl)
  where
    go : is kind_free x ≡ false → (t : Bool) → has_key (key_of x) r ≡ t → eqb (count (has_key (key_of x)) (r ∷ l)) 1 ≡ true
    go f true e =
        let k = same_key_holds r x e in
        let z = eqb-true (count (has_key (key_of r)) l) 0
        (or_else (is kind_free r) (eqb (count (has_key (key_of r)) l) 0) n (same_free r x k f))
        in
        let y = counted (has_key (key_of r)) l x m (rw k (own_key x)) in
        absurd (omega arith)
    go f false e =
        let z = eqb-true (count (has_key (key_of x)) l) 1
        (or_else (is kind_free x) (eqb (count (has_key (key_of x)) l) 1) a f)
        in
        rw e (eq-eqb (0 + count (has_key (key_of x)) l) 1 (omega arith))

alone_here : (r : Row) (l : List Row) → nowhere r l ≡ true → alone (r ∷ l) r ≡ true
unfolding count total
alone_here r l n =
    or_either (is kind_free r) (eqb (count (has_key (key_of r)) (r ∷ l)) 1)
    (λ f.
    let z = eqb-true (count (has_key (key_of r)) l) 0
    (or_else (is kind_free r) (eqb (count (has_key (key_of r)) l) 0) n f)
    in
    rw (own_key r) (eq-eqb (1 + count (has_key (key_of r)) l) 1 (omega arith)))

all_alone : (l : List Row) → distinct l ≡ true → (x : Row) → Memᴰ x l → alone l x ≡ true
unfolding distinct
all_alone [] e x m = absurd (Memᴰ.not-nil m)
all_alone (r ∷ l) e x (Memᴰ.head q) =
    ap (alone (r ∷ l)) q ∙ alone_here r l (and_left (nowhere r l) (distinct l) e)
all_alone (r ∷ l) e x (Memᴰ.tail m) =
    alone_more r x l (and_left (nowhere r l) (distinct l) e) m
    (all_alone l (and_right (nowhere r l) (distinct l) e) x m)

-- and back
lone_nowhere : (r : Row) (l : List Row) → alone (r ∷ l) r ≡ true → nowhere r l ≡ true
unfolding count total
lone_nowhere r l a =
    or_either (is kind_free r) (eqb (count (has_key (key_of r)) l) 0)
    (λ f.
    let z = eqb-true (count (has_key (key_of r)) (r ∷ l)) 1
    (or_else (is kind_free r) (eqb (count (has_key (key_of r)) (r ∷ l)) 1) a f)
    in
    let y : 1 + count (has_key (key_of r)) l ≡ 1 = rw (own_key r) at z in
    eq-eqb (count (has_key (key_of r)) l) 0 (omega arith))

alone_less : (r x : Row) (l : List Row) → Memᴰ x l → alone (r ∷ l) x ≡ true → alone l x ≡ true
unfolding count total
alone_less r x l m a =
    or_either (is kind_free x) (eqb (count (has_key (key_of x)) l) 1)
    (λ f.
    let z = eqb-true (count (has_key (key_of x)) (r ∷ l)) 1
    (or_else (is kind_free x) (eqb (count (has_key (key_of x)) (r ∷ l)) 1) a f)
    in
    let y = counted (has_key (key_of x)) l x m (own_key x) in
    eq-eqb (count (has_key (key_of x)) l) 1 (omega arith))

all_distinct : (l : List Row) → ((x : Row) → Memᴰ x l → alone l x ≡ true) → distinct l ≡ true
unfolding distinct
all_distinct [] h = refl
all_distinct (r ∷ l) h =
    and_both (nowhere r l) (distinct l) (lone_nowhere r l (h r (Memᴰ.head refl)))
    (all_distinct l (λ x m. alone_less r x l m (h x (Memᴰ.tail m))))

distinct_is : (rs : List Row) → distinct rs ≡ s2 rs
unfolding s2
distinct_is rs =
    let m = means_every {P = λ x. alone rs x ≡ true} rs (λ x. record { shows = λ e. e; holds = λ e. e }) in
    one_truth (distinct rs) (every (alone rs) rs) (λ e. m.holds (all_alone rs e))
    (λ e. all_distinct rs (m.shows e))

-- ---- by places
-- the key of the row at i stands nowhere after it
abbrev pub last_at : List ℕ → ℕ → Bool
last_at b i = nowhere (row_at b i) (drop (i + 1) (rows b))

module _ (b : List ℕ) where
  unfolded : (i : ℕ) → i < length b / 64
      → distinct (drop i (rows b)) ≡ (last_at b i && distinct (drop (i + 1) (rows b)))
  unfolding distinct
  unfolded i h = rw (left_next (rows b) i nothing (rw length_rows h))

  distinct_from : (i : ℕ) → i ≤ length b / 64 → distinct (rows b) ≡ true → distinct (drop i (rows b)) ≡ true
  distinct_from zero h e = e
  distinct_from (suc i) h e =
      let l = distinct_from i (omega arith) e in
      rw (← add-one i)
      (and_right (last_at b i) (distinct (drop (i + 1) (rows b))) (sym (unfolded i (omega arith)) ∙ l))

  distinct_to : (k i : ℕ) → i + k ≡ length b / 64 → ((j : ℕ) → j < length b / 64 → last_at b j ≡ true)
      → distinct (drop i (rows b)) ≡ true
  unfolding distinct
  distinct_to zero i e h = rw (left_none (rows b) i (rw length_rows (omega arith)))
  distinct_to (suc k) i e h =
      unfolded i (omega arith)
      ∙ and_both (last_at b i) (distinct (drop (i + 1) (rows b))) (h i (omega arith))
      (distinct_to k (i + 1) (omega arith) h)

  pub unique_last : s2 (rows b) ≡ true → (i : ℕ) → i < length b / 64 → last_at b i ≡ true
  unique_last e i h =
      and_left (last_at b i) (distinct (drop (i + 1) (rows b)))
      (sym (unfolded i h) ∙ distinct_from i (omega arith) (distinct_is (rows b) ∙ e))

  pub last_unique : ((j : ℕ) → j < length b / 64 → last_at b j ≡ true) → s2 (rows b) ≡ true
  last_unique h = sym (distinct_is (rows b)) ∙ distinct_to (length b / 64) 0 (omega arith) h

-- a search that comes to the end finds none
seek_shift : {A : Type 0} (p : A → Bool) (j : ℕ) (l : List A) → seek p j l ≡ place p l + j
seek_shift p zero l = sym (add-zero (place p l))
seek_shift p (suc j) l = seek_suc p j l ∙ ap suc (seek_shift p j l) ∙ sym (add-suc (place p l) j)

pub none_left : (n : ℕ) → eqb n 0 ≡ not (leb 1 n)
none_left zero = refl
none_left (suc n) = rw (ne_eqb (suc n) 0 (λ q. omega arith), le-leb 1 (suc n) (omega arith))

pub last_free : (b : List ℕ) (i : ℕ) {r : Row} → r ≡ row_at b i → r.kind ≡ kind_free → true ≡ last_at b i
last_free b i e h = rw (← e, h)

past : (n x q j m : ℕ) → x ≡ q + j → m ≡ n - j → j ≤ n → leb n x ≡ not (ltb q m)
past n x q j m e f h = go (ltb q m) refl
  where
    go : (t : Bool) → ltb q m ≡ t → leb n x ≡ not (ltb q m)
    go true u = let v = ltb-true q m u in rw u (lt-leb n x (omega arith))
    go false u = let v = ltb-false q m u in rw u (le-leb n x (omega arith))

pub last_kept : (b : List ℕ) (i : ℕ) {r : Row} {x : ℕ} → i < length b / 64 → r ≡ row_at b i
    → (r.kind ≡ kind_free → ⊥) → x ≡ seek (has_key (key_of r)) (i + 1) (drop (i + 1) (rows b))
    → leb (length b / 64) x ≡ last_at b i
last_kept b i {r} {x} h e f g =
    let m = drop (i + 1) (rows b) in
    let p = has_key (key_of r) in
    let there : x ≡ place p m + (i + 1) = g ∙ seek_shift p (i + 1) m in
    let many : length m ≡ length b / 64 - (i + 1) = length-drop (i + 1) (rows b) ∙ rw length_rows in
    let none = past (length b / 64) x (place p m) (i + 1) (length m) there many (omega arith) in
    rw (← e, ne_eqb r.kind kind_free f) (none ∙ rw (none_left (count p m), some_place p m))

module _ (b : List ℕ) (i : ℕ) (inside : i < length b / 64) where
  -- no row after it has the key
  pub last_none : ((row_at b i).kind ≡ kind_free → ⊥) → last_at b i ≡ true → (j : ℕ) → i < j → j < length b / 64
      → has_key (key_of (row_at b i)) (row_at b j) ≡ false
  last_none f e j a h =
      let k = has_key (key_of (row_at b i)) in
      let x = from k (rows b) (i + 1) in
      let past = leb-true (length b / 64) x (last_kept b i inside refl f refl ∙ e) in
      from_clear k nothing (rows b) (i + 1) j (omega arith) (omega arith) (rw length_rows h)

  pub none_last : ((j : ℕ) → i < j → j < length b / 64 → has_key (key_of (row_at b i)) (row_at b j) ≡ false)
      → last_at b i ≡ true
  none_last n = go (eqb (row_at b i).kind kind_free) refl
    where
      k : Row → Bool
      k = has_key (key_of (row_at b i))

      x : ℕ
      x = from k (rows b) (i + 1)

      over : (t : Bool) → leb (length b / 64) x ≡ t → leb (length b / 64) x ≡ true
      over true e = e
      over false e =
          let h = leb-false (length b / 64) x e in
          let low = from_low k (rows b) (i + 1) in
          let has = from_holds k (rows b) (i + 1) nothing (rw length_rows h) in
          absurd (false≢true (sym (n x (omega arith) h) ∙ has))

      go : (t : Bool) → eqb (row_at b i).kind kind_free ≡ t → last_at b i ≡ true
      go true e = sym (last_free b i refl (eqb-true (row_at b i).kind kind_free e))
      go false e =
          sym (last_kept b i inside refl (eqb-false (row_at b i).kind kind_free e) refl)
          ∙ over (leb (length b / 64) x) refl
