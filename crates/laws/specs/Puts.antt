-- Rows put in the places of others, one after the other: what is summed and counted then, which rows are there that were
-- not, which stay, and what is found. Assumes nothing.
use Rattle.std.specs.Prelude.{◌≡◌, Bool, ◌⊎◌, ℕ, ◌+◌, ◌≤◌, leb, length}
use Rattle.std.proofs.Math.Path.{refl, ap}
use Rattle.std.proofs.Common.{◌∙◌, sym, inl, inr, ⊎_elim, leb-false, leb-true, le-leb}
use Rattle.std.proofs.Math.Bool.{true, false}
use mathlib.Core.List.{List, [], ◌∷◌, map, Memᴰ}
use native.Mathlib.Omega.{arith}
use Rattle.laws.specs.Change.{put, puts, the_other}
use Rattle.laws.specs.Keep.{count_has, count_map, count_none, count_on, count_one, the_has}
use Rattle.laws.specs.Search.{bit, count, the, total}
use Rattle.laws.specs.All.{All, all_map}
use Rattle.laws.specs.Place.{the_passes}
use Rattle.laws.specs.Total.{total_map, total_on}

-- the rows that give way, and those that come
abbrev pub olds : {A : Type 0} → List (A × A) → List A
olds ws = map (λ w. w.0) ws

abbrev pub news : {A : Type 0} → List (A × A) → List A
news ws = map (λ w. w.1) ws

module _ {A : Type 0} (same : A → A → Bool) where
  -- each that gives way is there, as often as it is to give way
  abbrev pub Inside : List (A × A) → List A → Type 0
  Inside ws l = (x : A) → count (same x) (olds ws) ≤ count (same x) l

one_of : (a b : ℕ) → 1 ≤ a + b → (1 ≤ a) ⊎ (1 ≤ b)
one_of a b h = go (leb 1 a) refl
  where
    go : (t : Bool) → leb 1 a ≡ t → (1 ≤ a) ⊎ (1 ≤ b)
    go true e = inl (leb-true 1 a e)
    go false e = let k = leb-false 1 a e in inr (omega arith)

module _ {A : Type 0} (same : A → A → Bool) (tells : (a b : A) → same a b ≡ true → a ≡ b)
    (itself : (a : A) → same a a ≡ true) where
  pub put_total : (μ : A → ℕ) (o n : A) (l : List A) → 1 ≤ count (same o) l
      → total μ (put same o n l) + μ o ≡ total μ l + μ n
  unfolding put count total
  put_total μ o n [] h = absurd (omega arith)
  put_total μ o n (x ∷ l) h = go (put_total μ o n l) (same o x) refl
    where
      go : (1 ≤ count (same o) l → total μ (put same o n l) + μ o ≡ total μ l + μ n) → (t : Bool) → same o x ≡ t
          → total μ (put same o n (x ∷ l)) + μ o ≡ total μ (x ∷ l) + μ n
      go ih true e = let q : μ o ≡ μ x = ap μ (tells o x e) in rw e (omega arith)
      go ih false e =
          let k : 1 ≤ bit false + count (same o) l = rw e at h in
          let r = ih (omega arith) in
          rw e (omega arith)

  inside_next : (w : A × A) (ws : List (A × A)) (l : List A) → Inside same (w ∷ ws) l
      → (1 ≤ count (same w.0) l) × Inside same ws (put same w.0 w.1 l)
  unfolding count total
  inside_next w ws l h =
      let own : bit (same w.0 w.0) ≡ 1 = ap bit (itself w.0) in
      let first = h w.0 in
      let here : 1 ≤ count (same w.0) l = omega arith in (
        here,
        λ x.
            let one = put_total (λ y. bit (same x y)) w.0 w.1 l here in
            let all = h x in
            omega arith,
      )

  -- whatever is summed: what was there and what comes is what is there and what goes
  pub puts_total : (μ : A → ℕ) (ws : List (A × A)) (l : List A) → Inside same ws l
      → total μ (puts same ws l) + total μ (olds ws) ≡ total μ l + total μ (news ws)
  unfolding puts total
  puts_total μ [] l h = refl
  puts_total μ (w ∷ ws) l h =
      let next = inside_next w ws l h in
      let one = put_total μ w.0 w.1 l next.0 in
      let rest = puts_total μ ws (put same w.0 w.1 l) next.1 in
      omega arith

  pub puts_count : (p : A → Bool) (ws : List (A × A)) (l : List A) → Inside same ws l
      → count p (puts same ws l) + count p (olds ws) ≡ count p l + count p (news ws)
  unfolding count
  puts_count p ws l h = puts_total (λ x. bit (p x)) ws l h

  -- ---- what is there
  pub member : (x : A) (l : List A) → 1 ≤ count (same x) l → Memᴰ x l
  unfolding count total
  member x [] h = absurd (omega arith)
  member x (y ∷ l) h = go (member x l) (same x y) refl
    where
      go : (1 ≤ count (same x) l → Memᴰ x l) → (t : Bool) → same x y ≡ t → Memᴰ x (y ∷ l)
      go ih true e = Memᴰ.head (tells x y e)
      go ih false e =
          let k : 1 ≤ bit false + count (same x) l = rw e at h in Memᴰ.tail (ih (omega arith))

  pub is_counted : (x : A) (l : List A) → Memᴰ x l → 1 ≤ count (same x) l
  is_counted x l m = count_has (same x) x l m (itself x)

  -- a row that is there then was there, or came
  pub puts_origin : (ws : List (A × A)) (l : List A) → Inside same ws l → (x : A) → Memᴰ x (puts same ws l)
      → Memᴰ x l ⊎ Memᴰ x (news ws)
  puts_origin ws l h x m =
      let law = puts_count (same x) ws l h in
      let now = is_counted x (puts same ws l) m in
      ⊎_elim (λ k. inl (member x l k)) (λ k. inr (member x (news ws) k))
      (one_of (count (same x) l) (count (same x) (news ws)) (omega arith))

  -- one that comes is there
  pub puts_comes : (ws : List (A × A)) (l : List A) → Inside same ws l → (x : A) → Memᴰ x (news ws)
      → Memᴰ x (puts same ws l)
  puts_comes ws l h x m =
      let law = puts_count (same x) ws l h in
      let enough = h x in
      let came = is_counted x (news ws) m in
      member x (puts same ws l) (omega arith)

bit_less : (a b : Bool) → (a ≡ true → b ≡ true) → bit a ≤ bit b
bit_less true b h = rw (h refl) (omega arith)
bit_less false b h = omega arith

module _ {A : Type 0} where
  -- what passes one test passes the other
  pub count_less : (p q : A → Bool) (l : List A) → All (λ (x : A). p x ≡ true → q x ≡ true) l → count p l ≤ count q l
  unfolding count total
  count_less p q [] h = omega arith
  count_less p q (x ∷ l) h =
      let one = bit_less (p x) (q x) (h x (Memᴰ.head refl)) in
      let ih = count_less p q l (λ y m. h y (Memᴰ.tail m)) in
      omega arith

  pub count_length : (p : A → Bool) (l : List A) → count p l ≤ length l
  unfolding count total
  count_length p [] = omega arith
  count_length p (x ∷ l) =
      let one = bit_less (p x) true (λ e. refl) in
      let ih = count_length p l in
      omega arith

  pub count_no : (p : A → Bool) (l : List A) → All (λ (x : A). p x ≡ false) l → count p l ≡ 0
  count_no p l h = count_on p (λ x. false) l h ∙ count_none (λ (x : A). false) l (λ x. refl)

  -- the one that passes is found
  pub the_one : (p : A → Bool) (d x : A) (l : List A) → count p l ≤ 1 → Memᴰ x l → p x ≡ true → the p d l ≡ x
  the_one p d x l c m e =
      let some = le-leb 1 (count p l) (count_has p x l m e) in
      count_one p (the p d l) x l c (the_has p d l some) m (the_passes p d l some) e

  pub mem_map : {B : Type 0} (f : A → B) (x : A) (l : List A) → Memᴰ x l → Memᴰ (f x) (map f l)
  mem_map {B = B} f x [] m = elim m [ ]
  mem_map f x (y ∷ l) (Memᴰ.head q) = rw q (Memᴰ.head refl)
  mem_map f x (y ∷ l) (Memᴰ.tail m) = Memᴰ.tail (mem_map f x l m)

-- ---- one row in the place of another, by a test
module _ {A : Type 0} (p : A → Bool) where
  -- neither passes
  abbrev pub Quiet : A × A → Type 0
  Quiet w = (p w.0 ≡ false) × (p w.1 ≡ false)

  -- the one that comes passes only where the other did, and the reverse
  abbrev pub Fewer : A × A → Type 0
  Fewer w = p w.1 ≡ true → p w.0 ≡ true

  abbrev pub More : A × A → Type 0
  More w = p w.0 ≡ true → p w.1 ≡ true

module _ {A : Type 0} (same : A → A → Bool) (tells : (a b : A) → same a b ≡ true → a ≡ b) where
  pub the_puts : (p : A → Bool) (d : A) (ws : List (A × A)) (l : List A) → All (Quiet p) ws
      → the p d (puts same ws l) ≡ the p d l
  unfolding puts
  the_puts p d [] l h = refl
  the_puts p d (w ∷ ws) l h =
      let here = h w (Memᴰ.head refl) in
      the_puts p d ws (put same w.0 w.1 l) (λ v m. h v (Memᴰ.tail m))
      ∙ the_other same tells p w.0 w.1 here.0 here.1 d l

  module _ (itself : (a : A) → same a a ≡ true) (ws : List (A × A)) (l : List A) (inside : Inside same ws l) where
    counted : (p : A → Bool)
        → count p (puts same ws l) + count (λ (w : A × A). p w.0) ws
        ≡ count p l + count (λ (w : A × A). p w.1) ws
    counted p =
        let law = puts_count same tells itself p ws l inside in
        let a = count_map p (λ (w : A × A). w.0) ws in
        let b = count_map p (λ (w : A × A). w.1) ws in
        omega arith

    pub no_more : (p : A → Bool) → All (Fewer p) ws → count p (puts same ws l) ≤ count p l
    no_more p h =
        omega (arith, counted p, count_less (λ (w : A × A). p w.1) (λ (w : A × A). p w.0) ws h)

    pub no_fewer : (p : A → Bool) → All (More p) ws → count p l ≤ count p (puts same ws l)
    no_fewer p h =
        omega (arith, counted p, count_less (λ (w : A × A). p w.0) (λ (w : A × A). p w.1) ws h)

    -- what holds of each that was there and of each that comes
    pub each_row : (P : A → Type 0) → All P l → All (λ (w : A × A). P w.1) ws → All P (puts same ws l)
    each_row P old new x m =
        ⊎_elim (old x) (all_map (λ (w : A × A). w.1) P ws new x) (puts_origin same tells itself ws l inside x m)

    pub has_come : (w : A × A) → Memᴰ w ws → Memᴰ w.1 (puts same ws l)
    has_come w m = puts_comes same tells itself ws l inside w.1 (mem_map (λ (v : A × A). v.1) w ws m)

-- what is summed over the rows that come is what is summed over those that give way, where it is so of each
pub same_sums : {A : Type 0} (μ : A → ℕ) (ws : List (A × A)) → All (λ (w : A × A). μ w.0 ≡ μ w.1) ws
    → total μ (olds ws) ≡ total μ (news ws)
same_sums μ ws h =
    total_map μ (λ w. w.0) ws ∙ total_on (λ w. μ w.0) (λ w. μ w.1) ws h ∙ sym (total_map μ (λ w. w.1) ws)
