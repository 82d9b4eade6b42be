-- A table of places by their numbers: `size` heads, and then a link for each place. The cell x is in the chain of the
-- number `owner`, and holds the first place of that number from `x + 1 - size` on: of a head from 0, of a place's link
-- from behind that place. A place whose number is no head's is in no chain. Assumes nothing.
use Rattle.std.specs.Prelude.{◌≡◌, Bool, cond, List, ℕ, ◌+◌, ◌-◌, ◌≤◌, ◌<◌, eqb, ltb, length, get_or, set}
use Rattle.std.proofs.Math.Path.{refl, sym}
use Rattle.std.proofs.Common.{ap, ◌∙◌}
use Rattle.std.proofs.Math.Bool.{true, false}
use native.Mathlib.Omega.{arith}
use Rattle.std.proofs.Math.ListN.{length-set}
use Rattle.std.proofs.Math.Seq.{get_or-set_same, get_or-set_other}
use borrow.Author.Tests.{eq-eqb, ne_eqb, eqb-true, eqb-false, lt-ltb, le-ltb, ltb-true, ltb-false}
use Rattle.laws.specs.Walk.{from, from_alike, from_holds}
use Rattle.chains.specs.Next.{from_clear, next_before, next_behind, next_over, next_put, next_taken}

-- the number is h
unfoldable pub of : ℕ → ℕ → Bool
of h n = eqb n h

of_yes : (h n : ℕ) → n ≡ h → of h n ≡ true
unfolding of
of_yes h n e = eq-eqb n h e

of_no : (h n : ℕ) → (n ≡ h → ⊥) → of h n ≡ false
unfolding of
of_no h n e = ne_eqb n h e

is_of : (h n : ℕ) → of h n ≡ true → n ≡ h
unfolding of
is_of h n e = eqb-true n h e

not_of : (h n : ℕ) → of h n ≡ false → n ≡ h → ⊥
unfolding of
not_of h n e = eqb-false n h e

unfoldable pub owner : ℕ → List ℕ → ℕ → ℕ
owner size ns x = cond (ltb x size) x (get_or ns (x - size) 0)

pub own_head : (size : ℕ) (ns : List ℕ) (x : ℕ) → x < size → owner size ns x ≡ x
unfolding owner
own_head size ns x h = rw (lt-ltb x size h)

pub own_link : (size : ℕ) (ns : List ℕ) (x : ℕ) → size ≤ x → owner size ns x ≡ get_or ns (x - size) 0
unfolding owner
own_link size ns x h = rw (le-ltb x size h)

pub own_place : (size : ℕ) (ns : List ℕ) (j : ℕ) → owner size ns (size + j) ≡ get_or ns j 0
own_place size ns j =
    let e : size + j - size ≡ j = omega arith in
    own_link size ns (size + j) (omega arith) ∙ ap (λ (i : ℕ). get_or ns i 0) e

-- another place's number does not matter
own_other : (size : ℕ) (ns : List ℕ) (p v x : ℕ) → (x ≡ size + p → ⊥) → owner size (set ns p v) x ≡ owner size ns x
own_other size ns p v x n = go (ltb x size) refl
  where
    go : (t : Bool) → ltb x size ≡ t → owner size (set ns p v) x ≡ owner size ns x
    go true e =
        let h = ltb-true x size e in
        own_head size (set ns p v) x h ∙ sym (own_head size ns x h)
    go false e =
        let h = ltb-false x size e in
        own_link size (set ns p v) x h
        ∙ get_or-set_other ns p (x - size) v 0 (λ z. n (omega arith))
        ∙ sym (own_link size ns x h)

pub record Linked (size : ℕ) (ns t : List ℕ) : Type 0 where
  pub room : size + length ns ≤ length t
  pub cells : (x : ℕ) → x < size + length ns → owner size ns x < size
      → get_or t x 0 ≡ from (of (owner size ns x)) ns (x + 1 - size)
  pub rises : (j : ℕ) → j < length ns → j < get_or t (size + j) 0

module _ (size : ℕ) (ns t : List ℕ) (s : Linked size ns t) where
  -- the cell after a cell of number h has that number too
  pub next_owner : (h x c : ℕ) → h < size → x < size + length ns → owner size ns x ≡ h → c ≡ get_or t x 0 → c < length ns
      → owner size ns (size + c) ≡ h
  next_owner h x c z i o e l =
      let k : get_or t x 0 ≡ from (of h) ns (x + 1 - size) = rw o at (s.cells x i (omega arith)) in
      let f : c ≡ from (of h) ns (x + 1 - size) = e ∙ k in
      own_place size ns c
      ∙ rw f (is_of h (get_or ns (from (of h) ns (x + 1 - size)) 0)
      (from_holds (of h) ns (x + 1 - size) 0 (omega arith)))

  module _ (p h : ℕ) (inside : p < length ns) (z : h < size) where
    holds : (x : ℕ) → x < size + p → owner size ns x ≡ h → get_or t x 0 ≡ from (of h) ns (x + 1 - size)
    holds x a o = rw o at (s.cells x (omega arith) (omega arith))

    -- of two cells of one number that both lead past the places before p, none is before the other
    not_before : (x y : ℕ) → x < size + p → y < size + p → owner size ns x ≡ h → owner size ns y ≡ h → p ≤ get_or t y 0
        → y < x → ⊥
    not_before x y a b o u q l = go (ltb x size) refl
      where
        go : (i : Bool) → ltb x size ≡ i → ⊥
        go true e =
            let g = ltb-true x size e in
            let k = own_head size ns x g in
            let m = own_head size ns y (omega arith) in
            omega arith
        go false e =
            let g = ltb-false x size e in
            let k = holds y b u in
            let f = from_clear (of h) 0 ns (y + 1 - size) (x - size) (omega arith) (omega arith) in
            not_of h (get_or ns (x - size) 0) f (sym (own_link size ns x g) ∙ o)

    -- so there is one only
    one_cell : (x y : ℕ) → x < size + p → y < size + p → owner size ns x ≡ h → owner size ns y ≡ h → p ≤ get_or t x 0
        → p ≤ get_or t y 0 → x ≡ y
    one_cell x y a b o u q r =
        let f : (y < x → ⊥) = not_before x y a b o u r in
        let g : (x < y → ⊥) = not_before y x b a u o q in
        omega arith

    -- ---- p gets another number: one cell of the number h changes, that which leads to p or past it
    module _ (x : ℕ) (a : x < size + p) (o : owner size ns x ≡ h) (past : p ≤ get_or t x 0) (v : ℕ)
        (alike : (k : ℕ) → k < size → (k ≡ h → ⊥) → of k v ≡ of k (get_or ns p 0)) where
      -- and no other
      others : (y : ℕ) → (y ≡ size + p → ⊥) → (y ≡ x → ⊥) → y < size + length ns → (k : ℕ) → owner size ns y ≡ k
          → k < size → get_or t y 0 ≡ from (of k) (set ns p v) (y + 1 - size)
      others y n m i k u w = go (eqb k h) (ltb y (size + p)) refl refl
        where
          e : get_or t y 0 ≡ from (of k) ns (y + 1 - size)
          e = rw u at (s.cells y i (omega arith))

          go : (b c : Bool) → eqb k h ≡ b → ltb y (size + p) ≡ c → get_or t y 0 ≡ from (of k) (set ns p v) (y + 1 - size)
          go false c f g = e ∙ sym (from_alike (of k) 0 ns p v (λ _. alike k w (eqb-false k h f)) (y + 1 - size))
          go true false f g =
              let l = ltb-false y (size + p) g in
              e ∙ sym (next_behind (of k) 0 ns p v (y + 1 - size) (omega arith))
          go true true f g =
              let l = ltb-true y (size + p) g in
              let q = eqb-true k h f in
              let r : (p ≤ get_or t y 0 → ⊥) = λ r. m (one_cell y x l a (u ∙ q) o r past) in
              e ∙ sym (next_before (of k) 0 ns p v inside (y + 1 - size) (omega (arith, e)))

    -- ---- p leaves its chain
    module _ (x : ℕ) (a : x < size + p) (o : owner size ns x ≡ h) (past : p ≤ get_or t x 0) (mine : get_or ns p 0 ≡ h) where
      leads : get_or t x 0 ≡ p
      leads =
          let e = holds x a o in
          let f : (p < get_or t x 0 → ⊥) =
          λ f. not_of h (get_or ns p 0) (from_clear (of h) 0 ns (x + 1 - size) p (omega arith) (omega arith)) mine
          in
          omega arith

      links_on : get_or t (size + p) 0 ≡ from (of h) ns (p + 1)
      links_on =
          let u : owner size ns (size + p) ≡ h = own_place size ns p ∙ mine in
          let e : get_or t (size + p) 0 ≡ from (of h) ns (size + p + 1 - size) =
          rw u at (s.cells (size + p) (omega arith) (omega arith))
          in
          let k : size + p + 1 - size ≡ p + 1 = omega arith in
          rw k at e

      left_cells : (y : ℕ) → y < size + length ns → owner size (set ns p size) y < size → (b c : Bool)
          → eqb y (size + p) ≡ b → eqb y x ≡ c
          → get_or (set t x (get_or t (size + p) 0)) y 0
          ≡ from (of (owner size (set ns p size) y)) (set ns p size) (y + 1 - size)
      left_cells y i w true c f g =
          let e : owner size (set ns p size) y ≡ size =
          rw (eqb-true y (size + p) f) (own_place size (set ns p size) p ∙ get_or-set_same ns p size 0 inside)
          in
          absurd (omega arith)
      left_cells y i w false true f g =
          let q = eqb-true y x g in
          let u : owner size (set ns p size) y ≡ h =
          own_other size ns p size y (eqb-false y (size + p) f) ∙ rw q o
          in
          let no : of h size ≡ false = of_no h size (λ z. omega arith) in
          let r = s.room in
          rw (u, q) (get_or-set_same t x (get_or t (size + p) 0) 0 (omega arith) ∙ links_on
          ∙ sym (next_taken (of h) 0 ns p size inside (x + 1 - size) no (sym (holds x a o) ∙ leads)))
      left_cells y i w false false f g =
          let n = eqb-false y (size + p) f in
          let u = own_other size ns p size y n in
          get_or-set_other t x y (get_or t (size + p) 0) 0 (eqb-false y x g)
          ∙ rw u (others x a o past size
          (λ k j d. of_no k size (λ z. omega arith) ∙ sym (of_no k (get_or ns p 0) (λ z. d (sym z ∙ mine))))
          y n (eqb-false y x g) i (owner size ns y) refl (omega arith))

      left_rises : (j : ℕ) → j < length ns → (b : Bool) → eqb (size + j) x ≡ b
          → j < get_or (set t x (get_or t (size + p) 0)) (size + j) 0
      left_rises j i true e =
          let q = eqb-true (size + j) x e in
          let r = s.room in
          let k = get_or-set_same t x (get_or t (size + p) 0) 0 (omega arith) in
          let f = s.rises p inside in
          rw q (omega arith)
      left_rises j i false e =
          rw (get_or-set_other t x (size + j) (get_or t (size + p) 0) 0 (eqb-false (size + j) x e)) (s.rises j i)

      pub links_left : Linked size (set ns p size) (set t x (get_or t (size + p) 0))
      links_left = record {
        room = simp length-set s.room;
        cells = λ y i w. left_cells y (rw length-set at i) w (eqb y (size + p)) (eqb y x) refl refl;
        rises = λ j i. left_rises j (rw length-set at i) (eqb (size + j) x) refl;
      }

    -- ---- p comes into the chain of h
    module _ (x : ℕ) (a : x < size + p) (o : owner size ns x ≡ h) (past : p ≤ get_or t x 0) (none : size ≤ get_or ns p 0)
      where
        goes_past : p < get_or t x 0
        goes_past =
            let e = holds x a o in
            let r = s.room in
            let f : (get_or t x 0 ≡ p → ⊥) =
            λ f.
            let g : from (of h) ns (x + 1 - size) ≡ p = sym e ∙ f in
            let k = is_of h (get_or ns p 0)
            (rw g at (from_holds (of h) ns (x + 1 - size) 0 (omega arith))) in
            omega arith
            in
            omega arith

        put_in : List ℕ
        put_in = set (set t (size + p) (get_or t x 0)) x p

        in_cells : (y : ℕ) → y < size + length ns → owner size (set ns p h) y < size → (b c : Bool)
            → eqb y (size + p) ≡ b → eqb y x ≡ c
            → get_or put_in y 0 ≡ from (of (owner size (set ns p h) y)) (set ns p h) (y + 1 - size)
        unfolding put_in
        in_cells y i w true c f g =
            let q = eqb-true y (size + p) f in
            let r = s.room in
            let u : owner size (set ns p h) (size + p) ≡ h =
            own_place size (set ns p h) p ∙ get_or-set_same ns p h 0 inside
            in
            let k : size + p + 1 - size ≡ p + 1 = omega arith in
            let e = holds x a o in
            let m = goes_past in
            rw (q, u, k) (get_or-set_other (set t (size + p) (get_or t x 0)) x (size + p) p 0 (λ z. omega arith)
            ∙ get_or-set_same t (size + p) (get_or t x 0) 0 (omega arith) ∙ e
            ∙ sym (next_over (of h) 0 ns p (x + 1 - size) (omega arith) inside (omega arith))
            ∙ sym (next_behind (of h) 0 ns p h (p + 1) (omega arith)))
        in_cells y i w false true f g =
            let q = eqb-true y x g in
            let r = s.room in
            let u : owner size (set ns p h) y ≡ h = own_other size ns p h y (eqb-false y (size + p) f) ∙ rw q o in
            let e = holds x a o in
            rw (u, q) (get_or-set_same (set t (size + p) (get_or t x 0)) x p 0 (rw length-set (omega arith))
            ∙ sym (next_put (of h) 0 ns p h inside (x + 1 - size) (of_yes h h refl) (omega arith) (omega arith)))
        in_cells y i w false false f g =
            let n = eqb-false y (size + p) f in
            let u = own_other size ns p h y n in
            get_or-set_other (set t (size + p) (get_or t x 0)) x y p 0 (eqb-false y x g)
            ∙ get_or-set_other t (size + p) y (get_or t x 0) 0 n
            ∙ rw u (others x a o past h
            (λ k j d. of_no k h (λ z. d (sym z)) ∙ sym (of_no k (get_or ns p 0) (λ z. omega arith)))
            y n (eqb-false y x g) i (owner size ns y) refl (omega arith))

        in_rises : (j : ℕ) → j < length ns → (b c : Bool) → eqb (size + j) x ≡ b → eqb j p ≡ c
            → j < get_or put_in (size + j) 0
        unfolding put_in
        in_rises j i true c e f =
            let q = eqb-true (size + j) x e in
            let r = s.room in
            let k = get_or-set_same (set t (size + p) (get_or t x 0)) x p 0 (rw length-set (omega arith)) in
            rw q (omega arith)
        in_rises j i false true e f =
            let q = eqb-true j p f in
            let r = s.room in
            let m = goes_past in
            rw (get_or-set_other (set t (size + p) (get_or t x 0)) x (size + j) p 0 (eqb-false (size + j) x e))
            (rw (q, get_or-set_same t (size + p) (get_or t x 0) 0 (omega arith)) m)
        in_rises j i false false e f =
            let n = eqb-false j p f in
            rw (
              get_or-set_other (set t (size + p) (get_or t x 0)) x (size + j) p 0 (eqb-false (size + j) x e),
              get_or-set_other t (size + p) (size + j) (get_or t x 0) 0 (λ z. n (omega arith)),
            )
            (s.rises j i)

        pub links_in : Linked size (set ns p h) (set (set t (size + p) (get_or t x 0)) x p)
        unfolding put_in
        links_in = record {
          room = simp length-set s.room;
          cells = λ y i w. in_cells y (rw length-set at i) w (eqb y (size + p)) (eqb y x) refl refl;
          rises = λ j i. in_rises j (rw length-set at i) (eqb (size + j) x) (eqb j p) refl refl;
        }
