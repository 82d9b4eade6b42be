-- Numbers by their digits, each in a base of its own: the order and the equality of the numbers are those of the
-- digits, the highest first. Assumes nothing.
use Rattle.std.specs.Prelude.{◌≡◌, refl, Bool, true, false, ◌&&◌, ◌||◌, List, [], ◌∷◌, ℕ, zero, suc, ◌+◌, ◌*◌, ◌≤◌, ◌<◌, get_or, ltb, eqb}
use Rattle.std.proofs.Common.{sym, ap, subst, arith, suc-mul, mul-le-mul_right, lt_irrefl, ltb-true, ltb-false, eqb-true, lt-ltb, le-ltb, eq-eqb, ne_eqb}
use Rattle.std.proofs.Math.Arith.{lt_of_le-ne}
use Rattle.std.proofs.lemmas.Bool.{eqb-false}
use Rattle.laws.specs.Tests.{and_left, and_right}

above : (m n : ℕ) → ltb m n ≡ false → eqb m n ≡ false → n < m
above m n p q = lt_of_le-ne (ltb-false m n p) (λ e. eqb-false m n q (sym e))

module _ (m h x h' x' : ℕ) (hx : x < m) (hx' : x' < m) where
  up_to : {a b : ℕ} → a < b → a * m + m ≤ b * m
  up_to {a} {b} l = subst (λ (n : ℕ). n ≤ b * m) (suc-mul a m) (mul-le-mul_right m l)

  less_on : (t u v : Bool) → ltb h h' ≡ t → eqb h h' ≡ u → ltb x x' ≡ v
      → (t || (u && v)) ≡ ltb (h * m + x) (h' * m + x')
  less_on true u v p q r = sym (lt-ltb (h * m + x) (h' * m + x') (omega (arith, up_to (ltb-true h h' p))))
  less_on false false v p q r = sym (le-ltb (h * m + x) (h' * m + x') (omega (arith, up_to (above h h' p q))))
  less_on false true true p q r =
      sym (lt-ltb (h * m + x) (h' * m + x') (omega (arith, ap (λ (n : ℕ). n * m) (eqb-true h h' q), ltb-true x x' r)))
  less_on false true false p q r =
      sym (le-ltb (h * m + x) (h' * m + x') (omega (arith, ap (λ (n : ℕ). n * m) (eqb-true h h' q), ltb-false x x' r)))

  same_on : (t u v : Bool) → ltb h h' ≡ t → eqb h h' ≡ u → eqb x x' ≡ v → (u && v) ≡ eqb (h * m + x) (h' * m + x')
  same_on true true v p q r =
      absurd (lt_irrefl h (subst (λ (n : ℕ). h < n) (sym (eqb-true h h' q)) (ltb-true h h' p)))
  same_on true false v p q r =
      let l = up_to (ltb-true h h' p) in
      sym (ne_eqb (h * m + x) (h' * m + x') (λ e. omega arith))
  same_on false false v p q r =
      let l = up_to (above h h' p q) in
      sym (ne_eqb (h * m + x) (h' * m + x') (λ e. omega arith))
  same_on false true true p q r =
      sym (eq-eqb (h * m + x) (h' * m + x') (omega (arith, ap (λ (n : ℕ). n * m) (eqb-true h h' q), eqb-true x x' r)))
  same_on false true false p q r =
      let l = ap (λ (n : ℕ). n * m) (eqb-true h h' q) in
      sym (ne_eqb (h * m + x) (h' * m + x') (λ e. eqb-false x x' r (omega arith)))

  -- the higher digits decide, and where they are equal the lower ones
  pair_less : (ltb h h' || (eqb h h' && ltb x x')) ≡ ltb (h * m + x) (h' * m + x')
  pair_less = less_on (ltb h h') (eqb h h') (ltb x x') refl refl refl

  -- equal numbers, equal digits
  pair_same : (eqb h h' && eqb x x') ≡ eqb (h * m + x) (h' * m + x')
  pair_same = same_on (ltb h h') (eqb h h') (eqb x x') refl refl refl

-- a digit of one number and of another, and its base
pub record Digit : Type 0 where
  pub base : ℕ
  pub mine : ℕ
  pub yours : ℕ

abbrev pub mine : ℕ → List Digit → ℕ
mine h [] = h
mine h (d ∷ ds) = mine (h * d.base + d.mine) ds

abbrev pub yours : ℕ → List Digit → ℕ
yours h [] = h
yours h (d ∷ ds) = yours (h * d.base + d.yours) ds

-- all digits are equal, where the higher ones were (s)
abbrev pub same : Bool → List Digit → Bool
same s [] = s
same s (d ∷ ds) = same (s && eqb d.mine d.yours) ds

-- the first digits that differ are rising, where none of the higher ones did (s), or those were rising (l)
abbrev pub less : Bool → Bool → List Digit → Bool
less l s [] = l
less l s (d ∷ ds) = less (l || (s && ltb d.mine d.yours)) (s && eqb d.mine d.yours) ds

abbrev pub InBase : List Digit → Type 0
InBase [] = Unit {0}
InBase (d ∷ ds) = (d.mine < d.base) × (d.yours < d.base) × InBase ds

pub same_number : (s : Bool) (h h' : ℕ) (ds : List Digit) → InBase ds → s ≡ eqb h h'
    → same s ds ≡ eqb (mine h ds) (yours h' ds)
same_number s h h' [] b e = e
same_number s h h' (d ∷ ds) b e =
    let x = d.mine in
    let y = d.yours in
    let m = d.base in
    let one : (s && eqb x y) ≡ eqb (h * m + x) (h' * m + y) = rw e (pair_same m h x h' y b.0 b.1) in
    same_number (s && eqb x y) (h * m + x) (h' * m + y) ds b.2 one

pub less_number : (l s : Bool) (h h' : ℕ) (ds : List Digit) → InBase ds → l ≡ ltb h h' → s ≡ eqb h h'
    → less l s ds ≡ ltb (mine h ds) (yours h' ds)
less_number l s h h' [] b f e = f
less_number l s h h' (d ∷ ds) b f e =
    let x = d.mine in
    let y = d.yours in
    let m = d.base in
    let one : (s && eqb x y) ≡ eqb (h * m + x) (h' * m + y) = rw e (pair_same m h x h' y b.0 b.1) in
    let two : (l || (s && ltb x y)) ≡ ltb (h * m + x) (h' * m + y) = rw (f, e) (pair_less m h x h' y b.0 b.1) in
    less_number (l || (s && ltb x y)) (s && eqb x y) (h * m + x) (h' * m + y) ds b.2 two one

-- where all are equal, so is each
pub head_equal : (s : Bool) (ds : List Digit) → same s ds ≡ true → s ≡ true
head_equal s [] e = e
head_equal s (d ∷ ds) e = and_left s (eqb d.mine d.yours) (head_equal (s && eqb d.mine d.yours) ds e)

abbrev pub digit_at : List Digit → ℕ → Digit
digit_at ds i = get_or ds i (record { base = 0; mine = 0; yours = 0 })

pub digits_equal : (s : Bool) (ds : List Digit) → same s ds ≡ true → (i : ℕ) → (digit_at ds i).mine ≡ (digit_at ds i).yours
digits_equal s [] e i = refl
digits_equal s (d ∷ ds) e zero =
    let both = head_equal (s && eqb d.mine d.yours) ds e in
    eqb-true d.mine d.yours (and_right s (eqb d.mine d.yours) both)
digits_equal s (d ∷ ds) e (suc i) = digits_equal (s && eqb d.mine d.yours) ds e i
