-- The figures of a number are its digits, where these are the fewest that hold it, and they are what std prints of it.
use Rattle.std.specs.Prelude.{◌≡◌, refl, Bool, true, false, cond, List, [], ◌∷◌, ◌++◌, ℕ, zero, suc, ◌+◌, ◌-◌, ◌/◌, ◌%◌, ◌^◌, ◌≤◌, ◌<◌, ltb, length}
use Rattle.std.proofs.Common.{ap, le_of_suc-le-suc, lt_of_not-le, mod-eq_of_lt, not-suc-le-zero, pow-suc, arith, length-append, le-ltb, lt-ltb, eq-eqb, ne_eqb, append-nil, append_assoc, ◌∙◌, ltb-true, ltb-false}
use Rattle.std.proofs.Math.Nat.{one-le-pow, pow-le-pow_right}
use Rattle.std.specs.Fmt.{decimal as printed, digit_glyph, digits_onto, digits}
use Rattle.tally.specs.Text.{decimal, figure, figures}

-- the ASCII code of a digit below 16: `0` to `9`, then `a` to `f`
abbrev pub hex_digit_ascii : ℕ → ℕ
hex_digit_ascii d = cond (ltb d 10) (48 + d) (87 + d)

-- the last k digits of n in base b, the most significant first
abbrev pub last_digits : ℕ → ℕ → ℕ → List ℕ
last_digits b zero n = []
last_digits b (suc k) n = last_digits b k (n / b) ++ (hex_digit_ascii (n % b) ∷ [])

-- n takes k digits in base b, when padded to `width` digits
abbrev pub IsDigitCount : ℕ → ℕ → ℕ → ℕ → Type 0
IsDigitCount b width n k = (width ≤ k) × (n < b ^ k) × (width < k → b ^ (k - 1) ≤ n)

glyph_figure : (d : ℕ) → d < 10 → hex_digit_ascii d ≡ figure d
glyph_figure d h = rw (lt-ltb d 10 h)

either_length : (b : Bool) (s t : List ℕ) (k : ℕ) → length s ≤ k → length t ≤ k → length (cond b s t) ≤ k
either_length true s t k h i = h
either_length false s t k h i = i

figures_length : (k n : ℕ) → length (figures k n) ≤ k
figures_length zero n = omega arith
figures_length (suc k) n =
    let i = figures_length k (n / 10) in
    let more = figures k (n / 10) ++ (figure (n % 10) ∷ []) in
    either_length (ltb n 10) (figure n ∷ []) more (suc k) (omega arith) (rw length-append (omega arith))

pub decimal_length : (n : ℕ) → length (decimal n) ≤ 20
unfolding decimal
decimal_length n = figures_length 20 n

-- a number of two digits or more has its highest at that place
high : (n r : ℕ) → IsDigitCount 10 1 n (suc (suc r)) → 10 ^ suc r ≤ n
high n r f = let e : suc (suc r) - 1 ≡ suc r = omega arith in rw e at (f.2 (omega arith))

-- a tenth of the number has one digit less
fewer : (n r : ℕ) → IsDigitCount 10 1 n (suc (suc r)) → IsDigitCount 10 1 (n / 10) (suc r)
fewer n r f =
    let p = pow-suc 10 (suc r) in
    let q = pow-suc 10 r in
    let e : suc r - 1 ≡ r = omega arith in
    let h = f.1 in
    let g = high n r f in
    (omega arith, omega arith, λ m. rw e (omega arith))

one_figure : (n : ℕ) → IsDigitCount 10 1 n 1 → last_digits 10 1 n ≡ figure n ∷ []
one_figure n f =
    let h : n < 10 = f.1 in
    let m : n % 10 ≡ n = mod-eq_of_lt h in
    rw (m, glyph_figure n h)

ten : (n r : ℕ) → IsDigitCount 10 1 n (suc (suc r)) → 10 ≤ n
ten n r f =
    let q = pow-suc 10 r in
    let o : 1 ≤ 10 ^ r = one-le-pow r 10 (omega arith) in
    let g = high n r f in
    omega arith

digits_figures : (k r n : ℕ) → r ≤ k → IsDigitCount 10 1 n r → last_digits 10 r n ≡ figures k n
digits_figures zero zero n l f = refl
digits_figures zero (suc r) n l f = absurd (not-suc-le-zero l)
digits_figures (suc k) zero n l f = absurd (not-suc-le-zero f.0)
digits_figures (suc k) (suc zero) n l f = rw (lt-ltb n 10 f.1) (one_figure n f)
digits_figures (suc k) (suc (suc r)) n l f =
    let i = digits_figures k (suc r) (n / 10) (le_of_suc-le-suc l) (fewer n r f) in
    let d : n % 10 < 10 = omega arith in
    rw (le-ltb n 10 (ten n r f), glyph_figure (n % 10) d) (ap (λ (s : List ℕ). s ++ (figure (n % 10) ∷ [])) i)

pub digits_few : (n r : ℕ) → n < 2 ^ 64 → IsDigitCount 10 1 n r → r ≤ 20
digits_few n r h f =
    let l : r < 21 =
    lt_of_not-le (λ (g : 21 ≤ r).
    let e : 20 ≤ r - 1 = omega arith in
    let p : 10 ^ 20 ≤ 10 ^ (r - 1) = pow-le-pow_right (omega arith) e in
    let q : 10 ^ (r - 1) ≤ n = f.2 (omega arith) in
    omega arith)
    in
    omega arith

pub decimal_digits : (n r : ℕ) → n < 2 ^ 64 → IsDigitCount 10 1 n r → last_digits 10 r n ≡ decimal n
unfolding decimal
decimal_digits n r h f = digits_figures 20 r n (digits_few n r h f) f

-- std's digit below ten
glyph : (d : ℕ) → d < 10 → digit_glyph false d ≡ figure d
glyph d h = rw (lt-ltb d 10 h)

-- std's digits before a text: the last one, and one with more before it
last : (k n : ℕ) (s : List ℕ) → n < 10 → digits_onto (suc k) 10 false n s ≡ figure n ∷ s
last k n s h =
    let q : n / 10 ≡ 0 = omega arith in
    let m : n % 10 ≡ n = mod-eq_of_lt h in
    rw (eq-eqb (n / 10) 0 q, m, lt-ltb n 10 h)

before : (k n : ℕ) (s : List ℕ) → 10 ≤ n → digits_onto (suc k) 10 false n s ≡ digits_onto k 10 false (n / 10) (figure (n % 10) ∷ s)
before k n s h =
    let q : n / 10 ≡ 0 → ⊥ = (λ e. omega arith) in
    let d : n % 10 < 10 = omega arith in
    rw (ne_eqb (n / 10) 0 q, lt-ltb (n % 10) 10 d)

-- the figures of a number below ten, and of any other
figures_last : (k n : ℕ) → n < 10 → figures (suc k) n ≡ figure n ∷ []
figures_last k n h = rw (lt-ltb n 10 h)

figures_before : (k n : ℕ) → 10 ≤ n → figures (suc k) n ≡ figures k (n / 10) ++ (figure (n % 10) ∷ [])
figures_before k n h = rw (le-ltb n 10 h)

-- std may have room for more digits than the number has
onto_figures : (j k n : ℕ) (s : List ℕ) → j ≤ k → n < 10 ^ suc j → digits_onto (suc k) 10 false n s ≡ figures (suc j) n ++ s
onto_figures zero k n s l h =
    let p = pow-suc 10 0 in
    let i : n < 10 = omega arith in
    rw (figures_last 0 n i) (last k n s i)
onto_figures (suc j) zero n s l h = absurd (not-suc-le-zero l)
onto_figures (suc j) (suc k) n s l h =
    go (ltb n 10) refl (λ t. onto_figures j k (n / 10) (figure (n % 10) ∷ s) (le_of_suc-le-suc l) t) where
      go : (t : Bool) → ltb n 10 ≡ t
          → (n / 10 < 10 ^ suc j → digits_onto (suc k) 10 false (n / 10) (figure (n % 10) ∷ s) ≡ figures (suc j) (n / 10) ++ (figure (n % 10) ∷ s))
          → digits_onto (suc (suc k)) 10 false n s ≡ figures (suc (suc j)) n ++ s
      go true e f = let i = ltb-true n 10 e in rw (figures_last (suc j) n i) (last (suc k) n s i)
      go false e f =
          let i = ltb-false n 10 e in
          let p = pow-suc 10 (suc j) in
          let t : n / 10 < 10 ^ suc j = omega arith in
          let more = append_assoc (figures (suc j) (n / 10)) (figure (n % 10) ∷ []) s in
          rw (figures_before (suc j) n i, more) (before (suc k) n s i ∙ f t)

-- what std prints
pub decimal_printed : (n : ℕ) → n < 2 ^ 64 → printed n ≡ decimal n
unfolding decimal digits
decimal_printed n h = onto_figures 19 63 n [] (omega arith) (omega arith) ∙ append-nil (figures 20 n)
