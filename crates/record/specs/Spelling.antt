-- "A symbol is 1 to 7 of A-Z, 0-9, "." and "-", then zeros to byte 23. Byte 23 is the fence." The rule is local: the
-- first byte is a letter, each later one is zero or a letter that follows one, and the last is zero. `means_symbol`:
-- that is what the sentence says. Assumes nothing.
use Rattle.std.specs.Prelude.{◌≡◌, refl, Bool, true, false, not, ◌&&◌, ◌||◌, List, [], ◌∷◌, ℕ, zero, suc, ◌≤◌, ◌<◌, length, get_or, leb, eqb}
use Rattle.std.proofs.Common.{sym, ap, subst, ◌∙◌, arith, le_of_suc-le-suc, eqb-true, eq-eqb, ne_eqb}
use Rattle.std.proofs.lemmas.Bool.{false≢true}
use Rattle.laws.specs.Tests.{Means, and_left, and_right, and_both}
use Rattle.record.specs.Symbol.{symbol_bytes}
use Rattle.record.specs.declared.symbol.Symbol.{Symbol}

-- A-Z, 0-9, "." and "-"
abbrev pub letter : ℕ → Bool
letter b = (leb 65 b && leb b 90) || (leb 48 b && leb b 57) || eqb b 46 || eqb b 45

-- b may follow a
abbrev pub follows : ℕ → ℕ → Bool
follows a b = eqb b 0 || (letter b && not (eqb a 0))

abbrev closed_from : Bool → ℕ → List ℕ → Bool
closed_from t a [] = false
closed_from t a (b ∷ []) = t && eqb b 0
closed_from t a (b ∷ c ∷ cs) = closed_from (t && follows a b) b (c ∷ cs)

-- these bytes are a symbol
abbrev pub symbolic : List ℕ → Bool
symbolic [] = false
symbolic (a ∷ bs) = closed_from (letter a) a bs

-- the bytes of the field are
unfoldable pub symbol_ok : Symbol → Bool
symbol_ok s = symbolic (symbol_bytes s)

-- ---- what it means: so many letters, and then zeros to the end, at least one
pub record Word (bs : List ℕ) : Type 0 where
  pub long : ℕ
  pub some : 1 ≤ long
  pub fenced : long < length bs
  pub letters : (i : ℕ) → i < long → letter (get_or bs i 0) ≡ true
  pub zeros : (i : ℕ) → long ≤ i → get_or bs i 0 ≡ 0

abbrev pub Spelt : Symbol → Type 0
Spelt s = Word (symbol_bytes s)

no_letter : (b : ℕ) → letter b ≡ true → b ≡ 0 → ⊥
no_letter b e z = false≢true (sym (ap letter z) ∙ e)

first_true : (t : Bool) (a : ℕ) (bs : List ℕ) → closed_from t a bs ≡ true → t ≡ true
first_true t a [] e = absurd (false≢true e)
first_true t a (b ∷ []) e = and_left t (eqb b 0) e
first_true t a (b ∷ c ∷ cs) e = and_left t (follows a b) (first_true (t && follows a b) b (c ∷ cs) e)

-- after a zero only zeros
after_zero : (a b : ℕ) → a ≡ 0 → follows a b ≡ true → b ≡ 0
after_zero a b z e = go (eqb b 0) (letter b) refl (subst (λ (n : ℕ). follows n b ≡ true) z e)
  where
    go : (u v : Bool) → eqb b 0 ≡ u → (u || (v && false)) ≡ true → b ≡ 0
    go true v p h = eqb-true b 0 p
    go false true p h = absurd (false≢true h)
    go false false p h = absurd (false≢true h)

zeros_on : (t : Bool) (a : ℕ) (bs : List ℕ) → a ≡ 0 → closed_from t a bs ≡ true → (i : ℕ) → get_or bs i 0 ≡ 0
zeros_on t a [] z e i = refl
zeros_on t a (b ∷ []) z e zero = eqb-true b 0 (and_right t (eqb b 0) e)
zeros_on t a (b ∷ []) z e (suc i) = refl
zeros_on t a (b ∷ c ∷ cs) z e i =
    let f = first_true (t && follows a b) b (c ∷ cs) e in
    let b0 = after_zero a b z (and_right t (follows a b) f) in
    at i b0 (zeros_on (t && follows a b) b (c ∷ cs) b0 e)
  where
    at : (i : ℕ) → b ≡ 0 → ((j : ℕ) → get_or (c ∷ cs) j 0 ≡ 0) → get_or (b ∷ c ∷ cs) i 0 ≡ 0
    at zero h k = h
    at (suc j) h k = k j

-- the letters that follow, and the zeros behind them
record Tail (bs : List ℕ) : Type 0 where
  long : ℕ
  fenced : long < length bs
  letters : (i : ℕ) → i < long → letter (get_or bs i 0) ≡ true
  zeros : (i : ℕ) → long ≤ i → get_or bs i 0 ≡ 0

none : (bs : List ℕ) → 0 < length bs → ((i : ℕ) → get_or bs i 0 ≡ 0) → Tail bs
none bs l z = record { long = 0; fenced = l; letters = λ i h. absurd (omega arith); zeros = λ i h. z i }

one_more : (b : ℕ) (bs : List ℕ) → letter b ≡ true → Tail bs → Tail (b ∷ bs)
one_more b bs e t = record { long = suc t.long; fenced = omega (arith, t.fenced); letters = inner; zeros = outer }
  where
    inner : (i : ℕ) → i < suc t.long → letter (get_or (b ∷ bs) i 0) ≡ true
    inner zero h = e
    inner (suc i) h = t.letters i (le_of_suc-le-suc h)

    outer : (i : ℕ) → suc t.long ≤ i → get_or (b ∷ bs) i 0 ≡ 0
    outer zero h = absurd (omega arith)
    outer (suc i) h = t.zeros i (le_of_suc-le-suc h)

tail_of : (t : Bool) (a : ℕ) (bs : List ℕ) → closed_from t a bs ≡ true → Tail bs
tail_of t a [] e = absurd (false≢true e)
tail_of t a (b ∷ []) e = none (b ∷ []) (omega arith) (λ i. zeros_on t 0 (b ∷ []) refl e i)
tail_of t a (b ∷ c ∷ cs) e =
    let f = and_right t (follows a b) (first_true (t && follows a b) b (c ∷ cs) e) in
    by_case (eqb b 0) (letter b) refl refl f (tail_of (t && follows a b) b (c ∷ cs) e)
  where
    by_case : (u v : Bool) → eqb b 0 ≡ u → letter b ≡ v → (u || (v && not (eqb a 0))) ≡ true → Tail (c ∷ cs)
        → Tail (b ∷ c ∷ cs)
    by_case true v p q h ih =
        let b0 = eqb-true b 0 p in
        none (b ∷ c ∷ cs) (omega arith) (all b0)
      where
        all : b ≡ 0 → (i : ℕ) → get_or (b ∷ c ∷ cs) i 0 ≡ 0
        all z zero = z
        all z (suc i) = zeros_on (t && follows a b) b (c ∷ cs) z e i
    by_case false true p q h ih = one_more b (c ∷ cs) q ih
    by_case false false p q h ih = absurd (false≢true h)

follows_zero : (a b : ℕ) → b ≡ 0 → follows a b ≡ true
follows_zero a b z = rw (eq-eqb b 0 z)

follows_letter : (a b : ℕ) → letter b ≡ true → (a ≡ 0 → ⊥) → follows a b ≡ true
follows_letter a b e n = rw (ne_eqb b 0 (no_letter b e), e, ne_eqb a 0 n)

closed : (t : Bool) (a n : ℕ) (bs : List ℕ) → t ≡ true → n < length bs → (0 < n → a ≡ 0 → ⊥)
    → ((i : ℕ) → i < n → letter (get_or bs i 0) ≡ true) → ((i : ℕ) → n ≤ i → get_or bs i 0 ≡ 0)
    → closed_from t a bs ≡ true
closed t a n [] e l h p z = absurd (omega arith)
closed t a zero (b ∷ []) e l h p z = and_both t (eqb b 0) e (eq-eqb b 0 (z 0 (omega arith)))
closed t a (suc n) (b ∷ []) e l h p z = absurd (omega arith)
closed t a zero (b ∷ c ∷ cs) e l h p z =
    closed (t && follows a b) b 0 (c
    ∷ cs) (and_both t (follows a b) e (follows_zero a b (z 0 (omega arith)))) (omega arith)
    (λ k. absurd (omega arith)) (λ i k. absurd (omega arith)) (λ i k. z (suc i) (omega arith))
closed t a (suc n) (b ∷ c ∷ cs) e l h p z =
    let lb = p 0 (omega arith) in
    let f = follows_letter a b lb (h (omega arith)) in
    closed (t && follows a b) b n (c ∷ cs) (and_both t (follows a b) e f) (omega arith) (λ k. no_letter b lb)
    (λ i k. p (suc i) (omega arith)) (λ i k. z (suc i) (omega arith))

means_symbolic : (bs : List ℕ) → Means (symbolic bs) (Word bs)
unfolding one_more
means_symbolic [] = record { shows = λ e. absurd (false≢true e); holds = λ w. absurd (omega (arith, w.fenced)) }
means_symbolic (a ∷ bs) = record {
  shows = λ e. word (first_true (letter a) a bs e) (tail_of (letter a) a bs e);
  holds = λ w. back w.long w.some w.fenced w.letters w.zeros;
}
  where
    word : letter a ≡ true → Tail bs → Word (a ∷ bs)
    word e t =
        let u = one_more a bs e t in
        record { long = suc t.long; some = omega arith; fenced = u.fenced; letters = u.letters; zeros = u.zeros }

    back : (n : ℕ) → 1 ≤ n → n < length (a ∷ bs) → ((i : ℕ) → i < n → letter (get_or (a ∷ bs) i 0) ≡ true)
        → ((i : ℕ) → n ≤ i → get_or (a ∷ bs) i 0 ≡ 0) → closed_from (letter a) a bs ≡ true
    back zero s f p z = absurd (omega arith)
    back (suc n) s f p z =
        closed (letter a) a n bs (p 0 (omega arith)) (omega arith) (λ k. no_letter a (p 0 (omega arith)))
        (λ i k. p (suc i) (omega arith)) (λ i k. z (suc i) (omega arith))

pub means_symbol : (s : Symbol) → Means (symbol_ok s) (Spelt s)
unfolding symbol_ok
means_symbol s = means_symbolic (symbol_bytes s)
