-- A symbol as a value: its bytes, its number for the order of keys and for the grid, and the test of equality. Nothing
-- above this crate and `kinds` knows how long it is. Assumes nothing.
use Rattle.std.specs.Prelude.{◌≡◌, refl, Bool, true, false, List, ℕ, ◌^◌, eqb}
use Rattle.std.proofs.Common.{ap, eqb-true, eq-eqb, ne_eqb}
use Rattle.std.proofs.lemmas.Bool.{eqb-false}
use Rattle.laws.specs.Tests.{Means}
use Rattle.record.specs.Bytes.{be, bytes_of, spelt}
use Rattle.record.specs.declared.symbol.Symbol.{Symbol}

-- its length in bytes, and the numbers that they make
abbrev pub symbol_long : ℕ
symbol_long = 8

abbrev pub symbol_base : ℕ
symbol_base = 2 ^ 64

-- the symbol's number, the first byte highest: the one way from a symbol to a number, and back
abbrev pub symbol_number : Symbol → ℕ
symbol_number s = s.0

abbrev pub numbered : ℕ → Symbol
numbered x = record { 0 = x }

-- the symbol of a row that has none
abbrev pub no_symbol : Symbol
no_symbol = numbered 0

-- the symbol at a place, and its bytes again
abbrev pub symbol_at : List ℕ → ℕ → Symbol
symbol_at l a = numbered (be symbol_long l a)

abbrev pub symbol_bytes : Symbol → List ℕ
symbol_bytes s = spelt symbol_long (symbol_number s)

-- the symbol of these bytes, zeros behind them
abbrev pub spelling : List ℕ → Symbol
spelling l = symbol_at l 0

-- a number in a symbol's bytes, little-endian as every number is
abbrev pub holding : ℕ → Symbol
holding x = spelling (bytes_of symbol_long x)

unfoldable pub same_symbol : Symbol → Symbol → Bool
same_symbol a b = eqb (symbol_number a) (symbol_number b)

-- equal numbers, equal symbols
pub symbol_eq : {a b : Symbol} → symbol_number a ≡ symbol_number b → a ≡ b
symbol_eq e = ap numbered e

-- the test tells equality
pub same_symbol_holds : (a b : Symbol) → same_symbol a b ≡ true → a ≡ b
unfolding same_symbol
same_symbol_holds a b e = symbol_eq {a = a} {b = b} (eqb-true (symbol_number a) (symbol_number b) e)

pub symbol_same : (a b : Symbol) → a ≡ b → same_symbol a b ≡ true
unfolding same_symbol
symbol_same a b e = eq-eqb (symbol_number a) (symbol_number b) (ap symbol_number e)

pub symbol_itself : (a : Symbol) → same_symbol a a ≡ true
symbol_itself a = symbol_same a a refl

pub other_symbol : (a b : Symbol) → same_symbol a b ≡ false → a ≡ b → ⊥
unfolding same_symbol
other_symbol a b e h = eqb-false (symbol_number a) (symbol_number b) e (ap symbol_number h)

pub symbol_other : (a b : Symbol) → (a ≡ b → ⊥) → same_symbol a b ≡ false
unfolding same_symbol
symbol_other a b n = ne_eqb (symbol_number a) (symbol_number b) (λ e. n (symbol_eq {a = a} {b = b} e))

pub means_same : (a b : Symbol) → Means (same_symbol a b) (a ≡ b)
means_same a b = record { shows = same_symbol_holds a b; holds = symbol_same a b }
