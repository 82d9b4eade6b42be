-- A rule in two parts, as the code has it: the ranges of the fields, and what is no range. Assumes nothing.
use Rattle.std.specs.Prelude.{◌≡◌, refl, Bool, true, false, ◌&&◌, List}
use Rattle.std.proofs.Common.{◌∙◌}
use Rattle.laws.specs.Tests.{and_left, and_right}
use Rattle.record.specs.Spelling.{symbol_ok}
use Rattle.record.specs.declared.row.Row.{Row}
use Rattle.record.specs.declared.symbol.Symbol.{Symbol}
use Rattle.kinds.specs.declared.limits.Beyond.{Beyond}
use Rattle.rules.specs.Ranges.{Range, limited}
use Rattle.rules.specs.Rules.{all_of, compared, near32, near64, obeys, shaped, spelled}

-- what is no range, after a test of the ranges
unfoldable pub beyond : Bool → Beyond → Row → Bool
beyond t u r =
    all_of
    (all_of (all_of (all_of t (compared u.clause r)) (near64 u.m1 r.m1)) (near32 u.n1n2 r.n1 r.n2))
    (spelled u.symbol r.symbol)

pub in_two : (u : Beyond) (r : Row) {fs gs : List Range} {x y : Bool} → fs ≡ gs → x ≡ limited r fs → y ≡ beyond x u r
    → y ≡ obeys (shaped gs u) r
unfolding beyond obeys
in_two u r e h k = rw (k, h, e)

-- the tests in turn, as the code makes them: a symbol is read where it is asked for and all else is right
asked : (t b : Bool) (s : Symbol) → (t && b) ≡ true → symbol_ok s ≡ all_of t (spelled b s)
asked t b s e = rw (and_left t b e, and_right t b e)

not_asked : (t b : Bool) (s : Symbol) → (t && b) ≡ false → t ≡ all_of t (spelled b s)
not_asked true b s e = rw e
not_asked false true s e = refl
not_asked false false s e = refl

module _ (t : Bool) (u : Beyond) (r : Row) {t₁ t₂ t₃ : Bool} (e₁ : t₁ ≡ all_of t (compared u.clause r))
    (e₂ : t₂ ≡ all_of t₁ (near64 u.m1 r.m1)) (e₃ : t₃ ≡ all_of t₂ (near32 u.n1n2 r.n1 r.n2)) where
  in_turn : all_of t₃ (spelled u.symbol r.symbol) ≡ beyond t u r
  unfolding beyond
  in_turn = rw (e₃, e₂, e₁)

  pub with_symbol : {x : Bool} → (t₃ && u.symbol) ≡ true → x ≡ symbol_ok r.symbol → x ≡ beyond t u r
  with_symbol h e = e ∙ asked t₃ u.symbol r.symbol h ∙ in_turn

  pub without_symbol : (t₃ && u.symbol) ≡ false → t₃ ≡ beyond t u r
  without_symbol h = not_asked t₃ u.symbol r.symbol h ∙ in_turn
