-- Two runs of one machine whose steps are each one's own: what the steps of one see and answer is decided by their own
-- order. Both runs are walked at once: a step of another changes nothing of it, and a step of its own stands in both
-- runs at the same place of its own list. Assumes nothing.
use Rattle.std.specs.Prelude.{◌≡◌, refl, Bool, true, false}
use Rattle.std.proofs.Math.Path.{sym, subst}
use Rattle.std.proofs.Common.{◌∙◌}
use mathlib.Core.List.{List, [], ◌∷◌, nil≢cons, cons≢nil, head-eq_of_cons-eq, tail-eq_of_cons-eq}
use Rattle.laws.specs.Search.{keep}
use Rattle.preserved.specs.Cases.{by_cases, cond_no, cond_yes}

module _ {S R O : Type 0} (step : S → R → O × S) where
  -- what a run answers, one by one, and where it ends
  unfoldable pub trace : S → List R → List (R × O)
  trace s [] = []
  trace s (r ∷ rs) = (r, (step s r).0) ∷ trace (step s r).1 rs

  unfoldable pub final : S → List R → S
  final s [] = s
  final s (r ∷ rs) = final (step s r).1 rs

  -- every answer of the run is fine
  unfoldable pub Fines : (O → Type 0) → S → List R → Type 0
  Fines F s [] = Unit {0}
  Fines F s (r ∷ rs) = F (step s r).0 × Fines F (step s r).1 rs

module _ {S R O : Type 0} (step : S → R → O × S) (own : R → Bool) (Fine : O → Type 0) (Inv : S → Type 0)
    (Same : S → S → Type 0) (inv : (s : S) (r : R) → Inv s → Inv (step s r).1)
    (frame_l : (s t : S) (r : R) → Inv s → own r ≡ false → Same s t → Same (step s r).1 t)
    (frame-r : (s t : S) (r : R) → Inv t → own r ≡ false → Same s t → Same s (step t r).1)
    (local : (s t : S) (r : R) → Inv s → Inv t → own r ≡ true → Fine (step s r).0 → Fine (step t r).0 → Same s t
    → ((step s r).0 ≡ (step t r).0) × Same (step s r).1 (step t r).1) where
  abbrev Goal : S → S → List R → List R → Type 0
  Goal s t xs ys =
      (keep (λ p. own p.0) (trace step s xs) ≡ keep (λ p. own p.0) (trace step t ys))
      × Same (final step s xs) (final step t ys)

  -- the first run is over
  ended : (s t : S) (ys : List R) → Inv t → [] ≡ keep own ys → Same s t → Goal s t [] ys
  unfolding trace final keep
  ended s t [] i e q = (refl, q)
  ended s t (y ∷ ys) i e q =
      by_cases (own y)
      (λ h. absurd (nil≢cons (rw h at e)))
      (λ h.
      let g = ended s (step t y).1 ys (inv t y i) (rw h at e) (frame-r s t y i h q) in
      (g.0 ∙ sym (cond_no _ _ h), g.1))

  -- what is known of the rest of the first run, whatever the second is
  abbrev Rest : S → List R → Type 0
  Rest s xs =
      (t : S) (ys : List R) → Inv t → Fines step Fine t ys → keep own xs ≡ keep own ys → Same s t → Goal s t xs ys

  -- both stand at the same step of its own
  meets : (s t : S) (x : R) (xs ys : List R) → own x ≡ true → Inv s → Inv t → Fine (step s x).0
      → Fine (step t x).0 → Fines step Fine (step t x).1 ys → keep own xs ≡ keep own ys → Same s t
      → Rest (step s x).1 xs → Goal s t (x ∷ xs) (x ∷ ys)
  unfolding trace final keep
  meets s t x xs ys o i j f f' g e q ih =
      let l = local s t x i j o f f' q in
      let z = ih (step t x).1 ys (inv t x j) g e l.1 in
      (cond_yes _ _ o ∙ cc (l.0, z.0) ∙ sym (cond_yes _ _ o), z.1)

  -- the first run stands at a step of its own: the second is run up to the same step
  stands : (s t : S) (x : R) (xs ys : List R) → own x ≡ true → Inv s → Inv t → Fine (step s x).0
      → Fines step Fine t ys → x ∷ keep own xs ≡ keep own ys → Same s t → Rest (step s x).1 xs → Goal s t (x ∷ xs) ys
  unfolding trace final keep Fines
  stands s t x xs [] o i j f g e q ih = absurd (cons≢nil e)
  stands s t x xs (y ∷ ys) o i j f g e q ih =
      by_cases (own y)
      (λ h.
      let e' : x ∷ keep own xs ≡ y ∷ keep own ys = e ∙ cond_yes _ _ h in
      subst (λ r. Fines step Fine t (r ∷ ys) → Goal s t (x ∷ xs) (r ∷ ys)) (head-eq_of_cons-eq e')
      (λ k. meets s t x xs ys o i j f k.0 k.1 (tail-eq_of_cons-eq e') q ih) g)
      (λ h.
      let z = stands s (step t y).1 x xs ys o i (inv t y j) f g.1 (rw h at e) (frame-r s t y j h q) ih in
      (z.0 ∙ sym (cond_no _ _ h), z.1))

  pub two_runs : (s t : S) (xs ys : List R) → Inv s → Inv t → Fines step Fine s xs → Fines step Fine t ys
      → keep own xs ≡ keep own ys → Same s t → Goal s t xs ys
  unfolding trace final keep Fines
  two_runs s t [] ys i j f g e q = ended s t ys j e q
  two_runs s t (x ∷ xs) ys i j f g e q =
      by_cases (own x)
      (λ h.
      stands s t x xs ys h i j f.0 g (sym (cond_yes _ _ h) ∙ e) q
      (λ t' ys' j' g' e' q'. two_runs (step s x).1 t' xs ys' (inv s x i) j' f.1 g' e' q'))
      (λ h.
      let z = two_runs (step s x).1 t xs ys (inv s x i) j f.1 g (rw h at e) (frame_l s t x i h q) in
      (cond_no _ _ h ∙ z.0, z.1))
