-- Marks, one number a slot: 1 where a place that was passed has the slot, 0 where none has. Where a mark is still 0, no
-- place that was passed has its slot. Assumes nothing.
use Rattle.std.specs.Prelude.{◌≡◌, refl, Bool, true, false, List, ℕ, ◌<◌, eqb, length, get_or, set}
use Rattle.std.proofs.Common.{sym, ◌∙◌, arith, get_or-set_same, get_or-set_other, eqb-true}
use Rattle.std.proofs.lemmas.Bool.{eqb-false}

pub record Marked (slot : ℕ → ℕ) (P : ℕ → Type 0) (m : List ℕ) : Type 0 where
  pub none : (s : ℕ) → ((j : ℕ) → P j → slot j ≡ s → ⊥) → get_or m s 0 ≡ 0
  pub each : (j : ℕ) → P j → get_or m (slot j) 0 ≡ 1

module _ {slot : ℕ → ℕ} {P : ℕ → Type 0} {m : List ℕ} (k : Marked slot P m) where
  -- the same places, otherwise told
  pub marked_same : (Q : ℕ → Type 0) → ((j : ℕ) → P j → Q j) → ((j : ℕ) → Q j → P j) → Marked slot Q m
  marked_same Q f g = record {
    none = λ s h. k.none s (λ j p. h j (f j p));
    each = λ j u. k.each j (g j u);
  }

  -- one more place, and its slot marked
  pub marked_more : (Q : ℕ → Type 0) (c : ℕ) → slot c < length m → ((j : ℕ) → P j → Q j) → Q c
      → ((j : ℕ) → Q j → (j ≡ c → ⊥) → P j) → Marked slot Q (set m (slot c) 1)
  marked_more Q c i f t g = record { none = unmarked; each = λ j u. marked j u (eqb (slot j) (slot c)) refl }
    where
      unmarked : (s : ℕ) → ((j : ℕ) → Q j → slot j ≡ s → ⊥) → get_or (set m (slot c) 1) s 0 ≡ 0
      unmarked s h =
          get_or-set_other m (slot c) s 1 0 (λ e. h c t (sym e)) ∙ k.none s (λ j p. h j (f j p))

      marked : (j : ℕ) → Q j → (u : Bool) → eqb (slot j) (slot c) ≡ u → get_or (set m (slot c) 1) (slot j) 0 ≡ 1
      marked j v true e = rw (eqb-true (slot j) (slot c) e) (get_or-set_same m (slot c) 1 0 i)
      marked j v false e =
          let n = eqb-false (slot j) (slot c) e in
          get_or-set_other m (slot c) (slot j) 1 0 n ∙ k.each j (g j v (λ z. n (rw z)))

  pub still_free : (s : ℕ) → get_or m s 0 ≡ 0 → (j : ℕ) → P j → slot j ≡ s → ⊥
  still_free s z j p e = let o : get_or m s 0 ≡ 1 = rw e at (k.each j p) in omega arith

-- no place is passed yet
pub marked_none : (slot : ℕ → ℕ) (P : ℕ → Type 0) (m : List ℕ) → ((s : ℕ) → get_or m s 0 ≡ 0) → ((j : ℕ) → P j → ⊥)
    → Marked slot P m
marked_none slot P m z n = record { none = λ s h. z s; each = λ j p. absurd (n j p) }
