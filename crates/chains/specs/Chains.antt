-- What the walk along a chain of a directory keeps, whatever numbers the places have. Assumes nothing.
use Rattle.std.specs.Prelude.{◌≡◌, List, ℕ, ◌+◌, ◌-◌, ◌/◌, ◌≤◌, ◌<◌, length, get_or}
use Rattle.std.proofs.Common.{arith}
use Rattle.chains.specs.Links.{Linked, next_owner, own_head, owner}

-- the number of heads
abbrev pub half : List ℕ → ℕ
half d = length d / 2

-- the links of the places up to p lead to higher places
pub record Rising (d : List ℕ) (p : ℕ) : Type 0 where
  pub fits : p < half d
  pub rises : (j : ℕ) → j ≤ p → j < get_or d (half d + j) 0

-- x is a cell of the chain of h that stands before p, whatever the numbers of the places are
pub record Before (d : List ℕ) (h p x : ℕ) : Type 0 where
  pub inside : x < half d + p
  pub owned : (ns : List ℕ) → Linked (half d) ns d → p ≤ length ns → owner (half d) ns x ≡ h

pub walk_start : (d : List ℕ) (h p : ℕ) → h < half d → Before d h p h
walk_start d h p z = record { inside = omega arith; owned = λ ns s i. own_head (half d) ns h z }

pub walk_more : {d : List ℕ} {h p x : ℕ} → Before d h p x → (c : ℕ) → h < half d → c ≡ get_or d x 0 → c < p
    → Before d h p (half d + c)
walk_more {d} {h} {p} {x} w c z e l =
    let a = w.inside in
    record {
      inside = omega arith;
      owned = λ ns s i. next_owner (half d) ns d s h x c z (omega arith) (w.owned ns s i) e (omega arith);
    }

pub walk_less : {d : List ℕ} {p : ℕ} → Rising d p → (c u : ℕ) → c < p → u ≡ get_or d (half d + c) 0 → p - u < p - c
walk_less s c u l e = let r = s.rises c (omega arith) in omega arith

pub ruleset chains = (walk_start, walk_more, walk_less)
