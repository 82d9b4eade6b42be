-- A number that is none of those below a bound. Assumes nothing.
use Rattle.std.specs.Prelude.{◌≡◌, ℕ, zero, suc, ◌≤◌}
use Rattle.std.proofs.Common.{sym, arith}
use Rattle.std.proofs.Math.Arith.{lt_of_le-ne}

-- x is none of 0 to k - 1, as the last arm of a `match` on those numbers knows it
abbrev pub Missed : ℕ → ℕ → Type 0
Missed zero x = Unit {0}
Missed (suc k) x = Missed k x × (x ≡ k → ⊥)

pub missed : (k x : ℕ) → Missed k x → k ≤ x
missed zero x h = omega arith
missed (suc k) x h = lt_of_le-ne (missed k x h.0) (λ e. h.1 (sym e))
