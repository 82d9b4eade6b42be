-- Rows that are added one after the other: what is asked for the first of them, and what is left for the next.
-- Assumes nothing.
use Rattle.std.specs.Prelude.{◌≡◌, false, List, [], ◌∷◌, ℕ, ◌≤◌}
use Rattle.std.proofs.Common.{arith}
use Rattle.record.specs.Codes.{kind_free}
use Rattle.record.specs.declared.row.Row.{Row}
use Rattle.model.specs.Rows.{is}
use Rattle.upkeep.specs.Added.{Added, Room, room_first, room_next}
use Rattle.directory.specs.Directory.{Directory}
use Rattle.directory.specs.declared.totals.Totals.{Totals}

module _ {b d : List ℕ} {t : Totals} {n : Row} {ns : List Row} (s : Room (n ∷ ns) b d t) where
  pub add_asks : {r : Row} → is kind_free n ≡ false → r ≡ n
      → Directory b d t × ((1 ≤ t.free) × (is kind_free r ≡ false))
  add_asks e f = let h = s.room in (s.directory, (omega arith, rw f e))

  pub add_first : Room (n ∷ []) b d t
  add_first = room_first (n ∷ []) ns s

  pub add_next : {b₁ d₁ : List ℕ} {t₁ : Totals} → Added (n ∷ []) b t b₁ d₁ t₁ → Room ns b₁ d₁ t₁
  add_next a = room_next (n ∷ []) ns s a
