-- Eight bytes copied into their places are those bytes set one after the other.
use Rattle.std.proofs.Common.{◌≡◌, ◌≤◌, List, ℕ, ap, refl, sym, ◌∙◌, length, arith, take, drop, ◌++◌}
use Rattle.std.proofs.lemmas.List.{take_all}
use Rattle.std.proofs.lemmas.Slice.{put_mid-paste}
use Rattle.std.proofs.lemmas.List.Edits.{sets, sets-eq}
use borrow.Rule.Slice.PartMut.{put_mid}
use Rattle.record.specs.Symbol.{symbol_bytes}
use Rattle.record.proofs.row.put_symbol.Goals as goal

laid : (b y s : List ℕ) → y ≡ s → length s ≡ 8 → 24 ≤ length b → put_mid 16 8 b y ≡ sets b 16 s
laid b y s e n h =
    put_mid-paste 16 8 b y s 8 e refl (sym n)
    ∙ ap (λ (r : List ℕ). take 16 b ++ r ++ drop 24 b) (take_all 8 s (omega arith))
    ∙ sym (rw n at (sets-eq s b 16 (omega arith)))

pub returns : goal.returns
returns c =
    laid c.args.bytes.now c.copy_from_slice.new.self (symbol_bytes c.args.x)
    (c.copy_from_slice.ensures.after ∙ c.spelled.ensures) refl (omega arith)
