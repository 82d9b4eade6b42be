-- What a read gives stands after what was there, and both together are what the input lost.
use Rattle.std.proofs.Common.{◌≡◌, ℕ, ◌+◌, ◌≤◌, List, ◌++◌, rules, length, take, sym, ap, ◌∙◌, subst, length-take-le, ◌-◌}
use Rattle.std.proofs.lemmas.List.{take-append-le}
use Rattle.std.proofs.Math.Seq.{take-append-add}
use Rattle.std.specs.Io.KnownBytes.{Consumes}
use Rattle.std.proofs.KnownBytes.{Consumes-trans}
use borrow.Rule.Slice.PartMut.{put_mid, post_of}
use Rattle.tally.proofs.input.read_full.Goals as goal

-- the front of an area in which a part was written
front : (a k n : ℕ) (xs ys : List ℕ) → a ≤ length xs → n ≤ length ys → take (a + n) (put_mid a k xs ys) ≡ take a xs ++ take n ys
front a k n xs ys within fits =
    let after = post_of a k xs in
    let l : length (take a xs) ≡ a = length-take-le a xs within in
    let at = subst (λ m. take (m + n) (take a xs ++ (ys ++ after)) ≡ take a xs ++ take n (ys ++ after)) l (take-append-add (take a xs) (ys ++ after) n) in
    at ∙ ap (λ l. take a xs ++ l) (take-append-le n ys after fits)

pub loop-done-preserved : goal.loop-done-preserved
loop-done-preserved g c =
    let area = c.loop-done in
    let room = length area.area - area.done in
    let before = area.invariant in
    let joined = front area.done room c.in-Ok.n area.area c.read.new.buf before.0 c.in-Ok.ensures.bound.0 in
    let both = Consumes-trans _ _ _ _ _ before.1 c.in-Ok.ensures.bytes.0 in
    (search rules, subst (Consumes _ _) (sym joined) both)
