-- What a call posts is rows put in the places of others: free places are the first to give way. Assumes nothing.
use Rattle.std.specs.Prelude.{◌≡◌, refl, List, [], ◌∷◌, ◌++◌, map}
use Rattle.std.proofs.Common.{ap, sym, ◌∙◌}
use Rattle.laws.specs.Change.{fill, put, puts, puts_append, written}
use Rattle.record.specs.declared.row.Row.{Row}
use Rattle.model.specs.Plan.{Posting, posted}
use Rattle.model.specs.Rows.{nothing, same_row}

abbrev pub adds : List Row → List (Row × Row)
adds hs = map (λ (h : Row). (nothing, h)) hs

abbrev pub frees : List Row → List (Row × Row)
frees os = map (λ (o : Row). (o, nothing)) os

abbrev pub writes : Posting → List (Row × Row)
writes p = adds p.added ++ (p.changes ++ frees p.freed)

pub fill_puts : (hs l : List Row) → fill same_row nothing hs l ≡ puts same_row (adds hs) l
unfolding fill puts
fill_puts [] l = refl
fill_puts (h ∷ hs) l = fill_puts hs (put same_row nothing h l)

pub posted_puts : (p : Posting) (rs : List Row) → posted p rs ≡ puts same_row (writes p) rs
unfolding posted written
posted_puts p rs =
    ap (puts same_row (p.changes ++ frees p.freed)) (fill_puts p.added rs)
    ∙ sym (puts_append same_row (adds p.added) (p.changes ++ frees p.freed) rs)
