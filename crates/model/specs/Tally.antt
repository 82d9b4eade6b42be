-- The tally: "the trades over a square of five trade types by three statuses", of a book of at most 1,024 records.
-- Assumes nothing.
use Rattle.std.specs.Prelude.{Bool, true, false, ◌&&◌, List, [], ◌∷◌, map, ℕ, eqb, length}
use Rattle.laws.specs.Search.{count}
use Rattle.record.specs.Codes.{completed, kind_trade, pending, submitted, tlb, tls, tmb, tms, tsl}
use Rattle.record.specs.declared.row.Row.{Row}
use Rattle.model.specs.declared.Status.{Status}
use Rattle.model.specs.declared.Status.TheVariants.{BadBook, Done, Unsound}
use Rattle.model.specs.Rows.{is, rows, whole_records}
use Rattle.model.specs.Sound.{sound}

abbrev tally_records : ℕ
tally_records = 1_024

abbrev pub in_square : ℕ → ℕ → Row → Bool
in_square form status r = is kind_trade r && eqb r.form form && eqb r.status status

unfoldable pub tallied : List Row → ℕ → List ℕ
tallied rs form = map (λ (s : ℕ). count (in_square form s) rs) (pending ∷ submitted ∷ completed ∷ [])

unfoldable pub tally : List Row → List (List ℕ)
tally rs = map (tallied rs) (tmb ∷ tms ∷ tlb ∷ tls ∷ tsl ∷ [])

abbrev select : Bool → Status → Status → Status
select true a b = a
select false a b = b

-- what refuses a book: its length for this many records at most, or a rule
unfoldable pub book_status : ℕ → List ℕ → Status
book_status most b = select (whole_records most (length b)) (select (sound (rows b)) Done Unsound) BadBook

unfoldable pub tally_status : List ℕ → Status
tally_status b = book_status tally_records b
