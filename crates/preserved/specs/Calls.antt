-- What a call leaves: a sound book on bytes, and what its decision has to leave for that.
use Rattle.std.specs.Prelude.{◌≡◌, Bool, ◌&&◌, List, ℕ, ◌*◌, ◌/◌, ◌%◌, ◌≤◌, eqb, leb, length}
use Rattle.std.proofs.Math.Path.{refl}
use Rattle.std.proofs.Common.{ap, ◌∙◌, arith, eqb-true, leb-true}
use Rattle.std.proofs.Math.Bool.{true, false}
use Rattle.std.proofs.lemmas.Bool.{false≢true}
use Rattle.laws.specs.Tests.{and_left, and_right}
use Rattle.record.specs.Grid.{decode}
use Rattle.record.specs.declared.row.Row.{Row}
use Rattle.model.specs.Status.{is_done}
use Rattle.model.specs.Call.{Call, Reply, a_feed, a_lookup, a_result, an_order, choose, decide_of, fields_of, lengths_of}
use Rattle.model.specs.Call.{replied, run, shell}
use Rattle.model.specs.Plan.{Outcome, pick, refused}
use Rattle.model.specs.Result.{result}
use Rattle.model.specs.Rows.{bytes, most_records, record_size, rows, whole_records}
use Rattle.model.specs.Sound.{sound}
use Rattle.model.proofs.Unposted.{lookup_rows}
use Rattle.model.specs.declared.Status.TheVariants.{BadBook, BadInput, BadLength, Unsound}
use Rattle.facts.specs.Rows.{length_rows}
use Rattle.facts.specs.Found.{sound_s1}
use Rattle.facts.specs.Posted.{writes}
use Rattle.preserved.specs.Bytes.{length_bytes, puts_length, rows_bytes}
use Rattle.preserved.specs.FeedDone.{feed_length}
use Rattle.preserved.specs.FeedSound.{feed_sound}
use Rattle.preserved.specs.OrderSound.{order_length, order_sound}
use Rattle.preserved.specs.ResultBase.{accepted_all, posting_of, result_writes}
use Rattle.preserved.specs.ResultSound.{result_sound}

-- a book: 1 to 4,096 whole records, and its rows are sound
pub record SoundBytes (book : List ℕ) : Type 0 where
  pub whole : whole_records most_records (length book) ≡ true
  pub right : sound (rows book) ≡ true

-- a decision that is accepted leaves sound rows, as many as there were
abbrev pub Leaves : Bool → List Row → Outcome → Type 0
Leaves inputs rs o =
    length rs ≤ most_records → sound rs ≡ true → inputs ≡ true → is_done o.status ≡ true
    → (sound o.rows ≡ true) × (length o.rows ≡ length rs)
