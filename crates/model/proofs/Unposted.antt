-- Calls that leave every byte of the book: one that is refused, a lookup, and an order with roll back, whatever they
-- are given. Assumes nothing.
use Rattle.std.specs.Prelude.{◌≡◌, Bool, ◌&&◌, List, ℕ, ◌*◌, eqb, length}
use Rattle.std.proofs.Math.Path.{refl}
use Rattle.std.proofs.Common.{ap, ◌∙◌}
use Rattle.std.proofs.Math.Bool.{true, false}
use Rattle.laws.specs.Search.{every}
use Rattle.record.specs.Bytes.{Bytes}
use Rattle.record.specs.Grid.{decode}
use Rattle.record.specs.declared.row.Row.{Row}
use Rattle.rules.specs.Rules.{lookup_input, order_input}
use Rattle.model.specs.Status.{is_done}
use Rattle.model.specs.Call.{choose, either, lookup_call, most_inputs, order_call, refusal_area, replied, run}
use Rattle.model.specs.Call.{shell}
use Rattle.model.specs.Flags.{roll_back}
use Rattle.model.specs.Lookup.{lookup}
use Rattle.model.specs.Order as order
use Rattle.model.specs.Plan.{Check, Outcome, decided, pick, refused, verdict}
use Rattle.model.specs.Rows.{bytes, most_records, record_size, rows, whole_records}
use Rattle.model.specs.RowsLaws.{bytes_rows}
use Rattle.model.specs.Sound.{sound}
use Rattle.model.specs.declared.Status.TheVariants.{BadBook, BadInput, BadLength, Unsound}

-- "A refusal leaves the book as found; all answer bytes are zero but the status"
pub refusal_leaves : (o : Outcome) (b answer : List ℕ) → is_done o.status ≡ false
    → ((replied o b answer).book ≡ b) × ((replied o b answer).answer ≡ refusal_area (length answer) o.status)
unfolding replied
refusal_leaves o b answer e = (
  ap (λ (t : Bool). either t (bytes o.rows) b) e,
  ap (λ (t : Bool). either t (bytes o.answer) (refusal_area (length answer) o.status)) e,
)

-- a decision that keeps the rows keeps the book
module _ (b answer : List ℕ) (bs : Bytes b) (decide : List Row → Outcome) (same : (decide (rows b)).rows ≡ rows b) where
  -- the bytes are those of the same rows, or nothing was written
  done_or_not : (t : Bool) (rs : List Row) → rs ≡ rows b → whole_records most_records (length b) ≡ true
      → either t (bytes rs) b ≡ b
  done_or_not true rs e w = ap bytes e ∙ bytes_rows most_records b w bs
  done_or_not false rs e w = refl

  reply_keeps : (o : Outcome) → o.rows ≡ rows b → whole_records most_records (length b) ≡ true
      → (replied o b answer).book ≡ b
  unfolding replied
  reply_keeps o e w = done_or_not (is_done o.status) o.rows e w

  pub shell_keeps : (lengths inputs : Bool) → (shell lengths inputs decide b answer).book ≡ b
  unfolding shell replied
  shell_keeps lengths inputs = go lengths (whole_records most_records (length b)) refl (sound (rows b)) inputs
    where
      go : (l w : Bool) → whole_records most_records (length b) ≡ w → (s i : Bool)
          → (choose l
          (replied
          (pick w (pick s (pick i (decide (rows b)) (refused BadInput (rows b))) (refused Unsound (rows b)))
          (refused BadBook (rows b)))
          b
          answer)
          (record { status = BadLength; answer = answer; book = b })
          ).book
          ≡ b
      go false w e s i = refl
      go true false e s i = refl
      go true true e false i = refl
      go true true e true false = refl
      go true true e true true = reply_keeps (decide (rows b)) same e

-- a call that does nothing to the rows leaves them
same_rows : (cs : List Check) (rs : List Row) (o : Outcome) → o.rows ≡ rs → (decided cs rs o).rows ≡ rs
unfolding decided
same_rows cs rs o e = go (is_done (verdict cs))
  where
    go : (t : Bool) → (pick t o (refused (verdict cs) rs)).rows ≡ rs
    go true = e
    go false = refl

pub lookup_rows : (rs inputs : List Row) → (lookup rs inputs).rows ≡ rs
unfolding lookup
lookup_rows rs inputs = same_rows _ rs _ refl

-- a lookup leaves every byte of the book
pub lookup_keeps : (b input answer : List ℕ) → Bytes b → (lookup_call b input answer).book ≡ b
unfolding run
lookup_keeps b input answer bs =
    let is = rows input in
    shell_keeps b answer bs (λ rs. lookup rs is)
    (lookup_rows (rows b) is)
    (whole_records most_inputs (length input) && eqb (length answer) (2 * length input))
    (every lookup_input is)

rolled_back : (rs : List Row) (input : Row) → roll_back input.flags ≡ true → (order.order rs input).rows ≡ rs
unfolding order.order
rolled_back rs input e = same_rows _ rs _ (rw e)

-- and so does an order with roll back
pub roll_back_keeps : (b input answer : List ℕ) → Bytes b → roll_back (decode input).flags ≡ true
    → (order_call b input answer).book ≡ b
unfolding run
roll_back_keeps b input answer bs e =
    let i = decode input in
    shell_keeps b answer bs (λ rs. order.order rs i) (rolled_back (rows b) i e)
    (eqb (length input) record_size && eqb (length answer) record_size)
    (order_input i)
