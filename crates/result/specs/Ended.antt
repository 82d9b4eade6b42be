-- How a result ends: refused, or posted with its answer. Assumes nothing.
use Rattle.std.specs.Prelude.{◌≡◌, refl, Bool, true, false, List, [], ◌∷◌, ℕ, ◌≤◌, length}
use Rattle.std.proofs.Common.{sym, ap, ◌∙◌}
use Rattle.record.specs.Bytes.{Bytes}
use Rattle.record.specs.Signed.{up}
use Rattle.record.specs.declared.row.Row.{Row}
use Rattle.kinds.specs.Inputs.{result_input_of}
use Rattle.kinds.specs.Kinds.{account_of, trade_of}
use Rattle.kinds.specs.Written.{trade_row}
use Rattle.kinds.specs.declared.inputs.ResultInput.{ResultInput}
use Rattle.kinds.specs.declared.rows.Trade.{Trade}
use Rattle.rules.specs.Ranges.{fee}
use Rattle.rules.specs.Rules.{result_input}
use Rattle.model.specs.Plan.{Outcome, accepted, decided, refused, verdict}
use Rattle.model.specs.Result.{answer_row, figures, posting, result, view}
use Rattle.model.specs.Rows.{most_records, record_size, rows, whole_records}
use Rattle.model.specs.Sound.{sound}
use Rattle.model.specs.Status.{is_done}
use Rattle.model.specs.declared.Status.{Status}
use Rattle.facts.specs.Checks.{decided_done, decided_refused}
use Rattle.facts.specs.Status.{is_done_holds}
use Rattle.places.specs.Rows.{put_at}
use Rattle.reply.specs.Left.{answer_left, book_left, left_accepted, left_refused}
use Rattle.directory.specs.Directory.{Directory}
use Rattle.directory.specs.declared.totals.Totals.{Totals}
use Rattle.reading.specs.declared.terms.Terms.{Terms}
use Rattle.reading.specs.Lots.{Held}
use Rattle.reading.specs.Terms.{input_written, input_row, terms_of}
use Rattle.figures.specs.declared.Figures.{Figures}
use Rattle.figures.specs.Figures.{figures_by, figures_of, walk_of}
use Rattle.figures.specs.Reckoned.{Reckoned}
use Rattle.verdict.specs.Judge.{judged, judgment, passed_all, result_rows, tests}
use Rattle.result.specs.Whole.{Posts}

abbrev pub answer_of : Trade → Figures → Row
answer_of t f = answer_row (trade_row t) (up f.tax.0) f.balance.0 f.settlement.0

answer_is : (rs : List Row) (input : Row)
    → answer_of (terms_of rs input).trade (figures_of rs input)
    ≡ (posting input (view rs input) (figures input (view rs input))).answer
unfolding terms_of figures_of figures_by walk_of figures posting trade_of account_of result_input_of trade_row
answer_is rs input = refl

-- what a result comes to
outcome : (rs : List Row) (input : Row)
    → result rs input
    ≡ decided (tests rs input) rs
    (accepted ((posting input (view rs input) (figures input (view rs input))).answer ∷ []) (result_rows rs input))
unfolding result result_rows
outcome rs input = refl

-- ---- of an input as it is read
module _ (row : Row) {i : ResultInput} (right : result_input row ≡ true) (e : i ≡ result_input_of row) where
  pub same_input : input_row i ≡ row
  same_input = ap input_row e ∙ input_written row right

  pub right_input : result_input (input_row i) ≡ true
  right_input = ap result_input same_input ∙ right

  module _ {b d : List ℕ} {tt : Totals} {t : Terms} {f : Figures} (dir : Directory b d tt)
      (good : sound (rows b) ≡ true) (read : t ≡ terms_of (rows b) (input_row i))
      (reckoned : Reckoned (rows b) (input_row i) f) where
    pub judge_asks : (up f.commission.0 ≤ fee.high) × (f.walk.closed ≤ most_records)
    judge_asks = (reckoned.commission.most, reckoned.few)

    module _ {s : Status} (j : s ≡ judgment t f tt.free) {x : Bool} (done : x ≡ is_done s) where
      own_status : s ≡ verdict (tests (rows b) (input_row i))
      own_status = j ∙ rw (read, reckoned.same, dir.free) (judged (rows b) (input_row i) good)

      status_is : s ≡ verdict (tests (rows b) row)
      status_is = own_status ∙ ap (λ (r : Row). verdict (tests (rows b) r)) same_input

      pub post_asks : {at : List ℕ} {n : ℕ} → x ≡ true → Held t b at n → Posts b d at n tt i t f
      post_asks y h = record {
        directory = dir;
        good = good;
        right = right_input;
        read = read;
        reckoned = reckoned;
        passed = passed_all (rows b) (input_row i) (ap is_done (sym own_status) ∙ sym done ∙ y);
        held = h;
      }

      abbrev Leaves : List ℕ → List ℕ → List ℕ → Type 0
      Leaves a b' a' =
          (s ≡ (result (rows b) row).status) × (b' ≡ book_left (result (rows b) row) b)
          × (a' ≡ answer_left (result (rows b) row) a)

      pub result_refused : (a : List ℕ) → x ≡ false → Leaves a b a
      result_refused a y =
          left_refused b a
          (outcome (rows b) row
          ∙ decided_refused (tests (rows b) row) (rows b) _ (ap is_done (sym status_is) ∙ sym done ∙ y)
          ∙ ap (λ (t : Status). refused t (rows b)) (sym status_is)) done y

      pub result_done : (a b' : List ℕ) {a' : List ℕ} → x ≡ true → rows b' ≡ result_rows (rows b) (input_row i)
          → whole_records most_records (length b) ≡ true → length b' ≡ length b → Bytes b' → length a ≡ record_size
          → a' ≡ put_at a 0 (answer_of t.trade f) → Leaves a b' a'
      result_done a b' {a'} y p w l z k g =
          let o =
          outcome (rows b) row
          ∙ decided_done (tests (rows b) row) (rows b) _ (ap is_done (sym status_is) ∙ sym done ∙ y)
          in
          left_accepted b a b' o (is_done_holds s (sym done ∙ y) ∙ sym (ap (λ (q : Outcome). q.status) o))
          (p ∙ ap (result_rows (rows b)) same_input) w l z k
          (rw (read, reckoned.same, same_input) (answer_is (rows b) row)) g
