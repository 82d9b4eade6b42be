-- What a call leaves in its areas before its end: what it decided where it is done, and what was there where it is
-- not; and what the end makes of that.
use Rattle.std.specs.Prelude.{◌≡◌, refl, Bool, true, false, List, [], ◌∷◌, ℕ, ℤ, length, drop}
use Rattle.std.proofs.Common.{sym, ap, ◌∙◌, arith, drop_of_length-le}
use Rattle.laws.specs.Chunk.{joined}
use Rattle.record.specs.Bytes.{Bytes}
use Rattle.record.specs.declared.row.Row.{Row}
use Rattle.model.specs.Status.{is_done, number}
use Rattle.model.specs.Call.{Promise, either, refusal_area, replied}
use Rattle.model.specs.Plan.{Outcome, accepted, refused}
use Rattle.model.specs.Rows.{bytes, most_records, record_size, rows, whole_records}
use Rattle.model.specs.RowsLaws.{bytes_rows}
use Rattle.model.specs.declared.Status.{Status}
use Rattle.places.specs.Rows.{put_at, put_at_in}

unfoldable pub book_left : Outcome → List ℕ → List ℕ
book_left o b = either (is_done o.status) (bytes o.rows) b

unfoldable pub answer_left : Outcome → List ℕ → List ℕ
answer_left o a = either (is_done o.status) (bytes o.answer) a

left_done : (o : Outcome) (b a : List ℕ) → is_done o.status ≡ true
    → (book_left o b ≡ bytes o.rows) × (answer_left o a ≡ bytes o.answer)
unfolding book_left answer_left
left_done o b a e = rw e (refl, refl)

-- an answer of one record
one_record : (a : List ℕ) (r : Row) → length a ≡ record_size → put_at a 0 r ≡ bytes (r ∷ [])
unfolding bytes joined
one_record a r l =
    let e : drop 64 a ≡ [] = drop_of_length-le a {i = 64} (omega arith) in
    put_at_in a 0 r (omega arith) ∙ rw e

-- a call that is refused leaves both areas
pub left_refused : {o : Outcome} {s : Status} {x : Bool} {rs : List Row} (b a : List ℕ) → o ≡ refused s rs
    → x ≡ is_done s → x ≡ false → (s ≡ o.status) × (b ≡ book_left o b) × (a ≡ answer_left o a)
unfolding book_left answer_left
left_refused b a e q r = rw (e, sym q ∙ r) (refl, refl, refl)

-- a call that is done and answers one record leaves the bytes of its rows
pub left_accepted : {o : Outcome} {s : Status} {rs : List Row} {v r : Row} (b a b' : List ℕ) {a' : List ℕ}
    → o ≡ accepted (v ∷ []) rs → s ≡ o.status → rows b' ≡ rs → whole_records most_records (length b) ≡ true
    → length b' ≡ length b → Bytes b' → length a ≡ record_size → r ≡ v → a' ≡ put_at a 0 r
    → (s ≡ o.status) × (b' ≡ book_left o b) × (a' ≡ answer_left o a)
left_accepted {o} {s} {rs} {v} {r} b a b' e t q w l y k g h =
    let whole : whole_records most_records (length b') ≡ true = rw l w in
    let done = left_done o b a (ap (λ (p : Outcome). is_done p.status) e) in (
      t,
      sym (bytes_rows most_records b' whole y) ∙ ap bytes (q ∙ sym (ap (λ (p : Outcome). p.rows) e)) ∙ sym done.0,
      h ∙ one_record a r k ∙ ap (λ (u : Row). bytes (u ∷ [])) g
          ∙ sym (ap (λ (p : Outcome). bytes p.answer) e) ∙ sym done.1,
    )

-- a refusal overwrites the area; what is done stays
ended : (t : Bool) (x a r : List ℕ) → either t (either t x a) r ≡ either t x r
ended true x a r = refl
ended false x a r = refl

pub promised : (o : Outcome) (b a : List ℕ) {b' a' a'' : List ℕ} {s : Status} {z : ℤ} → s ≡ o.status
    → b' ≡ book_left o b → a' ≡ answer_left o a → length a' ≡ length a → z ≡ number s
    → a'' ≡ either (is_done s) a' (refusal_area (length a') s) → Promise (replied o b a) z b' a''
unfolding replied book_left answer_left
promised o b a e f g l r h = record {
  returns = r ∙ ap number e;
  keeps = f;
  says = h ∙ rw (l, e, g) (ended (is_done o.status) (bytes o.answer) a (refusal_area (length a) o.status));
}
