-- The whole feed, as the code comes to it.
use Rattle.std.specs.Prelude.{◌≡◌, refl, Bool, true, false, cond, List, [], ◌∷◌, map, ℕ, suc, ◌+◌, ◌/◌, ◌≤◌, ◌<◌, leb, length}
use Rattle.std.proofs.Common.{sym, ap, ◌∙◌, arith, leb-true}
use Rattle.laws.specs.Search.{bit, count, every, keep, length_keep, total}
use Rattle.record.specs.Bytes.{Bytes}
use Rattle.record.specs.Codes.{kind_free}
use Rattle.record.specs.declared.row.Row.{Row}
use Rattle.model.specs.Status.{is_done}
use Rattle.model.specs.Feed.{answer_row, checks, fed, feed, swept}
use Rattle.model.specs.Plan.{Outcome, accepted, decided, refused, room, verdict}
use Rattle.model.specs.Rows.{is, most_records, nothing, record_size, rows, whole_records}
use Rattle.model.specs.Sound.{sound}
use Rattle.model.specs.declared.Status.{Status}
use Rattle.facts.specs.Rows.{length_rows}
use Rattle.facts.specs.Checks.{decided_done, decided_refused}
use Rattle.facts.specs.Status.{is_done_holds}
use Rattle.places.specs.Rows.{put_at}
use Rattle.reply.specs.Left.{answer_left, book_left, left_accepted, left_refused}
use Rattle.facts.specs.Found.{sound_s1}
use Rattle.facts.specs.Rows.{clean_fit}
use Rattle.directory.specs.Directory.{Directory}
use Rattle.directory.specs.declared.totals.Totals.{Totals}
use Rattle.applied.specs.Apply.{Ahead}
use Rattle.hits.specs.Due.{due_still, going_start, swept_due, trades_due}
use Rattle.hits.specs.Hits.{due}
use Rattle.hits.specs.Judge.{all_known, volume_fits}
use Rattle.applied.specs.Submit.{written_start}
use Rattle.feed.specs.Sweep.{left}

keep_most : {A : Type 0} (p : A → Bool) (l : List A) → length (keep p l) ≤ length l
unfolding keep
keep_most p [] = omega arith
keep_most p (x ∷ l) = go (p x) (keep_most p l)
  where
    go : (t : Bool) → length (keep p l) ≤ length l → length (cond t (x ∷ keep p l) (keep p l)) ≤ suc (length l)
    go true ih = omega arith
    go false ih = omega arith

-- where nothing is due nothing leaves
none_left : (es rs : List Row) → count (due es) rs ≡ 0 → map (left es) rs ≡ rs
unfolding count total
none_left es [] h = refl
none_left es (r ∷ rs) h = go (due es r) (none_left es rs) h
  where
    go : (x : Bool) → (count (due es) rs ≡ 0 → map (left es) rs ≡ rs) → bit x + count (due es) rs ≡ 0
        → cond x nothing r ∷ map (left es) rs ≡ r ∷ rs
    go true ih h = absurd (omega arith)
    go false ih h = ap (λ (l : List Row). r ∷ l) (ih (omega arith))

-- after a feed that submits nothing
pub fed_quiet : (b input : List ℕ) → sound (rows b) ≡ true → {n : ℕ} → n ≡ count (due (rows input)) (rows b)
    → (b₁ : List ℕ) → rows b₁ ≡ (fed (rows b) (rows input)).rows → n ≡ 0
    → rows b₁ ≡ map (left (rows input)) (rows b₁)
fed_quiet b input good c b₁ p z =
    sym (none_left (rows input) (rows b₁)
    (ap (count (due (rows input))) p ∙ due_still (rows b) (rows input) good ∙ sym c ∙ z))

-- what a feed comes to
outcome : (rs es : List Row)
    → feed rs es
    ≡ decided (checks rs es) rs
    (accepted (answer_row (length es) (fed rs es).trades ∷ []) (swept (fed rs es).rows))
unfolding feed
outcome rs es = refl

module _ (b input a : List ℕ) (good : sound (rows b) ≡ true) {s : Status} {n : ℕ} {x : Bool}
    (c : n ≡ count (due (rows input)) (rows b)) (j : s ≡ verdict (checks (rows b) (rows input))) (d : x ≡ is_done s)
  where
    abbrev Leaves : List ℕ → List ℕ → Type 0
    Leaves b' a' =
        (s ≡ (feed (rows b) (rows input)).status) × (b' ≡ book_left (feed (rows b) (rows input)) b)
        × (a' ≡ answer_left (feed (rows b) (rows input)) a)

    pub fed_refused : x ≡ false → Leaves b a
    fed_refused e =
        left_refused b a
        (outcome (rows b) (rows input)
        ∙ decided_refused (checks (rows b) (rows input)) (rows b) _ (ap is_done (sym j) ∙ sym d ∙ e)
        ∙ ap (λ (t : Status). refused t (rows b)) (sym j)) d e

    pub fed_done : (b₁ b₂ : List ℕ) {a' : List ℕ} {r : Row} {m : ℕ} → x ≡ true
        → rows b₁ ≡ (fed (rows b) (rows input)).rows → rows b₂ ≡ map (left (rows input)) (rows b₁)
        → whole_records most_records (length b) ≡ true → length b₂ ≡ length b → Bytes b₂ → length a ≡ record_size
        → m ≡ length input / 64 → r ≡ answer_row m n → a' ≡ put_at a 0 r → Leaves b₂ a'
    fed_done b₁ b₂ {a'} {r} {m} e p q w l y k u g h =
        let o =
        outcome (rows b) (rows input)
        ∙ decided_done (checks (rows b) (rows input)) (rows b) _ (ap is_done (sym j) ∙ sym d ∙ e)
        in
        let posted = q ∙ ap (map (left (rows input))) p ∙ sym (swept_due (rows b) (rows input) good) in
        let row : r ≡ answer_row (length (rows input)) (fed (rows b) (rows input)).trades =
        g ∙ rw (u, ← length_rows input, c, ← trades_due (rows b) (rows input) good)
        in
        left_accepted b a b₂ o (is_done_holds s (sym d ∙ e) ∙ sym (ap (λ (x : Outcome). x.status) o)) posted w l y k row h

-- an answer's numbers are small
pub few_trades : (b : List ℕ) (n : ℕ) → length b / 64 ≤ most_records → leb n (room (rows b)) ≡ true → n < 4294967296
unfolding room
few_trades b n h e =
    let l = leb-true n (room (rows b)) e in
    let c = length_keep (is kind_free) (rows b) in
    let m = keep_most (is kind_free) (rows b) in
    let k = length_rows b in
    omega arith

-- where the checks pass, the entries may be applied
pub ahead : (b d : List ℕ) (t : Totals) (input : List ℕ) {n : ℕ} → Directory b d t → sound (rows b) ≡ true
    → n ≡ count (due (rows input)) (rows b)
    → (all_known (rows b) (rows input) ≡ true) × (every (volume_fits (rows b) (rows input)) (rows input) ≡ true)
    × (leb n (room (rows b)) ≡ true)
    → Ahead n b d t input
ahead b d t input {n} s good c f =
    let l = leb-true n (room (rows b)) f.2 in
    let e = trades_due (rows b) (rows input) good in
    let r = s.free in
    let fit = sound_s1 (rows b) good in
    record {
      ready = record { directory = s; clean = clean_fit (rows b) fit; written = written_start b fit };
      fit = record { known = f.0; volumes = f.1 };
      going = going_start (rows b) (rows input) good;
      room = omega arith;
      few = omega arith;
    }
