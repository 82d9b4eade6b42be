-- A loop that answers each record of an input with two rows, in their turn.
use Rattle.std.specs.Prelude.{◌≡◌, refl, Bool, true, false, ◌&&◌, List, [], ◌∷◌, eqb, leb, length, drop, set}
use Rattle.std.proofs.Math.Path.{sym, ap}
use Rattle.std.proofs.Common.{◌∙◌, append-nil, drop_of_length-le, eq-eqb, eqb-true, le-leb, leb-true}
use Prim.Native.Nat.{ℕ, suc, ◌+◌, ◌*◌, ◌/◌, ◌%◌, ◌≤◌, ◌<◌}
use native.Mathlib.Omega.{arith}
use Rattle.std.proofs.Math.Seq.{sets}
use Rattle.std.proofs.lemmas.List.Edits.{sets-eq}
use Rattle.laws.specs.Search.{every, run}
use Rattle.laws.specs.Tests.{and_both, and_left, and_right}
use Rattle.laws.specs.Walk.{left_next, left_none}
use Rattle.record.specs.declared.row.Row.{Row}
use Rattle.units.specs.declared.TradeNo.{TradeNo}
use Rattle.record.specs.Bytes.{Bytes}
use Rattle.model.specs.Call.{most_inputs}
use Rattle.model.specs.Lookup.{checks, looked, lookup}
use Rattle.model.specs.Names.{a_settlement, a_trade}
use Rattle.model.specs.Rows.{bytes, found, nothing, places, rows, there, whole_records}
use Rattle.model.specs.RowsLaws.{bytes_rows}
use Rattle.model.specs.declared.Status.TheVariants.{Done, LookupNoTrade}
use Rattle.model.specs.Plan.{accepted, also, verdict}
use Rattle.model.specs.Status.{is_done}
use Rattle.model.specs.declared.Status.{Status}
use Rattle.facts.specs.Rows.{length_rows}
use Rattle.facts.specs.Checks.{decided_done, decided_refused}
use Rattle.facts.specs.Status.{is_done_holds}
use Rattle.places.specs.Rows.{row_at}
use Rattle.reply.specs.Left.{answer_left}

-- every record names a trade that is there
abbrev pub all_known : List Row → List Row → Bool
all_known rs inputs = every (λ (i : Row). there (a_trade i.id) rs) inputs

-- the number that a record asks for
abbrev pub asked : Row → TradeNo
asked r = record { 0 = r.id }

-- the rows of an area with the two rows of a number, that of record i, in their places
abbrev pub answered : List Row → ℕ → ℕ → List Row → List Row
answered rs t i area = set (set area (i * 2) (found (a_trade t) rs)) (i * 2 + 1) (found (a_settlement t) rs)

-- an area that had these rows has the two in their places
abbrev pub Answers : List ℕ → ℕ → ℕ → List ℕ → List ℕ → Type 0
Answers b t i area next = rows next ≡ answered (rows b) t i (rows area)

-- what is left of the input, answered into the area as it is, leads to w
pub record Filled (rs : List Row) (input : List ℕ) (w : List Row) (area : List ℕ) (i : ℕ) : Type 0 where
  pub within : i ≤ places input
  pub same : sets (rows area) (i * 2) (looked rs (drop i (rows input))) ≡ w

pub fill_start : (rs : List Row) (input area : List ℕ)
    → Filled rs input (sets (rows area) 0 (looked rs (rows input))) area 0
fill_start rs input area = record { within = omega arith; same = refl }

module _ {rs : List Row} {input area : List ℕ} {w : List Row} {i : ℕ} (s : Filled rs input w area i) where
  pub fill_more : (next : List ℕ) {t : TradeNo} → i < places input → t ≡ asked (row_at input i)
      → rows next ≡ answered rs t.0 i (rows area) → Filled rs input w next (i + 1)
  unfolding looked
  fill_more next {t} h a p =
      let l : looked rs (drop i (rows input))
      ≡ found (a_trade t.0) rs ∷ found (a_settlement t.0) rs ∷ looked rs (drop (i + 1) (rows input)) =
      rw (left_next (rows input) i nothing (rw length_rows h), a)
      in
      let n : (i + 1) * 2 ≡ suc (suc (i * 2)) = omega arith in
      let k : i * 2 + 1 ≡ suc (i * 2) = omega arith in
      record { within = omega arith; same = rw (p, n, k) (rw l at s.same) }

  pub fill_all : places input ≤ i → rows area ≡ w
  unfolding looked
  fill_all h =
      let l : sets (rows area) (i * 2) (looked rs (drop i (rows input))) ≡ rows area =
      rw (left_none (rows input) i (rw length_rows h))
      in
      sym l ∙ s.same

length_looked : (rs l : List Row) → length (looked rs l) ≡ length l * 2
unfolding looked
length_looked rs [] = refl
length_looked rs (x ∷ l) = let e = length_looked rs l in omega arith

-- an area twice as long is answered whole
pub whole : (rs : List Row) (input area : List ℕ) → places area ≡ places input * 2
    → sets (rows area) 0 (looked rs (rows input)) ≡ looked rs (rows input)
whole rs input area e =
    let vs = looked rs (rows input) in
    let n : length vs ≡ length (rows area) = length_looked rs (rows input) ∙ rw
    (length_rows input, length_rows area, e) in
    let z : drop (0 + length vs) (rows area) ≡ [] = drop_of_length-le (rows area) {i = 0 + length vs} (omega arith) in
    sets-eq vs (rows area) 0 (omega arith) ∙ rw z (append-nil vs)

pub ruleset fills = (fill_start, fill_more, fill_all)

-- ---- the whole lookup
-- the one check is that of the rules
pub judged : (rs inputs : List Row) {s : Status} {x : Bool} → x ≡ all_known rs inputs → s ≡ also Done x LookupNoTrade
    → s ≡ verdict (checks rs inputs)
unfolding checks verdict run
judged rs inputs e h = rw (h, e)

module _ (b input area : List ℕ) {s : Status} {x : Bool} (j : s ≡ verdict (checks (rows b) (rows input)))
    (d : x ≡ is_done s) where
  abbrev Leaves : List ℕ → Type 0
  Leaves a = (s ≡ (lookup (rows b) (rows input)).status) × (a ≡ answer_left (lookup (rows b) (rows input)) area)

  outcome : x ≡ true → lookup (rows b) (rows input) ≡ accepted (looked (rows b) (rows input)) (rows b)
  unfolding lookup
  outcome e = decided_done (checks (rows b) (rows input)) (rows b) _ (ap is_done (sym j) ∙ sym d ∙ e)

  pub found_all : {a : List ℕ} → x ≡ true → whole_records (most_inputs * 2) (length a) ≡ true → Bytes a
      → rows a ≡ looked (rows b) (rows input) → Leaves a
  unfolding answer_left
  found_all {a} e w y q =
      rw (outcome e) (is_done_holds s (sym d ∙ e), sym (bytes_rows (most_inputs * 2) a w y) ∙ ap bytes q)

  pub found_not_all : x ≡ false → Leaves area
  unfolding lookup answer_left
  found_not_all e =
      let n = ap is_done (sym j) ∙ sym d ∙ e in
      rw (decided_refused (checks (rows b) (rows input)) (rows b) (accepted (looked (rows b) (rows input)) (rows b)) n)
      (j, rw n)

-- an area of two records for each of the input
pub twice : (n m : ℕ) → whole_records most_inputs n ≡ true → m ≡ n * 2
    → (m / 64 ≡ n / 64 * 2) × (whole_records (most_inputs * 2) m ≡ true)
unfolding whole_records
twice n m w e =
    let two = and_left (leb 64 n && eqb (n % 64) 0) (leb n (most_inputs * 64)) w in
    let low = leb-true 64 n (and_left (leb 64 n) (eqb (n % 64) 0) two) in
    let even = eqb-true (n % 64) 0 (and_right (leb 64 n) (eqb (n % 64) 0) two) in
    let high = leb-true n (most_inputs * 64) (and_right (leb 64 n && eqb (n % 64) 0) (leb n (most_inputs * 64)) w) in (
      omega arith,
      and_both _ _ (and_both _ _ (le-leb 64 m (omega arith)) (eq-eqb (m % 64) 0 (omega arith)))
          (le-leb m (most_inputs * 2 * 64) (omega arith)),
    )
