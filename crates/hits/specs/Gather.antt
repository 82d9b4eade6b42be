-- The requests that an entry submits, gathered by their places, and how many all entries submit.
use Rattle.std.specs.Prelude.{◌≡◌, refl, Bool, true, false, ◌&&◌, List, [], map, ℕ, ◌+◌, ◌≤◌, ◌<◌, length, take, drop, get_or, set}
use Rattle.std.proofs.Common.{sym, ◌∙◌, arith, length-take, take_all}
use Rattle.std.proofs.Math.Path.{ap}
use Rattle.std.proofs.lemmas.Bool.{false≢true}
use Rattle.std.proofs.lemmas.List.{length-map}
use Rattle.laws.specs.Keep.{count_none}
use Rattle.laws.specs.Puts.{count_length}
use Rattle.laws.specs.Search.{bit, count, keep, length_keep, place, seek}
use Rattle.laws.specs.Sort.{sort}
use Rattle.laws.specs.Tests.{and_false}
use Rattle.record.specs.Codes.{kind_request}
use Rattle.record.specs.Symbol.{same_symbol}
use Rattle.record.specs.declared.row.Row.{Row}
use Rattle.record.specs.declared.symbol.Symbol.{Symbol}
use Rattle.kinds.specs.Inputs.{feed_input_of}
use Rattle.kinds.specs.declared.inputs.FeedInput.{FeedInput}
use Rattle.model.specs.Feed.{lower}
use Rattle.model.specs.Rows.{is, most_records, rows}
use Rattle.facts.specs.Rows.{length_rows}
use Rattle.places.specs.Rows.{row_at}
use Rattle.sorted.specs.Order.{InOrder, each_still, goes}
use Rattle.sorted.specs.declared.By.TheVariants.{Number}
use Rattle.directory.specs.Listed.{places}
use Rattle.groups.specs.Collect.{At, Collected, Collecting, collect_more, collect_start}
use Rattle.groups.specs.Sums.{request_on}
use Rattle.hits.specs.Hits.{any_reaches, due, due_more, first_hit, fresh, fresh_on}

pub record Gathered (es : List Row) (i : ℕ) (b at : List ℕ) (n : ℕ) : Type 0 where
  pub rows : map (row_at b) (take n at) ≡ sort lower (keep (fresh es i) (rows b))
  pub few : n ≤ places b
  pub each : (k : ℕ) → k < n → At (fresh es i) b (get_or at k 0)

pub gathered : {es : List Row} {i : ℕ} {b at at' : List ℕ} {n : ℕ} → Collected (fresh es i) b at n
    → InOrder Number b n at at' → Gathered es i b at' n
unfolding goes
gathered {es} {i} {b} h o =
    record {
      rows = o.rows ∙ rw h.rows refl;
      few = h.few;
      each = each_still o (At (fresh es i) b) h.each;
    }

-- ---- along the requests on the symbol of the entry
module _ (input : List ℕ) (i : ℕ) (b : List ℕ) {e : FeedInput} (a : e ≡ feed_input_of (row_at input i)) where
  abbrev es : List Row
  es = rows input

  same_symbol_holds : request_on e.symbol ≡ request_on (row_at input i).symbol
  unfolding feed_input_of
  same_symbol_holds = ap (λ (u : FeedInput). request_on u.symbol) a

  pub gather_start : (at : List ℕ) {c : ℕ} → most_records ≤ length at
      → c ≡ place (request_on e.symbol) (rows b)
      → Collecting (request_on e.symbol) (fresh es i) b at 0 c
  gather_start at l q =
      collect_start (request_on e.symbol) (fresh es i)
      (λ r z. fresh_on es i r (ap (λ (p : Row → Bool). p r) (sym same_symbol_holds) ∙ z))
      b at l q

-- a request on a symbol is a request
request_kind : (k s : Bool) → (k && s) ≡ true → k ≡ true
request_kind true s e = refl
request_kind false s e = absurd (false≢true e)

pub gather_more : (y : Symbol) (es : List Row) (i : ℕ) {b at at' : List ℕ} {n n' c c' : ℕ}
    → Collecting (request_on y) (fresh es i) b at n c → n < most_records → c < places b
    → n' ≡ n + bit (first_hit es i (row_at b c)) → at' ≡ set at n c
    → c' ≡ seek (request_on y) (c + 1) (drop (c + 1) (rows b)) → Collecting (request_on y) (fresh es i) b at' n' c'
gather_more y es i {b} {c = c} h few l e f g =
    let k = request_kind (is kind_request (row_at b c)) (same_symbol (row_at b c).symbol y) (h.here l) in
    collect_more h few l (e ∙ rw k) f g

-- ---- how many the first i entries submit
pub record Counting (b input : List ℕ) (sum i : ℕ) : Type 0 where
  pub within : i ≤ places input
  pub same : sum ≡ count (due (take i (rows input))) (rows b)

pub count_start : (b input : List ℕ) → Counting b input 0 0
unfolding any_reaches
count_start b input = record {
  within = omega arith;
  same = sym (count_none (due []) (rows b) (λ r. and_false (is kind_request r)));
}

module _ {b input : List ℕ} {sum i : ℕ} (s : Counting b input sum i) where
  pub count_few : sum ≤ places b
  count_few =
      let c = count_length (due (take i (rows input))) (rows b) in
      let n = length_rows b in
      let e = s.same in
      omega arith

  pub count_more : {at : List ℕ} {n : ℕ} → i < places input → most_records ≤ length at → places b ≤ most_records
      → Collected (fresh (rows input) i) b at n → Counting b input (sum + n) (i + 1)
  count_more {at} {n} h l m c =
      let few = c.few in
      let e : length (map (row_at b) (take n at)) ≡ n = simp (length-map, length-take) (omega arith) in
      let k = length_keep (fresh (rows input) i) (rows b) in
      let f : length (map (row_at b) (take n at)) ≡ length (keep (fresh (rows input) i) (rows b)) = ap length c.rows
      in
      let more = due_more (rows input) i (rw length_rows h) (rows b) in
      let was = s.same in
      record { within = omega arith; same = omega arith }

  pub count_all : places input ≤ i → sum ≡ count (due (rows input)) (rows b)
  count_all h =
      let w = s.within in
      let e : take i (rows input) ≡ rows input = take_all i (rows input) (rw length_rows h) in
      s.same ∙ rw e

pub ruleset counting = (count_start, count_more, count_all)
