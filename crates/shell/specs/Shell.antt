-- The shell of a call as the code goes through it: after the checks the call's own decision, and what is replied. The
-- calls that change a book by cases, and a lookup. Assumes nothing.
use Rattle.std.specs.Prelude.{◌≡◌, Bool, ◌&&◌, List, ℕ, ◌*◌, ◌%◌, ◌≤◌, eqb, leb, ℤ, length}
use Rattle.std.proofs.Math.Path.{refl}
use Rattle.std.proofs.Common.{sym, ap, ◌∙◌, arith, eq-eqb, leb-true}
use Rattle.std.proofs.Math.Bool.{true, false, cond}
use Rattle.laws.specs.Search.{every}
use Rattle.laws.specs.Tests.{and_both, and_left}
use Rattle.record.specs.Bytes.{Bytes}
use Rattle.record.specs.declared.row.Row.{Row}
use Rattle.rules.specs.Rules.{lookup_input}
use Rattle.model.specs.Call as calls
use Rattle.model.specs.Status.{is_done, number}
use Rattle.model.specs.Call.{Promise, Reply, either, most_inputs, refusal_area, replied, run, shell}
use Rattle.model.specs.Lookup.{lookup}
use Rattle.model.specs.Plan.{Outcome, pick, refused}
use Rattle.model.specs.Rows.{most_records, record_size, rows, whole_records}
use Rattle.model.specs.Sound.{sound}
use Rattle.model.specs.declared.Status.{Status}
use Rattle.model.specs.declared.Status.TheVariants.{BadBook, BadInput, Done, Unsound}
use Rattle.model.proofs.Unposted.{lookup_keeps}
use Rattle.reply.specs.Left.{answer_left, book_left, left_refused, promised}
use Rattle.opening.specs.Opening.{opening}
use Rattle.shell.specs.declared.Call.{Call}
use Rattle.shell.specs.declared.Call.TheVariants.{Feed, Order, Result}

-- ---- the reply
module _ {lengths inputs x : Bool} {s : Status} (decide : List Row → Outcome) (b a : List ℕ) (e : lengths ≡ true)
    (i : x ≡ inputs) (p : s ≡ opening x b) where
  -- where no check fails the call decides, else the status of the check
  replies : shell lengths inputs decide b a ≡ replied (pick (is_done s) (decide (rows b)) (refused s (rows b))) b a
  unfolding opening shell
  replies = rw (e, p, i)
      (ap (λ (o : Outcome). replied o b a) (go (whole_records most_records (length b)) (sound (rows b)) inputs))
    where
      go : (w t i : Bool) →
          let rs = rows b in
          let q = cond w (cond t (cond i Done BadInput) Unsound) BadBook in
          pick w (pick t (pick i (decide rs) (refused BadInput rs)) (refused Unsound rs)) (refused BadBook rs)
          ≡ pick (is_done q) (decide rs) (refused q rs)
      go true true true = refl
      go true true false = refl
      go true false i = refl
      go false t i = refl

  pub refuses : {a' : List ℕ} {z : ℤ} → is_done s ≡ false → z ≡ number s
      → a' ≡ either (is_done s) a (refusal_area (length a) s) → Promise (shell lengths inputs decide b a) z b a'
  refuses d r h =
      let left = left_refused {rs = rows b} b a refl refl d in
      rw (replies, d) (promised (refused s (rows b)) b a left.0 left.1 left.2 refl r h)

  pub decides : {t : Status} {b' a' a'' : List ℕ} {z : ℤ} → is_done s ≡ true → t ≡ (decide (rows b)).status
      → b' ≡ book_left (decide (rows b)) b → a' ≡ answer_left (decide (rows b)) a → length a' ≡ length a → z ≡ number t
      → a'' ≡ either (is_done t) a' (refusal_area (length a') t) → Promise (shell lengths inputs decide b a) z b' a''
  decides d f g h l r k = rw (replies, d) (promised (decide (rows b)) b a f g h l r k)

-- ---- what a call comes to behind its checks
abbrev pub outcome_of : Bool → (List Row → Outcome) → List ℕ → Outcome
outcome_of inputs decide b =
    pick (is_done (opening inputs b)) (decide (rows b)) (refused (opening inputs b) (rows b))

module _ (inputs : Bool) (decide : List Row → Outcome) (b a : List ℕ) where
  abbrev its : Outcome
  its = outcome_of inputs decide b

  -- the end is the reply of the rules
  pub ends : {lengths : Bool} {t : Status} {b' a' a'' : List ℕ} {z : ℤ} → lengths ≡ true → t ≡ its.status
      → b' ≡ book_left its b → a' ≡ answer_left its a → length a' ≡ length a → z ≡ number t
      → a'' ≡ either (is_done t) a' (refusal_area (length a') t) → Promise (shell lengths inputs decide b a) z b' a''
  ends e f g h l r k = rw (replies decide b a e refl refl) (promised its b a f g h l r k)

pub long_both : {x : Bool} (a : List ℕ) {n : ℕ} → x ≡ true → length a ≡ n → (x && eqb (length a) n) ≡ true
long_both {x} a {n} e l = and_both x (eqb (length a) n) e (eq-eqb (length a) n l)

-- ---- the calls that change a book: each is one of the model's, and answers one record
abbrev ruled : Call → calls.Call
ruled Order = calls.an_order
ruled Result = calls.a_result
ruled Feed = calls.a_feed

abbrev pub long_of : Call → ℕ → Bool
long_of Order n = eqb n record_size
long_of Result n = eqb n record_size
long_of Feed n = whole_records most_inputs n

abbrev pub fields_of : Call → List ℕ → Bool
fields_of call input = calls.fields_of (ruled call) input

abbrev pub decide_of : Call → List ℕ → List Row → Outcome
decide_of call input rs = calls.decide_of (ruled call) input rs

abbrev pub call_of : Call → List ℕ → List ℕ → List ℕ → Reply
call_of call b input a =
    shell (long_of call (length input) && eqb (length a) record_size) (fields_of call input) (decide_of call input) b a

-- what such a call comes to, with its checks
abbrev pub whole_of : Call → List ℕ → List ℕ → Outcome
whole_of call input b = outcome_of (fields_of call input) (decide_of call input) b

-- ---- lookup
abbrev pub lookup_of : List ℕ → List ℕ → Outcome
lookup_of input b = outcome_of (every lookup_input (rows input)) (λ rs. lookup rs (rows input)) b

some : (most n : ℕ) → whole_records most n ≡ true → 64 ≤ n
unfolding whole_records
some most n e =
    let two = and_left (leb 64 n && eqb (n % 64) 0) (leb n (most * 64)) e in
    leb-true 64 n (and_left (leb 64 n) (eqb (n % 64) 0) two)

pub lookup_long : (input a : List ℕ)
    → (whole_records most_inputs (length input) ≡ true) × (length a ≡ 2 * length input)
    → ((whole_records most_inputs (length input) && eqb (length a) (2 * length input)) ≡ true)
    × (length a ≡ length input * 2) × (record_size ≤ length a)
lookup_long input a l =
    let whole = some _ _ l.0 in
    let twice = l.1 in
    (long_both a l.0 twice, omega arith, omega arith)

-- a lookup leaves the book
pub lookup_left : (b input a : List ℕ) {x : Bool} {s : Status} → Bytes b
    → (whole_records most_inputs (length input) && eqb (length a) (2 * length input)) ≡ true
    → x ≡ every lookup_input (rows input) → s ≡ opening x b → is_done s ≡ true
    → b ≡ book_left (lookup (rows b) (rows input)) b
unfolding run replied book_left
lookup_left b input a y e i p d =
    sym (lookup_keeps b input a y)
    ∙ ap (λ (r : Reply). r.book) (rw d at (replies (λ rs. lookup rs (rows input)) b a e i p))

-- and so does one that its checks refuse
pub lookup_leaves : (b input a : List ℕ) → Bytes b
    → (whole_records most_inputs (length input) && eqb (length a) (2 * length input)) ≡ true
    → b ≡ book_left (lookup_of input b) b
unfolding run replied book_left
lookup_leaves b input a y e =
    sym (lookup_keeps b input a y)
    ∙ ap (λ (r : Reply). r.book) (replies (λ rs. lookup rs (rows input)) b a e refl refl)
