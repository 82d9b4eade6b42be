-- The bytes of rows that fit the grid are read as those rows again, and rows put in the places of others are as many.
-- Assumes nothing.
use Rattle.std.specs.Prelude.{◌≡◌, refl, Bool, true, false, ◌&&◌, List, [], ◌∷◌, map, ℕ, zero, suc, ◌*◌, ◌/◌, ◌≤◌, leb, length, get_or}
use Rattle.std.proofs.Common.{ap₂, ◌∙◌, suc-mul, arith, length-append, take_at, drop_at, leb-true}
use Rattle.std.proofs.lemmas.Bool.{false≢true}
use mathlib.Core.List.Memᴰ
use Rattle.laws.specs.All.{All, all_more, all_none}
use Rattle.laws.specs.Change.{put, puts}
use Rattle.laws.specs.Chunk.{chunk, joined}
use Rattle.laws.specs.Search.{every}
use Rattle.laws.specs.Tests.{and_left, and_right}
use Rattle.record.specs.Grid.{Sized, decode, decode_encode, encode, length_encode}
use Rattle.record.specs.declared.row.Row.{Row}
use Rattle.rules.specs.Meaning.{means_account, means_band, means_broker, means_cash, means_charge, means_customer}
use Rattle.rules.specs.Meaning.{means_customer_rate, means_free, means_lot, means_lot_history, means_permission}
use Rattle.rules.specs.Meaning.{means_request, means_security, means_settlement, means_summary, means_tax_rate}
use Rattle.rules.specs.Meaning.{means_trade, means_trade_history}
use Rattle.rules.specs.Ranges.{Range, ◌⋯◌, any32, any64, values}
use Rattle.rules.specs.Rules.{account, account_limits, band, band_limits, broker, broker_limits, cash, cash_limits, charge}
use Rattle.rules.specs.Rules.{charge_limits, customer, customer_limits, customer_rate, customer_rate_limits, fits, free}
use Rattle.rules.specs.Rules.{free_limits, lot, lot_history, lot_history_limits, lot_limits, permission, permission_limits}
use Rattle.rules.specs.Rules.{request, request_limits, rules, security, security_limits, settlement, settlement_limits}
use Rattle.rules.specs.Rules.{summary, summary_limits, tax_rate, tax_rate_limits, trade, trade_history, trade_history_limits}
use Rattle.rules.specs.Rules.{trade_limits}
use Rattle.model.specs.Rows.{bytes, record_size, rows, same_row}
use Rattle.model.specs.Sound.{s1}
use Rattle.preserved.specs.Cases.{by_cases}

-- ---- a row that fits has each field of its width
abbrev byte : Range
byte = 0 ⋯ 255

abbrev widths : List Range
widths =
    byte ∷ byte ∷ byte ∷ byte ∷ any32 ∷ any64 ∷ any64 ∷ any32 ∷ any32
    ∷ any32 ∷ any32 ∷ any64 ∷ any64 ∷ any32 ∷ any32
    ∷ []

-- each field's range ends within its width
abbrev narrow : List Range → List Range → Bool
narrow gs [] = true
narrow [] (w ∷ ws) = false
narrow (g ∷ gs) (w ∷ ws) = leb g.high w.high && narrow gs ws

abbrev Inside : List ℕ → List Range → Type 0
Inside [] gs = Unit {0}
Inside (x ∷ xs) [] = Unit {0}
Inside (x ∷ xs) (g ∷ gs) = (g.low ≤ x) × (x ≤ g.high) × Inside xs gs

abbrev Below : List ℕ → List Range → Type 0
Below [] ws = Unit {0}
Below (x ∷ xs) [] = Unit {0}
Below (x ∷ xs) (w ∷ ws) = (x ≤ w.high) × Below xs ws

below : (xs : List ℕ) (gs ws : List Range) → narrow gs ws ≡ true → Inside xs gs → Below xs ws
below [] gs ws e h = tt
below (x ∷ xs) gs [] e h = tt
below (x ∷ xs) [] (w ∷ ws) e h = absurd (false≢true e)
below (x ∷ xs) (g ∷ gs) (w ∷ ws) e h =
    let here = leb-true g.high w.high (and_left (leb g.high w.high) (narrow gs ws) e) in (
      omega (arith, here, h.1),
      below xs gs ws (and_right (leb g.high w.high) (narrow gs ws) e) h.2,
    )

narrow_sized : (r : Row) (gs : List Range) → narrow gs widths ≡ true → Inside (values r) gs → Sized r
narrow_sized r gs e h =
    let b = below (values r) gs widths e h in
    record {
      kind = omega (arith, b.0);
      form = omega (arith, b.1.0);
      status = omega (arith, b.1.1.0);
      flags = omega (arith, b.1.1.1.0);
      party = omega (arith, b.1.1.1.1.0);
      id = omega (arith, b.1.1.1.1.1.0);
      symbol = omega (arith, b.1.1.1.1.1.1.0);
      n1 = omega (arith, b.1.1.1.1.1.1.1.0);
      n2 = omega (arith, b.1.1.1.1.1.1.1.1.0);
      n3 = omega (arith, b.1.1.1.1.1.1.1.1.1.0);
      n4 = omega (arith, b.1.1.1.1.1.1.1.1.1.1.0);
      m1 = omega (arith, b.1.1.1.1.1.1.1.1.1.1.1.0);
      m2 = omega (arith, b.1.1.1.1.1.1.1.1.1.1.1.1.0);
      time = omega (arith, b.1.1.1.1.1.1.1.1.1.1.1.1.1.0);
      n5 = omega (arith, b.1.1.1.1.1.1.1.1.1.1.1.1.1.1.0);
    }

abbrev AllSized : (Row → Bool) → Type 0
AllSized test = (r : Row) → test r ≡ true → Sized r

next : (test : Row → Bool) (ts : List (Row → Bool)) → AllSized test → All AllSized ts → All AllSized (test ∷ ts)
next = all_more AllSized

each_sized : All AllSized rules
each_sized =
    next free _ (λ r e. narrow_sized r free_limits refl ((means_free r).shows e)) (
    next broker _ (λ r e. narrow_sized r broker_limits refl ((means_broker r).shows e)) (
    next customer _ (λ r e. narrow_sized r customer_limits refl ((means_customer r).shows e)) (
    next tax_rate _ (λ r e. narrow_sized r tax_rate_limits refl ((means_tax_rate r).shows e)) (
    next customer_rate _ (λ r e. narrow_sized r customer_rate_limits refl ((means_customer_rate r).shows e)) (
    next account _ (λ r e. narrow_sized r account_limits refl ((means_account r).shows e).0) (
    next security _ (λ r e. narrow_sized r security_limits refl ((means_security r).shows e).0) (
    next band _ (λ r e. narrow_sized r band_limits refl ((means_band r).shows e).0) (
    next charge _ (λ r e. narrow_sized r charge_limits refl ((means_charge r).shows e)) (
    next trade _ (λ r e. narrow_sized r trade_limits refl ((means_trade r).shows e).0.0.0) (
    next request _ (λ r e. narrow_sized r request_limits refl ((means_request r).shows e).0) (
    next trade_history _ (λ r e. narrow_sized r trade_history_limits refl ((means_trade_history r).shows e)) (
    next lot _ (λ r e. narrow_sized r lot_limits refl ((means_lot r).shows e).0.0.0) (
    next summary _ (λ r e. narrow_sized r summary_limits refl ((means_summary r).shows e).0.0) (
    next lot_history _ (λ r e. narrow_sized r lot_history_limits refl ((means_lot_history r).shows e).0.0.0) (
    next settlement _ (λ r e. narrow_sized r settlement_limits refl ((means_settlement r).shows e).0) (
    next cash _ (λ r e. narrow_sized r cash_limits refl ((means_cash r).shows e).0) (
    next permission _ (λ r e. narrow_sized r permission_limits refl ((means_permission r).shows e)) (
    all_none AllSized))))))))))))))))))

at_kind : (ts : List (Row → Bool)) → All AllSized ts → (k : ℕ) → AllSized (get_or ts k (λ (s : Row). false))
at_kind [] h k r e = absurd (false≢true e)
at_kind (t ∷ ts) h zero r e = h t (Memᴰ.head refl) r e
at_kind (t ∷ ts) h (suc k) r e = at_kind ts (λ u m. h u (Memᴰ.tail m)) k r e

fits_sized : (r : Row) → fits r ≡ true → Sized r
unfolding fits
fits_sized r e = at_kind rules each_sized r.kind r e

-- ---- bytes of rows
pub length_bytes : (rs : List Row) → length (bytes rs) ≡ length rs * record_size
unfolding bytes joined
length_bytes [] = refl
length_bytes (r ∷ rs) =
    let one = length_encode r in
    let ih = length_bytes rs in
    rw (length-append, suc-mul) (omega arith)

parts_again : (rs : List Row) → s1 rs ≡ true → map decode (chunk record_size (length rs) (bytes rs)) ≡ rs
unfolding bytes joined chunk s1 every
parts_again [] e = refl
parts_again (r ∷ rs) e =
    let rest = bytes rs in
    rw (take_at (encode r) rest 64 (length_encode r), drop_at (encode r) rest 64 (length_encode r))
    (ap₂ (λ (x : Row) (l : List Row). x ∷ l)
    (decode_encode r (fits_sized r (and_left (fits r) (every fits rs) e)))
    (parts_again rs (and_right (fits r) (every fits rs) e)))

-- rows that fit are read again
pub rows_bytes : (rs : List Row) → s1 rs ≡ true → rows (bytes rs) ≡ rs
unfolding rows
rows_bytes rs e =
    let n = length_bytes rs in
    let k : length (bytes rs) / record_size ≡ length rs = omega arith in
    rw k (parts_again rs e)

-- ---- as many rows
pub put_length : (o n : Row) (l : List Row) → length (put same_row o n l) ≡ length l
unfolding put
put_length o n [] = refl
put_length o n (x ∷ l) = by_cases (same_row o x) (λ e. rw e) (λ e. rw (e, put_length o n l))

pub puts_length : (ws : List (Row × Row)) (l : List Row) → length (puts same_row ws l) ≡ length l
unfolding puts
puts_length [] l = refl
puts_length (w ∷ ws) l = puts_length ws (put same_row w.0 w.1 l) ∙ put_length w.0 w.1 l
