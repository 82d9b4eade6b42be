-- The rows that an order adds and the one that it answers, of what it read and worked out. Assumes nothing.
use Rattle.std.specs.Prelude.{◌≡◌, refl, Bool, true, false, cond, List, [], ◌∷◌, ℕ, suc, ◌%◌, ◌≤◌, ◌<◌, ◌+◌, leb, max, pos, length, set}
use Rattle.std.proofs.Common.{sym, ◌∙◌, arith, of_z, le-leb}
use Rattle.std.proofs.Math.Path.{ap}
use Rattle.std.specs.Int.{w64}
use Rattle.std.proofs.lemmas.Bool.{lt-leb}
use Rattle.laws.specs.Change.{fill}
use Rattle.record.specs.Codes.{kind_free, pending, submitted, tms}
use Rattle.record.specs.declared.row.Row.{Row}
use Rattle.units.specs.Units.{cents, low}
use Rattle.kinds.specs.Written.{request_row, trade_history_row, trade_row}
use Rattle.kinds.specs.declared.inputs.OrderInput.{OrderInput}
use Rattle.model.specs.Band.{commission_rate}
use Rattle.model.specs.Flags.{roll_back}
use Rattle.model.specs.Order.{answer_row, trade_id}
use Rattle.model.specs.Rows.{is, nothing, rows, same_row}
use Rattle.places.specs.Rows.{free_from, put_at}
use Rattle.upkeep.specs.Added.{Added, Room, added_one, room_first, room_next}
use Rattle.directory.specs.Directory.{Directory}
use Rattle.directory.specs.declared.totals.Totals.{Totals}
use Rattle.estimate.specs.declared.figures.Estimate.{Estimate}
use Rattle.estimate.specs.declared.terms.Terms.{Terms}
use Rattle.estimate.specs.Judge.{rows_added}

-- ---- the rows, typed
abbrev pub status_of : OrderInput → ℕ
status_of i = cond (leb i.trade_type tms) submitted pending

unfoldable pub trade_of : OrderInput → Terms → Estimate → Row
trade_of i t e = trade_row (record {
  no = t.number;
  trade_type = i.trade_type;
  status = status_of i;
  flags = i.flags % 4;
  account = i.account;
  symbol = i.symbol;
  shares = i.shares;
  bid = e.price;
  price = record { 0 = 0 };
  charge = t.charge;
  commission = e.commission;
  tax = cents (pos 0);
  time = i.time;
})

unfoldable pub history_of : OrderInput → Terms → Row
history_of i t = trade_history_row (record { no = t.number; status = status_of i; time = i.time })

unfoldable pub request_of : OrderInput → Terms → Estimate → Row
request_of i t e = request_row (record {
  no = t.number;
  trade_type = i.trade_type;
  broker = t.holder.row.broker;
  symbol = i.symbol;
  shares = i.shares;
  bid = e.price;
})

abbrev pub waiting : OrderInput → Terms → Estimate → List Row
waiting i t e = cond (leb i.trade_type tms) [] (request_of i t e ∷ [])

abbrev pub added_of : OrderInput → Terms → Estimate → List Row
added_of i t e = trade_of i t e ∷ history_of i t ∷ waiting i t e

-- the rows of an order that is done
unfoldable pub rows_after : List Row → OrderInput → Terms → Estimate → List Row
rows_after rs i t e = cond (roll_back i.flags) rs (fill same_row nothing (added_of i t e) rs)

unfoldable pub answer_of : Terms → Estimate → Row
answer_of t e =
    answer_row t.number.0 (of_z w64 e.tax.0) (low t.charge.0) (commission_rate t.band) e.price.0
    (of_z w64 e.walk.bought.0) (of_z w64 e.walk.sold.0)

-- none of them is free
pub live_trade : (i : OrderInput) (t : Terms) (e : Estimate) → is kind_free (trade_of i t e) ≡ false
unfolding trade_of trade_row
live_trade i t e = refl

pub live_history : (i : OrderInput) (t : Terms) → is kind_free (history_of i t) ≡ false
unfolding history_of trade_history_row
live_history i t = refl

pub live_request : (i : OrderInput) (t : Terms) (e : Estimate) → is kind_free (request_of i t e) ≡ false
unfolding request_of request_row
live_request i t e = refl

-- ---- rows are added one after the other: what is left to add leads to w
pub record Left (w hs : List Row) (b d : List ℕ) (n : Totals) : Type 0 where
  pub room : Room hs b d n
  pub leads : fill same_row nothing hs (rows b) ≡ w

pub left_start : {hs : List Row} {b d : List ℕ} {n : Totals} → Room hs b d n
    → Left (fill same_row nothing hs (rows b)) hs b d n
left_start s = record { room = s; leads = refl }

module _ {w ks : List Row} {x r : Row} {b d : List ℕ} {n : Totals} (s : Left w (x ∷ ks) b d n)
    (live : is kind_free x ≡ false) (e : r ≡ x) where
  pub may_add : Directory b d n × ((1 ≤ n.free) × (is kind_free r ≡ false))
  may_add =
      let all = s.room.room in
      (s.room.directory, (omega arith, rw e live))

module _ {w ks : List Row} {x : Row} {b d : List ℕ} {n : Totals} (s : Left w (x ∷ ks) b d n) where
  pub left_one : Room (x ∷ []) b d n
  left_one = room_first (x ∷ []) ks s.room

  pub left_next : {b' d' : List ℕ} {n' : Totals} → Added (x ∷ []) b n b' d' n' → Left w ks b' d' n'
  unfolding fill
  left_next a = record {
    room = room_next (x ∷ []) ks s.room a;
    leads = ap (fill same_row nothing ks) a.filled ∙ s.leads;
  }

-- the row is added as `add` promises
module _ {w ks : List Row} {x r : Row} {b d : List ℕ} {n : Totals} (s : Left w (x ∷ ks) b d n)
    (live : is kind_free x ≡ false) (e : r ≡ x) where
  pub left_after : {b' d' : List ℕ} {n' : Totals}
      → (let p = free_from (rows b) 0 in (b' ≡ put_at b p r) × (rows b' ≡ set (rows b) p r)) → Directory b' d' n'
      → (n'.free + 1 ≡ n.free) × (n'.largest.0 ≡ max n.largest.0 (trade_id r)) → Left w ks b' d' n'
  left_after f g h = left_next s (added_one (left_one s) live e (f, (g, h)))

pub left_done : {w hs : List Row} {b d : List ℕ} {n : Totals} → Left w hs b d n → hs ≡ [] → rows b ≡ w
unfolding fill
left_done s e = rw e at s.leads

-- ---- with roll back the rows are as they were, and else all are added
module _ (i : OrderInput) (t : Terms) (e : Estimate) {x : Bool} (r : x ≡ roll_back i.flags) where
  pub rolled_back : x ≡ true → (rs : List Row) → rs ≡ rows_after rs i t e
  unfolding rows_after
  rolled_back y rs = rw (sym r ∙ y)

  pub all_added : x ≡ false → (rs : List Row) → fill same_row nothing (added_of i t e) rs ≡ rows_after rs i t e
  unfolding rows_after
  all_added y rs = rw (sym r ∙ y)

-- an order at the market's price has no request, any other has one
module _ (i : OrderInput) (t : Terms) (e : Estimate) where
  pub submitted_now : i.trade_type ≤ tms → waiting i t e ≡ []
  submitted_now h = rw (le-leb i.trade_type tms h)

  pub waits : {w : List Row} {b d : List ℕ} {n : Totals} → tms < i.trade_type → Left w (waiting i t e) b d n
      → Left w (request_of i t e ∷ []) b d n
  waits h s = rw (lt-leb i.trade_type tms h) at s

  -- the trade and its history are added
  pub two_added : {b d : List ℕ} {n : Totals} {r h : Row} {b₁ d₁ b₂ d₂ : List ℕ} {n₁ n₂ : Totals}
      → Room (added_of i t e) b d n
      → r ≡ trade_of i t e
      → (let p = free_from (rows b) 0 in (b₁ ≡ put_at b p r) × (rows b₁ ≡ set (rows b) p r)) → Directory b₁ d₁ n₁
      → (n₁.free + 1 ≡ n.free) × (n₁.largest.0 ≡ max n.largest.0 (trade_id r))
      → h ≡ history_of i t
      → (let p = free_from (rows b₁) 0 in (b₂ ≡ put_at b₁ p h) × (rows b₂ ≡ set (rows b₁) p h)) → Directory b₂ d₂ n₂
      → (n₂.free + 1 ≡ n₁.free) × (n₂.largest.0 ≡ max n₁.largest.0 (trade_id h))
      → Left (fill same_row nothing (added_of i t e) (rows b)) (waiting i t e) b₂ d₂ n₂
  two_added s f a g h k l m o =
      left_after (left_after (left_start s) (live_trade i t e) f a g h) (live_history i t) k l m o

  module _ (rs : List Row) {x : Bool} (r : x ≡ roll_back i.flags) (y : x ≡ false) {b d : List ℕ} {n : Totals} where
    pub all_now : i.trade_type ≤ tms → Left (fill same_row nothing (added_of i t e) rs) (waiting i t e) b d n
        → rows b ≡ rows_after rs i t e
    all_now h s = left_done s (submitted_now h) ∙ all_added i t e r y rs

    pub all_asked : Left (fill same_row nothing (added_of i t e) rs) [] b d n → rows b ≡ rows_after rs i t e
    all_asked s = left_done s refl ∙ all_added i t e r y rs

  -- three rows at most
  pub added_length : length (added_of i t e) ≡ rows_added i
  added_length = go (leb i.trade_type tms)
    where
      go : (m : Bool) → suc (suc (length (cond m [] (request_of i t e ∷ [])))) ≡ cond m 2 3
      go true = refl
      go false = refl
