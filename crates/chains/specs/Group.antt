-- The group of a row, which rows that are read together share, and the bucket of a group. Which bucket it is matters
-- for speed alone. Assumes nothing.
use Rattle.std.specs.Prelude.{◌≡◌, refl, Bool, true, false, cond, not, ◌&&◌, ◌||◌, ℕ, ◌+◌, ◌-◌, ◌*◌, ◌/◌, ◌%◌, ◌≤◌, ◌<◌, eqb}
use Rattle.std.proofs.Common.{sym, ap, mul-le-mul_right, arith, ne_eqb, eqb-true}
use Rattle.std.proofs.lemmas.Bool.{false≢true}
use Rattle.laws.specs.Tests.{and_true, or_false}
use Rattle.record.specs.Codes.{kind_account, kind_band, kind_broker, kind_charge, kind_free, kind_lot, kind_request}
use Rattle.record.specs.Codes.{kind_security, kind_summary, kind_trade, kind_trade_history}
use Rattle.keys.specs.Key.{among, by_id, by_party, by_symbol, key_of}
use Rattle.keys.specs.Marks.{all_keys, marks_are, marks_of}
use Rattle.keys.specs.declared.Key.{Key}
use Rattle.kinds.specs.declared.limits.Marks.{Marks}
use Rattle.record.specs.Symbol.{no_symbol, symbol_number}
use Rattle.record.specs.declared.row.Row.{Row}
use Rattle.record.specs.declared.symbol.Symbol.{Symbol}
use Rattle.model.specs.Rows.{is}

-- ---- groups
abbrev pub a_group : ℕ → ℕ → ℕ → ℕ → ℕ → ℕ → Symbol → Key
a_group kind form status flags party id symbol = record {
  kind = kind;
  form = form;
  status = status;
  flags = flags;
  party = party;
  id = id;
  symbol = symbol;
  n1 = 0;
  m2 = 0;
}

-- rows of these kinds are grouped by what they are of, and not by their key
abbrev pub apart : ℕ → Bool
apart kind = eqb kind kind_lot || eqb kind kind_request

-- of a key of any other kind: the status of a history, the first share count of a band, the rate of a customer, the
-- executor of an account and the second trade of a lot history fall away
unfoldable pub key_group : Key → Key
key_group k =
    a_group k.kind k.form (cond (eqb k.kind kind_trade_history) 0 k.status) k.flags k.party k.id
    k.symbol

abbrev pub lot_group : ℕ → Symbol → Key
lot_group account symbol = a_group kind_lot 0 0 0 account 0 symbol

abbrev pub request_group : Symbol → Key
request_group symbol = a_group kind_request 0 0 0 0 0 symbol

unfoldable pub group_of : Row → Key
group_of r =
    cond (is kind_lot r) (lot_group r.party r.symbol)
    (cond (is kind_request r) (request_group r.symbol) (key_group (key_of r)))

pub by_key : (r : Row) → apart r.kind ≡ false → group_of r ≡ key_group (key_of r)
unfolding group_of
by_key r e = go (is kind_lot r) (is kind_request r) refl refl e
  where
    go : (l q : Bool) → is kind_lot r ≡ l → is kind_request r ≡ q → (l || q) ≡ false
        → cond (is kind_lot r) (lot_group r.party r.symbol)
        (cond (is kind_request r) (request_group r.symbol) (key_group (key_of r)))
        ≡ key_group (key_of r)
    go true q a b h = absurd (false≢true (sym h))
    go false true a b h = absurd (false≢true (sym h))
    go false false a b h = rw (a, b)

pub group_kind : (r : Row) → (group_of r).kind ≡ r.kind
unfolding group_of key_group key_of
group_kind r = go (is kind_lot r) (is kind_request r) refl refl
  where
    go : (l q : Bool) → is kind_lot r ≡ l → is kind_request r ≡ q
        → (cond (is kind_lot r) (lot_group r.party r.symbol)
        (cond (is kind_request r) (request_group r.symbol) (key_group (key_of r)))).kind
        ≡ r.kind
    go true q a b = rw a (sym (eqb-true r.kind kind_lot a))
    go false true a b = rw (a, b) (sym (eqb-true r.kind kind_request b))
    go false false a b = rw (a, b)

-- as the code finds it for a row that is neither a band nor a charge
both_no : (a b : Bool) → (a || b) ≡ false → (a ≡ false) × (b ≡ false)
both_no true b e = absurd (false≢true (sym e))
both_no false b e = (refl, e)

abbrev group_by : Row → Bool → Bool → Key
group_by r lot request =
    cond lot (lot_group r.party r.symbol) (cond request (request_group r.symbol) (key_group (key_of r)))

pub common_group : (r : Row) {p i : ℕ} {s : Symbol} {m : Marks}
    → (eqb r.kind kind_band || eqb r.kind kind_charge) ≡ false → m ≡ marks_of r.kind all_keys
    → p ≡ cond (m.party || is kind_lot r) r.party 0 → i ≡ cond (m.id && not (apart r.kind)) r.id 0
    → s ≡ cond (m.symbol || apart r.kind) r.symbol no_symbol → a_group r.kind 0 0 0 p i s ≡ group_of r
unfolding group_of key_group key_of
common_group r {p} {i} {s} {m} n em ep ei es =
    rw (ep, ei, es, em, marks_are r.kind)
    (go (is kind_lot r) (is kind_request r) (eqb r.kind kind_trade_history) refl refl refl)
  where
    go : (t q u : Bool) → is kind_lot r ≡ t → is kind_request r ≡ q → eqb r.kind kind_trade_history ≡ u
        → a_group r.kind 0 0 0 (cond (among r.kind by_party || is kind_lot r) r.party 0)
        (cond (among r.kind by_id && not (apart r.kind)) r.id 0)
        (cond (among r.kind by_symbol || apart r.kind) r.symbol no_symbol)
        ≡ group_by r (is kind_lot r) (is kind_request r)
    go true q u e g f = rw (eqb-true r.kind kind_lot e)
    go false true u e g f = rw (eqb-true r.kind kind_request g)
    go false false true e g f =
        let o = both_no (eqb r.kind kind_band) (eqb r.kind kind_charge) n in
        rw (e, g, o.0, o.1, f) (simp (or_false, and_true))
    go false false false e g f =
        let o = both_no (eqb r.kind kind_band) (eqb r.kind kind_charge) n in
        rw (e, g, o.0, o.1, f) (simp (or_false, and_true))

-- and for one that is
pub rare_group : (r : Row) {k : Key} → (eqb r.kind kind_band || eqb r.kind kind_charge) ≡ true → k ≡ key_of r
    → key_group k ≡ group_of r
unfolding group_of
rare_group r {k} h q = go (is kind_lot r) (is kind_request r) refl refl
  where
    go : (t u : Bool) → is kind_lot r ≡ t → is kind_request r ≡ u
        → key_group k ≡ group_by r (is kind_lot r) (is kind_request r)
    go true u e g = absurd (false≢true (rw (eqb-true r.kind kind_lot e) at h))
    go false true e g = absurd (false≢true (rw (eqb-true r.kind kind_request g) at h))
    go false false e g = rw (e, g, q)

-- ---- buckets
abbrev pub most_heads : ℕ
most_heads = 32_768

unfoldable pub spread : ℕ → ℕ
spread id = id % 4_294_967_296 * 511_659_861 + id / 4_294_967_296 * 496_329_549

unfoldable pub letters : Symbol → ℕ
letters symbol =
    symbol_number symbol / 4_294_967_296 * 530_544_139 + symbol_number symbol % 4_294_967_296 * 335_384_881

unfoldable pub hash_of : Key → ℕ
hash_of k =
    ((k.kind + k.form * 256 + k.status * 65_536 + k.flags * 16_777_216) * 331_315_835 + k.party * 428_851_817
    + spread k.id + letters k.symbol) % 4_294_967_296

unfoldable pub bucket_of : ℕ → Key → ℕ
bucket_of size k = cond (eqb k.kind kind_free) (size - 1) (hash_of k * (size - 1) / 4_294_967_296)

unfoldable pub row_bucket : ℕ → Row → ℕ
row_bucket size r = bucket_of size (group_of r)

hash_bound : (k : Key) → hash_of k < 4_294_967_296
unfolding hash_of
hash_bound k = omega arith

pub scaled : (h m : ℕ) → h < 4_294_967_296 → h * m ≤ 4_294_967_295 * m
scaled h m z = mul-le-mul_right m (omega arith)

-- a row that is not free has another bucket than those that are
pub live_bucket : (size : ℕ) (k : Key) → 2 ≤ size → eqb k.kind kind_free ≡ false → bucket_of size k < size - 1
unfolding bucket_of
live_bucket size k z e =
    let s = scaled (hash_of k) (size - 1) (hash_bound k) in
    rw e (omega arith)

pub free_bucket : (size : ℕ) (k : Key) → eqb k.kind kind_free ≡ true → bucket_of size k ≡ size - 1
unfolding bucket_of
free_bucket size k e = rw e

pub bucket_bound : (size : ℕ) (k : Key) → 1 ≤ size → bucket_of size k < size
unfolding bucket_of
bucket_bound size k z = go (eqb k.kind kind_free) refl
  where
    go : (t : Bool) → eqb k.kind kind_free ≡ t
        → cond (eqb k.kind kind_free) (size - 1) (hash_of k * (size - 1) / 4_294_967_296) < size
    go true e = rw e (omega arith)
    go false e = let s = scaled (hash_of k) (size - 1) (hash_bound k) in rw e (omega arith)

pub row_bound : (size : ℕ) → 1 ≤ size → (r : Row) → row_bucket size r < size
unfolding row_bucket
row_bound size z r = bucket_bound size (group_of r) z

pub same_bucket : (size : ℕ) (r s : Row) → group_of r ≡ group_of s → row_bucket size r ≡ row_bucket size s
unfolding row_bucket
same_bucket size r s e = ap (bucket_of size) e

-- ---- as the code computes them
pub a_hash : (k : Key) {a b c d p i s : ℕ} → a ≡ k.kind → b ≡ k.form → c ≡ k.status → d ≡ k.flags → p ≡ k.party
    → i ≡ spread k.id → s ≡ letters k.symbol
    → ((a + b * 256 + c * 65_536 + d * 16_777_216) * 331_315_835 + p * 428_851_817 + i + s) % 4_294_967_296 ≡ hash_of k
unfolding hash_of
a_hash k ea eb ec ed ep ei es = rw (ea, eb, ec, ed, ep, ei, es)

a_product : (size : ℕ) (k : Key) {h o : ℕ} → (k.kind ≡ kind_free → ⊥) → h ≡ hash_of k → o ≡ size - 1
    → h * o / 4_294_967_296 ≡ bucket_of size k
unfolding bucket_of
a_product size k n e f = rw (ne_eqb k.kind kind_free n, e, f)

pub a_bucket : {size : ℕ} (k : Key) {h o : ℕ} → 1 ≤ size → (k.kind ≡ kind_free → ⊥) → h ≡ hash_of k → o ≡ size - 1
    → (h * o / 4_294_967_296 ≡ bucket_of size k) × (h * o / 4_294_967_296 < size)
a_bucket {size} k z n e f =
    let same = a_product size k n e f in
    (same, rw same (bucket_bound size k z))

-- ---- rows of one group, for a row that gives way to another in its place
module _ (r s : Row) where
  pub trade_stays : r.kind ≡ kind_trade → s.kind ≡ kind_trade → r.id ≡ s.id → group_of r ≡ group_of s
  unfolding group_of key_group key_of
  trade_stays e f h = rw (e, f, h)

  pub security_stays : r.kind ≡ kind_security → s.kind ≡ kind_security → r.symbol ≡ s.symbol → group_of r ≡ group_of s
  unfolding group_of key_group key_of
  security_stays e f h = rw (e, f, h)

  pub account_stays : r.kind ≡ kind_account → s.kind ≡ kind_account → r.party ≡ s.party → group_of r ≡ group_of s
  unfolding group_of key_group key_of
  account_stays e f h = rw (e, f, h)

  pub broker_stays : r.kind ≡ kind_broker → s.kind ≡ kind_broker → r.party ≡ s.party → group_of r ≡ group_of s
  unfolding group_of key_group key_of
  broker_stays e f h = rw (e, f, h)

  pub summary_stays : r.kind ≡ kind_summary → s.kind ≡ kind_summary → r.party ≡ s.party → r.symbol ≡ s.symbol
      → group_of r ≡ group_of s
  unfolding group_of key_group key_of
  summary_stays e f h k = rw (e, f, h, k)

  pub lot_stays : r.kind ≡ kind_lot → s.kind ≡ kind_lot → r.party ≡ s.party → r.symbol ≡ s.symbol
      → group_of r ≡ group_of s
  unfolding group_of
  lot_stays e f h k = rw (e, f, h, k)
