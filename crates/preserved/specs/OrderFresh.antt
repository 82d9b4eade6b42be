-- An order that is taken: what it read, the rows that it adds, and that its number is new. No row of the book has it,
-- for each that has a number names a trade that is there. Assumes nothing.
use Rattle.std.specs.Prelude.{◌≡◌, Bool, false, ℕ, ◌+◌, ◌≤◌, ◌<◌, leb, length}
use Rattle.std.proofs.Math.Path.{refl, ap, subst}
use Rattle.std.proofs.Common.{sym, ◌∙◌, ⊎_elim, arith, eqb-true, le-leb}
use Rattle.std.proofs.Math.Bool.{true, cond}
use mathlib.Core.List.{List, [], ◌∷◌, Memᴰ}
use Rattle.std.proofs.Math.Dec.{eqb}
use Rattle.laws.specs.All.{All, all_cond, all_more, all_none, all_one}
use Rattle.laws.specs.Keep.{the_has}
use Rattle.laws.specs.Place.{the_passes}
use Rattle.laws.specs.Search.{bit, count, largest, the, total}
use Rattle.laws.specs.Tests.{or_cases}
use Rattle.laws.specs.Puts.{count_no}
use Rattle.record.specs.Codes.{kind_cash, kind_lot, kind_lot_history, kind_request, kind_settlement, kind_trade}
use Rattle.record.specs.Codes.{kind_trade_history, tms}
use Rattle.keys.specs.Key.{among, by_id, key_of}
use Rattle.keys.specs.KeyLaws.{same_keys}
use Rattle.keys.specs.declared.Key.{Key}
use Rattle.record.specs.declared.row.Row.{Row}
use Rattle.rules.specs.Ranges.{charged, fee, price_most, trade_number}
use Rattle.rules.specs.Rules.{order_input}
use Rattle.model.specs.Names.{a_security, a_trade, an_account, named}
use Rattle.model.specs.Order.{trade_id, added_rows, request_row, trade_row, first_status}
use Rattle.model.specs.Rows.{found, has_key, nothing, same_row}
use Rattle.model.specs.Sound.{sound}
use Rattle.model.specs.SoundMeans.{SoundBook, There, means_sound}
use Rattle.model.specs.History.{history_row}
use Rattle.facts.specs.Names.{of_five}
use Rattle.facts.specs.Keys.{key_kind}
use Rattle.preserved.specs.Cases.{not_so}
use Rattle.preserved.specs.ResultTrades.{number_is}

-- ---- the largest
largest_most : {A : Type 0} (f : A → ℕ) (x : A) (l : List A) → Memᴰ x l → f x ≤ largest f l
unfolding largest
largest_most {A = A} f x [] m = elim m [ ]
largest_most f x (y ∷ l) (Memᴰ.head q) = let e : f x ≡ f y = ap f q in omega arith
largest_most f x (y ∷ l) (Memᴰ.tail m) = let h = largest_most f x l m in omega arith

three : {A : Type 0} (p : A → Bool) (a b c : A) (t x y z : Bool) → p a ≡ x → p b ≡ y → (t ≡ false → p c ≡ z)
    → count p (a ∷ b ∷ cond t [] (c ∷ [])) ≡ bit x + (bit y + cond t 0 (bit z))
unfolding count total
three p a b c true x y z ea eb ec = rw (ea, eb)
three p a b c false x y z ea eb ec = rw (ea, eb, ec refl) (omega arith)

-- what an order read, and what it has passed
pub record Taken (rs : List Row) (input : Row) (broker number price charge commission : ℕ) : Type 0 where
  pub good : sound rs ≡ true
  pub right : order_input input ≡ true
  pub account : There (an_account input.party) rs
  pub broker_is : (found (an_account input.party) rs).n1 ≡ broker
  pub security : There (a_security input.symbol) rs
  pub next : number ≡ largest trade_id rs + 1
  pub number_most : number ≤ trade_number.high
  pub price_least : 1 ≤ price
  pub price_most : price ≤ price_most
  pub charge_most : charge ≤ charged.high
  pub commission_most : commission ≤ fee.high
  pub space : length (added_rows input broker number price charge commission) ≤ count (same_row nothing) rs

module _ {rs : List Row} {input : Row} {broker number price charge commission : ℕ}
    (o : Taken rs input broker number price charge commission) where
  abbrev pub book : SoundBook rs
  book = (means_sound rs).shows o.good

  -- ---- the rows that come
  abbrev pub added : List Row
  added = added_rows input broker number price charge commission

  abbrev pub trade : Row
  trade = trade_row input number price charge commission

  abbrev pub history : Row
  history = history_row (first_status input) number input.time

  abbrev pub request : Row
  request = request_row input broker number price

  pub each_added : (P : Row → Type 0) → P trade → P history → (leb input.form tms ≡ false → P request)
      → All P added
  each_added P t h r =
      all_more P trade _ t (all_more P history _ h
      (all_cond P (leb input.form tms) [] (request ∷ []) (λ e. all_none P) (λ e. all_one P request (r e))))

  -- how many of them pass a test
  pub count_added : (p : Row → Bool) {x y z : Bool} → p trade ≡ x → p history ≡ y
      → (leb input.form tms ≡ false → p request ≡ z)
      → count p added ≡ bit x + (bit y + cond (leb input.form tms) 0 (bit z))
  count_added p {x} {y} {z} a b c = three p trade history request (leb input.form tms) x y z a b c

  -- ---- the number
  pub trade_below : (x : Row) → Memᴰ x rs → x.kind ≡ kind_trade → x.id < number
  trade_below x m k =
      let h : trade_id x ≤ largest trade_id rs = largest_most trade_id x rs m in
      let e : trade_id x ≡ x.id = rw k in
      let n = o.next in
      omega arith

  there_below : (i : ℕ) → There (a_trade i) rs → i < number
  there_below i h =
      let some = le-leb 1 (count (has_key (a_trade i)) rs) h in
      let x = the (has_key (a_trade i)) nothing rs in
      let own = the_passes (has_key (a_trade i)) nothing rs some in
      let below = trade_below x (the_has (has_key (a_trade i)) nothing rs some) (key_kind (a_trade i) x own) in
      let e : x.id ≡ i = number_is kind_trade refl i x own in
      omega arith

  -- a row that names the trade of its number
  names_below : (x : Row) → Memᴰ x rs → Memᴰ (a_trade x.id) (named x) → x.id < number
  names_below x m h = there_below x.id (book.s3 x m (a_trade x.id) h)

  -- every row that has a number
  abbrev Below : ℕ → Type 0
  Below k = (x : Row) → Memᴰ x rs → x.kind ≡ k → x.id < number

  pub number_below : (x : Row) → Memᴰ x rs → among x.kind by_id ≡ true → x.id < number
  unfolding named
  number_below x m e = go x.kind e x m refl
    where
      at : (k j : ℕ) → Below j → eqb k j ≡ true → Below k
      at k j h q = subst Below (sym (eqb-true k j q)) h

      go : (k : ℕ) → among k by_id ≡ true → Below k
      go k q =
          ⊎_elim
          (λ six.
          ⊎_elim
          (of_five Below k kind_trade kind_request kind_trade_history kind_lot kind_lot_history
          trade_below
          (λ y n h. names_below y n (rw h (Memᴰ.head refl)))
          (λ y n h. names_below y n (rw h (Memᴰ.head refl)))
          (λ y n h. names_below y n (rw h (Memᴰ.head refl)))
          (λ y n h. names_below y n (rw h (Memᴰ.head refl))))
          (at k kind_settlement (λ y n h. names_below y n (rw h (Memᴰ.head refl))))
          (or_cases (among k (kind_trade ∷ kind_request ∷ kind_trade_history ∷ kind_lot ∷ kind_lot_history ∷ []))
          (eqb k kind_settlement) six))
          (at k kind_cash (λ y n h. names_below y n (rw h (Memᴰ.head refl))))
          (or_cases
          (among k
          (kind_trade ∷ kind_request ∷ kind_trade_history ∷ kind_lot ∷ kind_lot_history ∷ kind_settlement ∷ []))
          (eqb k kind_cash) q)

  -- so no row has a key of that number
  key_number_holds : (k : Key) (x : Row) → among k.kind by_id ≡ true → has_key k x ≡ true
      → (among x.kind by_id ≡ true) × (x.id ≡ k.id)
  unfolding has_key key_of
  key_number_holds k x known e =
      let same : among x.kind by_id ≡ true = ap (λ (j : ℕ). among j by_id) (key_kind k x e) ∙ known in
      let i : cond (among x.kind by_id) x.id 0 ≡ k.id = ap (λ (y : Key). y.id) (same_keys (key_of x) k e) in
      (same, rw same at i)

  pub not_numbered : (k : Key) → among k.kind by_id ≡ true → k.id ≡ number → (x : Row) → Memᴰ x rs
      → has_key k x ≡ false
  not_numbered k known e x m =
      not_so (has_key k x)
      (λ q.
      let h = key_number_holds k x known q in
      let below = number_below x m h.0 in
      let z = h.1 in
      omega arith)

  pub none_numbered : (k : Key) → among k.kind by_id ≡ true → k.id ≡ number → count (has_key k) rs ≡ 0
  none_numbered k known e = count_no (has_key k) rs (not_numbered k known e)

  -- and no row that comes has a key of another number
  pub other_numbered : (k : Key) → (k.id ≡ number → ⊥) → (h : Row) → among h.kind by_id ≡ true → h.id ≡ number
      → has_key k h ≡ false
  unfolding has_key key_of
  other_numbered k ne h known e =
      not_so (has_key k h)
      (λ q.
      let i : cond (among h.kind by_id) h.id 0 ≡ k.id = ap (λ (y : Key). y.id) (same_keys (key_of h) k q) in
      let j : h.id ≡ k.id = rw known at i in
      ne (sym j ∙ e))
