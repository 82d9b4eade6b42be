-- The marks of the rows that hang on a trade. Two rows of one slot have one key, so that S2 is broken where a slot
-- would be marked twice; and in a book that keeps S1 and S2 the marks at a trade tell which rows hang on it. Assumes
-- nothing.
use Rattle.std.specs.Prelude.{◌≡◌, Bool, not, ◌&&◌, ◌||◌, List, [], ◌∷◌, ℕ, ◌+◌, ◌*◌, ◌/◌, ◌≤◌, ◌<◌, eqb, leb, length}
use Rattle.std.proofs.Math.Path.{refl, sym, ap}
use Rattle.std.proofs.Common.{◌∙◌}
use Rattle.std.proofs.Math.Bool.{true, false, false≢true}
use Rattle.std.proofs.Math.Nat.{add-zero}
use native.Mathlib.Omega.{arith}
use Rattle.std.proofs.Math.Dec.{ltb}
use Rattle.std.proofs.Math.ListN.{get_or}
use borrow.Author.Tests.{eq-eqb, eqb-false, eqb-true, lt-ltb, ltb-true, ltb-false}
use Rattle.laws.specs.Marks.{Marked}
use Rattle.laws.specs.Place.{every_at, some_place}
use Rattle.laws.specs.Search.{bit, count, place}
use Rattle.laws.specs.Tests.{and_both, and_left, and_right}
use Rattle.laws.specs.Walk.{from_holds, from_most}
use Rattle.record.specs.Codes.{completed, kind_cash, kind_lot, kind_request, kind_settlement, kind_trade, kind_trade_history}
use Rattle.record.specs.Codes.{pending, tlb}
use Rattle.record.specs.declared.row.Row.{Row}
use Rattle.kinds.specs.Kinds.{trade_of}
use Rattle.kinds.specs.declared.rows.Trade.{Trade}
use Rattle.keys.specs.Key.{among, key_of}
use Rattle.keys.specs.KeyLaws.{keys_tell, same_keys}
use Rattle.keys.specs.declared.Key.{Key}
use Rattle.rules.specs.Meaning.{means_trade, means_trade_history}
use Rattle.rules.specs.Rules.{as_kind, fits}
use Rattle.model.specs.Flags.{cash}
use Rattle.model.specs.Names.{a_cash, a_history, a_request, a_settlement, a_trade, by_id}
use Rattle.model.specs.Rows.{has_key, is, most_records, nothing, rows, there}
use Rattle.model.specs.Sound.{s1, s2}
use Rattle.facts.specs.Rows.{length_rows}
use Rattle.facts.specs.Found.{own_number}
use Rattle.facts.specs.Names.{by_id_holds, by_status_holds, history_twin, id_kinds, of_five, of_id}
use Rattle.places.specs.Rows.{row_at}
use Rattle.clauses.specs.Hung.{hangs, hung_kinds, no_offset, offset, offset_as, offsets}
use Rattle.by_kind.specs.Distinct.{last_none, unique_last}
use Rattle.by_kind.specs.Hung.{home, hung, slot}
use Rattle.by_kind.specs.Once.{once, one_bit}

-- ---- what S1 says of a status
history_status : (r : Row) → fits r ≡ true → r.kind ≡ kind_trade_history → (1 ≤ r.status) × (r.status ≤ 3)
history_status r f e =
    let l = (means_trade_history r).shows (as_kind kind_trade_history r e ∙ f) in
    (l.2.2.0, l.2.2.1)

trade_status_holds : (r : Row) → fits r ≡ true → r.kind ≡ kind_trade → (1 ≤ r.status) × (r.status ≤ 3)
trade_status_holds r f e =
    let l = ((means_trade r).shows (as_kind kind_trade r e ∙ f)).0.0.0 in
    (l.2.2.0, l.2.2.1)

-- ---- an offset tells the kind
abbrev kinds_by : List ℕ
kinds_by =
    kind_request ∷ kind_trade_history ∷ kind_trade_history ∷ kind_trade_history ∷ 0 ∷ kind_lot ∷ kind_settlement ∷ kind_cash ∷ []

of_status : (s : ℕ) → 1 ≤ s → s ≤ 3 → get_or kinds_by s 0 ≡ kind_trade_history
of_status s a b = go (eqb s 1) (eqb s 2) refl refl
  where
    go : (t u : Bool) → eqb s 1 ≡ t → eqb s 2 ≡ u → get_or kinds_by s 0 ≡ kind_trade_history
    go true u e f = rw (eqb-true s 1 e)
    go false true e f = rw (eqb-true s 2 f)
    go false false e f =
        let n : (s ≡ 1 → ⊥) = eqb-false s 1 e in
        let m : (s ≡ 2 → ⊥) = eqb-false s 2 f in
        let z : s ≡ 3 = omega arith in
        rw z

abbrev Told : Row → Type 0
Told r = (get_or kinds_by (offset r) 0 ≡ r.kind) × (offset r < 8)

told : (r : Row) → fits r ≡ true → hangs r ≡ true → Told r
told r f h =
    of_five (λ (k : ℕ). r.kind ≡ k → Told r) r.kind kind_request kind_trade_history kind_lot kind_settlement kind_cash
    (λ e. as_told kind_request e refl (omega arith))
    (λ e.
    let s = history_status r f e in
    let low = s.0 in
    let high = s.1 in
    as_told kind_trade_history e (of_status r.status low high) (omega arith))
    (λ e. as_told kind_lot e refl (omega arith))
    (λ e. as_told kind_settlement e refl (omega arith))
    (λ e. as_told kind_cash e refl (omega arith))
    h refl
  where
    as_told : (k : ℕ) → r.kind ≡ k → get_or kinds_by (get_or offsets k no_offset r) 0 ≡ k → get_or offsets k no_offset r < 8
        → Told r
    as_told k e p q =
        let o = offset_as k r e in
        (ap (λ (x : ℕ). get_or kinds_by x 0) o ∙ p ∙ sym e, rw o q)

-- ---- one home is one number
module _ (rs : List Row) where
  home_number : (r : Row) (c : ℕ) → home rs r ≡ c → c < length rs
      → ((get_or rs c nothing).kind ≡ kind_trade) × ((get_or rs c nothing).id ≡ r.id)
  unfolding home
  home_number r c e h =
      let k = has_key (a_trade r.id) in
      let t = get_or rs c nothing in
      let has : k t ≡ true = rw e at (from_holds k rs 0 nothing (rw e h)) in
      let both = sym (by_id_holds kind_trade refl r.id t) ∙ has in (
        eqb-true t.kind kind_trade (and_left (is kind_trade t) (eqb t.id r.id) both),
        eqb-true t.id r.id (and_right (is kind_trade t) (eqb t.id r.id) both),
      )

  one_key : (r s : Row) → hangs r ≡ true → s.kind ≡ r.kind → s.id ≡ r.id → offset s ≡ offset r
      → has_key (key_of r) s ≡ true
  unfolding has_key
  one_key r s h k i o =
      of_five (λ (x : ℕ). r.kind ≡ x → has_key (key_of r) s ≡ true) r.kind kind_request kind_trade_history kind_lot
      kind_settlement kind_cash
      (by_number kind_request refl)
      (λ e.
      let t : s.status ≡ r.status = sym (offset_as kind_trade_history s (k ∙ e)) ∙ o ∙ offset_as kind_trade_history r e in
      sym (history_twin r s k e)
      ∙ and_both (eqb s.id r.id) (eqb s.status r.status) (eq-eqb s.id r.id i)
      (eq-eqb s.status r.status t))
      (by_number kind_lot refl)
      (by_number kind_settlement refl)
      (by_number kind_cash refl)
      h refl
    where
      by_number : (x : ℕ) → among x id_kinds ≡ true → r.kind ≡ x → has_key (key_of r) s ≡ true
      by_number x a e =
          let own = same_keys (key_of r) (by_id x r.id) (own_number x a r.id r (eq-eqb r.kind x e) refl) in
          rw own (own_number x a r.id s (eq-eqb s.kind x (k ∙ e)) i)

  -- two rows of one slot have one key
  pub slot_key : (r s : Row) → fits r ≡ true → fits s ≡ true → hangs r ≡ true → hangs s ≡ true
      → home rs s < length rs → slot rs r ≡ slot rs s → (s.kind ≡ r.kind) × (has_key (key_of r) s ≡ true)
  slot_key r s f g h k inside q =
      let a = told r f h in
      let b = told s g k in
      let small = a.1 in
      let short = b.1 in
      let o : offset s ≡ offset r = omega arith in
      let p : home rs r ≡ home rs s = omega arith in
      let i = (home_number r (home rs s) p inside).1 in
      let j = (home_number s (home rs s) refl inside).1 in
      let kind : s.kind ≡ r.kind = sym b.0 ∙ ap (λ (x : ℕ). get_or kinds_by x 0) o ∙ a.0 in
      (kind, one_key r s h kind (sym j ∙ i) o)

  -- and the other way round
  pub key_slot : (r s : Row) → hangs r ≡ true → has_key (key_of r) s ≡ true → slot rs r ≡ slot rs s
  unfolding has_key home
  key_slot r s h e =
      let a = keys_tell s r (same_keys (key_of s) (key_of r) e) in
      let id : s.id ≡ r.id =
      of_five (λ (x : ℕ). r.kind ≡ x → s.id ≡ r.id) r.kind kind_request kind_trade_history kind_lot kind_settlement
      kind_cash
      (λ k. a.id (rw (a.kind, k)))
      (λ k. a.id (rw (a.kind, k)))
      (λ k. a.id (rw (a.kind, k)))
      (λ k. a.id (rw (a.kind, k)))
      (λ k. a.id (rw (a.kind, k)))
      h refl
      in
      let o : offset s ≡ offset r =
      of_five (λ (x : ℕ). r.kind ≡ x → offset s ≡ offset r) r.kind kind_request kind_trade_history kind_lot
      kind_settlement kind_cash
      (λ k. offset_as kind_request s (a.kind ∙ k) ∙ sym (offset_as kind_request r k))
      (λ k.
      offset_as kind_trade_history s (a.kind ∙ k) ∙ a.status (rw (a.kind, k)) ∙ sym (offset_as kind_trade_history r k))
      (λ k. offset_as kind_lot s (a.kind ∙ k) ∙ sym (offset_as kind_lot r k))
      (λ k. offset_as kind_settlement s (a.kind ∙ k) ∙ sym (offset_as kind_settlement r k))
      (λ k. offset_as kind_cash s (a.kind ∙ k) ∙ sym (offset_as kind_cash r k))
      h refl
      in
      let same : home rs s ≡ home rs r = ap (λ (x : ℕ). place (has_key (a_trade x)) rs) id in
      omega arith

  pub small_offset : (r : Row) → fits r ≡ true → hangs r ≡ true → offset r < 8
  small_offset r f h = (told r f h).1

-- ---- the places that are marked, those of lower kinds and of lower places of a kind first
abbrev pub slot_at : List ℕ → ℕ → ℕ
slot_at b j = slot (rows b) (row_at b j)

pub record Past (b : List ℕ) (w j : ℕ) : Type 0 where
  pub inside : j < length b / 64
  pub hung : hangs (row_at b j) ≡ true
  pub early : (row_at b j).kind * 4096 + j < w

abbrev pub all_past : ℕ
all_past = (kind_cash + 1) * 4096

pub hung_low : (k : ℕ) → among k hung_kinds ≡ true → k ≤ kind_cash
hung_low k h =
    of_five (λ (x : ℕ). x ≤ kind_cash) k 10 11 12 15 16 (omega arith) (omega arith) (omega arith) (omega arith)
    (omega arith) h

pub record MarkedTo (b : List ℕ) (w : ℕ) (m : List ℕ) : Type 0 where
  pub few : length b / 64 ≤ most_records
  pub long : 8 * (length b / 64) ≤ length m
  pub marked : Marked (slot_at b) (Past b w) m

-- ---- at a trade of a book that keeps S1 and S2, all marked
module _ (b : List ℕ) (fit : s1 (rows b) ≡ true) (unique : s2 (rows b) ≡ true) (c : ℕ) (in_book : c < length b / 64)
    (trade : (row_at b c).kind ≡ kind_trade) where
  fits_at : (j : ℕ) → j < length b / 64 → fits (row_at b j) ≡ true
  unfolding s1
  fits_at j h = every_at fits nothing (rows b) j fit (rw length_rows h)

  own_home : place (has_key (a_trade (row_at b c).id)) (rows b) ≡ c
  unfolding has_key key_of
  own_home =
      let k = has_key (a_trade (row_at b c).id) in
      let x = place k (rows b) in
      let is_trade = eq-eqb (row_at b c).kind kind_trade trade in
      let mine = own_number kind_trade refl (row_at b c).id (row_at b c) is_trade refl in
      let most = from_most k nothing (rows b) 0 c (omega arith) (rw length_rows in_book) mine in
      let least = first mine (ltb x c) refl in
      omega arith
    where
      first : has_key (a_trade (row_at b c).id) (row_at b c) ≡ true → (t : Bool)
          → ltb (place (has_key (a_trade (row_at b c).id)) (rows b)) c ≡ t
          → c ≤ place (has_key (a_trade (row_at b c).id)) (rows b)
      first mine true e =
          let k = has_key (a_trade (row_at b c).id) in
          let x = place k (rows b) in
          let low = ltb-true x c e in
          let n = length_rows b in
          let has = from_holds k (rows b) 0 nothing (omega arith) in
          let key = same_keys (key_of (row_at b x)) (a_trade (row_at b c).id) has in
          let kind : (row_at b x).kind ≡ kind_trade = ap (λ (y : Key). y.kind) key in
          let alone = unique_last b unique x (omega arith) in
          let none = last_none b x (omega arith) (λ z. omega arith) alone c low in_book in
          absurd (false≢true (sym (rw key at none) ∙ mine))
      first mine false e = ltb-false (place (has_key (a_trade (row_at b c).id)) (rows b)) c e

  -- a mark tells whether a row of the key hangs on the trade
  module _ (m : List ℕ) (all : MarkedTo b all_past m) (x : Key) (k o : ℕ) (hung_kind : among k hung_kinds ≡ true)
      (small : o < 8) (tells : get_or kinds_by o 0 ≡ k)
      (shows : (r : Row) → has_key x r ≡ true → (r.kind ≡ k) × (r.id ≡ (row_at b c).id) × (offset r ≡ o))
      (makes : (r : Row) → r.kind ≡ k → r.id ≡ (row_at b c).id → offset r ≡ o → has_key x r ≡ true) where
    mark_is : get_or m (c * 8 + o) 0 ≡ bit (there x (rows b))
    unfolding there home
    mark_is = go (there x (rows b)) refl
      where
        go : (t : Bool) → there x (rows b) ≡ t → get_or m (c * 8 + o) 0 ≡ bit (there x (rows b))
        go true e =
            let p = has_key x in
            let j = place p (rows b) in
            let n = length_rows b in
            let h = ltb-true j (length (rows b)) (sym (some_place p (rows b)) ∙ e) in
            let r = row_at b j in
            let told = shows r (from_holds p (rows b) 0 nothing h) in
            let kind = told.0 in
            let most = all.few in
            let low = hung_low k hung_kind in
            let past : Past b all_past j =
            record { inside = omega arith; hung = rw kind hung_kind; early = omega arith }
            in
            let at : slot_at b j ≡ c * 8 + o = rw (told.1, own_home, told.2) in
            rw (e, ← at) (all.marked.each j past)
        go false e =
            rw e (all.marked.none (c * 8 + o)
            (λ j past q.
            let r = row_at b j in
            let is-told = told r (fits_at j past.inside) past.hung in
            let short = is-told.1 in
            let off : offset r ≡ o = omega arith in
            let at : home (rows b) r ≡ c = omega arith in
            let number = (home_number (rows b) r c at (rw length_rows in_book)).1 in
            let has = makes r (sym is-told.0 ∙ rw off tells) (sym number) off in
            let n = length_rows b in
            let i = past.inside in
            let some = from_most (has_key x) nothing (rows b) 0 j (omega arith) (omega arith) has in
            false≢true (sym e ∙ some_place (has_key x) (rows b)
            ∙ lt-ltb (place (has_key x) (rows b)) (length (rows b)) (omega arith))))

  -- of a key that is a number
  module _ (m : List ℕ) (all : MarkedTo b all_past m) where
    number_mark : (k o : ℕ) → among k hung_kinds ≡ true → among k id_kinds ≡ true → o < 8 → get_or kinds_by o 0 ≡ k
        → ((r : Row) → r.kind ≡ k → offset r ≡ o)
        → get_or m (c * 8 + o) 0 ≡ bit (there (by_id k (row_at b c).id) (rows b))
    number_mark k o h a small tells off =
        let i = (row_at b c).id in
        mark_is m all (by_id k i) k o h small tells
        (λ r e.
        let both = sym (by_id_holds k a i r) ∙ e in
        let kind = eqb-true r.kind k (and_left (is k r) (eqb r.id i) both) in
        (kind, eqb-true r.id i (and_right (is k r) (eqb r.id i) both), off r kind))
        (λ r e f g. own_number k a i r (eq-eqb r.kind k e) f)

    request_mark : get_or m (c * 8 + 0) 0 ≡ bit (there (a_request (row_at b c).id) (rows b))
    request_mark = number_mark kind_request 0 refl refl (omega arith) refl (offset_as kind_request)

    settlement_mark : get_or m (c * 8 + 6) 0 ≡ bit (there (a_settlement (row_at b c).id) (rows b))
    settlement_mark = number_mark kind_settlement 6 refl refl (omega arith) refl (offset_as kind_settlement)

    cash_mark : get_or m (c * 8 + 7) 0 ≡ bit (there (a_cash (row_at b c).id) (rows b))
    cash_mark = number_mark kind_cash 7 refl refl (omega arith) refl (offset_as kind_cash)

    history_mark : get_or m (c * 8 + (row_at b c).status) 0
        ≡ bit (there (a_history (row_at b c).id (row_at b c).status) (rows b))
    history_mark =
        let t = row_at b c in
        let s = trade_status_holds t (fits_at c in_book) trade in
        let low = s.0 in
        let high = s.1 in
        let h : Row → Bool = λ r. of_id kind_trade_history t.id r in
        mark_is m all (a_history t.id t.status) kind_trade_history t.status refl (omega arith)
        (of_status t.status low high)
        (λ r e.
        let both = sym (by_status_holds t.id t.status r) ∙ e in
        let one = and_left (h r) (eqb r.status t.status) both in
        let kind = eqb-true r.kind kind_trade_history (and_left (is kind_trade_history r) (eqb r.id t.id) one) in (
          kind,
          eqb-true r.id t.id (and_right (is kind_trade_history r) (eqb r.id t.id) one),
          offset_as kind_trade_history r kind
              ∙ eqb-true r.status t.status (and_right (h r) (eqb r.status t.status) both),
        ))
        (λ r e f g.
        by_status_holds t.id t.status r
        ∙ and_both (h r) (eqb r.status t.status)
        (and_both (is kind_trade_history r) (eqb r.id t.id) (eq-eqb r.kind kind_trade_history e)
        (eq-eqb r.id t.id f))
        (eq-eqb r.status t.status (sym (offset_as kind_trade_history r e) ∙ g)))

    -- what a trade asks of the rows that hang on it, by the marks
    pub hung_is : {t : Trade} {i o p q : ℕ} → t ≡ trade_of (row_at b c) → i ≡ t.status
        → o ≡ bit (eqb t.status pending) → p ≡ bit (eqb t.status completed)
        → q ≡ bit (eqb t.status completed && cash t.flags)
        → (eqb (get_or m (c * 8) 0) o && (not (eqb t.status pending) || leb tlb t.trade_type)
        && eqb (get_or m (c * 8 + i) 0) 1 && eqb (get_or m (c * 8 + 6) 0) p && eqb (get_or m (c * 8 + 7) 0) q)
        ≡ hung (rows b) (row_at b c)
    unfolding trade_of
    hung_is row ei eo ep eq =
        let t = row_at b c in
        let x : get_or m (c * 8) 0 ≡ count (has_key (a_request t.id)) (rows b) =
        rw add-zero at request_mark ∙ sym (once (rows b) unique (a_request t.id) (λ e. omega arith))
        in
        let z = settlement_mark ∙ sym (once (rows b) unique (a_settlement t.id) (λ e. omega arith)) in
        let w = cash_mark ∙ sym (once (rows b) unique (a_cash t.id) (λ e. omega arith)) in
        rw (eo, ep, eq, ei, row, x, history_mark, one_bit, z, w)

  -- a trade's status has a mark
  pub status_low : {t : Trade} {i : ℕ} → t ≡ trade_of (row_at b c) → i ≡ t.status → i ≤ 3
  unfolding trade_of
  status_low row e =
      let low = (trade_status_holds (row_at b c) (fits_at c in_book) trade).1 in
      let z : _ ≡ (row_at b c).status = e ∙ ap (λ (u : Trade). u.status) row in
      omega arith
