-- The lots that a trade closes, one after the other: their histories are added in the order of the walk, and those that
-- go stand first, before the one that is closed in part. Assumes nothing.
use Rattle.std.specs.Prelude.{◌≡◌, true, false, cond, ℕ, suc, ◌+◌, ◌-◌, ◌≤◌, ◌<◌, eqb, nat_abs, neg_ℤ, pos, take, get_or, set}
use Rattle.std.proofs.Math.Path.{refl, sym, ap}
use Rattle.std.proofs.Common.{◌∙◌, add-one, eq-eqb, le-ltb, lt-ltb, ne_eqb}
use mathlib.Core.List.{List, [], ◌∷◌, ◌++◌, append-nil, map, tail-eq_of_cons-eq}
use native.Mathlib.Omega.{arith}
use Rattle.std.proofs.Math.ListN.{length, length-map}
use Rattle.std.proofs.Math.Seq.{slice, slice-cons, slice_empty, take-suc}
use Rattle.laws.specs.Change.{fill, sets}
use Rattle.laws.specs.Search.{keep}
use Rattle.record.specs.Codes.{kind_free}
use Rattle.record.specs.Signed.{up}
use Rattle.record.specs.declared.row.Row.{Row}
use Rattle.kinds.specs.Kinds.{lot_of}
use Rattle.units.specs.Units.{shares}
use Rattle.kinds.specs.Written.{lot_row, trade_row}
use Rattle.kinds.specs.declared.rows.Lot.{Lot}
use Rattle.kinds.specs.declared.rows.Trade.{Trade}
use Rattle.units.specs.declared.Shares.{Shares}
use Rattle.rules.specs.Ranges.{price_most, shares_most}
use Rattle.model.specs.Lots.{Closing, closings, size, taken}
use Rattle.model.specs.Order.{trade_id}
use Rattle.model.specs.Result.{closed_lots, closing_rows, holding, lot_changes, lot_history, reduced, signed}
use Rattle.model.specs.Rows.{is, most_records, nothing, rows, same_row}
use Rattle.facts.specs.Lots.{closings_next, closings_none}
use Rattle.places.specs.Rows.{put_at, row_at}
use Rattle.money.specs.Amounts.{UpTo, up_to, value_most}
use Rattle.walk.specs.Walk.{Within, rest_of, stepped}
use Rattle.walk.specs.declared.Walk.{Walk}
use Rattle.chains.specs.Group.{group_of}
use Rattle.upkeep.specs.Added.{Added, Room, added_keeps, room_first, room_next}
use Rattle.directory.specs.Directory.{Directory}
use Rattle.directory.specs.declared.totals.Totals.{Totals}
use Rattle.written.specs.Turned.{Ready, Turned, may_go, may_stay, ready_next, turned_none, turned_one}
use Rattle.closed.specs.declared.Closed.{Closed}

-- the lots at the places of an array from i up to n
abbrev lots_from : List ℕ → List ℕ → ℕ → ℕ → List Row
lots_from b at n i = map (row_at b) (slice i n at)

-- what a walk takes of the first n
abbrev pub closed : List ℕ → List ℕ → ℕ → Walk → List Closing
closed b at n w = closings (up w.need.0) (map (row_at b) (take n at))

-- the history of a lot of which so many shares are left
abbrev pub closing_row : Trade → Lot → Shares → List Row
closing_row x l left =
    lot_history l.no.0 x.no.0 l.shares.0 (neg_ℤ (signed x.trade_type (up left.0))) ∷ []

-- the lot that is closed in part, at its place; none where nothing is left
abbrev pub part_put : Trade → List ℕ → List ℕ → Closed → List (ℕ × Row)
part_put x b at c =
    let p = get_or at c.gone 0 in
    cond (eqb (up c.left.0) 0) []
    ((p, holding (lot_row (lot_of (row_at b p))) (neg_ℤ (signed x.trade_type (up c.left.0)))) ∷ [])

-- each of the first n places has a lot in its ranges
pub record Closable (b : List ℕ) (p : ℕ) : Type 0 where
  pub live : is kind_free (row_at b p) ≡ false
  pub near : size (row_at b p) ≤ shares_most
  pub price : (row_at b p).n1 ≤ price_most

pub record Closables (b at : List ℕ) (n : ℕ) : Type 0 where
  pub each : (k : ℕ) → k < n → Closable b (get_or at k 0)

-- ---- what is taken of the first lot
abbrev taking : ℕ → Row → Closing
taking need l = record { lot = l; shares = taken need l }

-- a lot that is closed in part takes the whole need
part_last : (need : ℕ) (l : Row) (ls : List Row) → (need ≡ 0 → ⊥) → (size l - taken need l ≡ 0 → ⊥)
    → closings need (l ∷ ls) ≡ taking need l ∷ []
part_last need l ls h e =
    closings_next need l ls h
    ∙ ap (λ (cs : List Closing). taking need l ∷ cs) (closings_none (need - taken need l) ls (omega arith))

-- it is closed in whole where nothing is left
whole_none : (need : ℕ) (l : Row) → size l - taken need l ≡ 0 → reduced (taking need l) ≡ false
whole_none need l h = le-ltb (taken need l) (size l) (omega arith)

part_some : (need : ℕ) (l : Row) → (size l - taken need l ≡ 0 → ⊥) → reduced (taking need l) ≡ true
part_some need l h = lt-ltb (taken need l) (size l) (omega arith)

part_gone : (need : ℕ) (l : Row) → reduced (taking need l) ≡ true → closed_lots (taking need l ∷ []) ≡ []
unfolding keep
part_gone need l e = rw e

whole_gone : (need : ℕ) (l : Row) (cs : List Closing) → reduced (taking need l) ≡ false
    → closed_lots (taking need l ∷ cs) ≡ l ∷ closed_lots cs
unfolding keep
whole_gone need l cs e = rw e

part_changes : (t : Row) (need : ℕ) (l : Row) → reduced (taking need l) ≡ true
    → lot_changes t (taking need l ∷ []) ≡ (l, holding l (neg_ℤ (signed t.form (size l - taken need l)))) ∷ []
unfolding keep
part_changes t need l e = rw e

whole_changes : (t : Row) (need : ℕ) (l : Row) (cs : List Closing) → reduced (taking need l) ≡ false
    → lot_changes t (taking need l ∷ cs) ≡ lot_changes t cs
unfolding keep
whole_changes t need l cs e = rw e

-- ---- what is promised
pub record Told (x : Trade) (b₀ at : List ℕ) (n : ℕ) (w₀ : Walk) (t₀ : Totals) (b d : List ℕ) (c : Closed)
    : Type 0 where
  pub added : Added (closing_rows (trade_row x) (closed b₀ at n w₀)) b₀ t₀ b d c.totals
  pub gone : map (row_at b₀) (take c.gone at) ≡ closed_lots (closed b₀ at n w₀)
  pub part : let l = row_at b₀ (get_or at c.gone 0) in
      lot_changes (trade_row x) (closed b₀ at n w₀)
      ≡ cond (eqb (up c.left.0) 0) []
      ((l, holding l (neg_ℤ (signed x.trade_type (up c.left.0)))) ∷ [])
  pub inside : (up c.left.0 ≡ 0 → ⊥) → c.gone < n
  pub within : c.gone ≤ n
  pub left : UpTo shares_most c.left.0

-- ---- the walk: the lots at the places from i on are left with a need
pub record Closings (x : Trade) (b₀ at : List ℕ) (n : ℕ) (w₀ : Walk) (t₀ : Totals) (b d : List ℕ) (t : Totals)
    (w : Walk) (i : ℕ) : Type 0 where
  pub room : Room (closing_rows (trade_row x) (closings (up w.need.0) (lots_from b₀ at n i))) b d t
  pub leads : fill same_row nothing (closing_rows (trade_row x) (closings (up w.need.0) (lots_from b₀ at n i))) (rows b)
      ≡ fill same_row nothing (closing_rows (trade_row x) (closed b₀ at n w₀)) (rows b₀)
  pub count : t.free + length (closed b₀ at n w₀)
      ≡ t₀.free + length (closings (up w.need.0) (lots_from b₀ at n i))
  pub changes : lot_changes (trade_row x) (closings (up w.need.0) (lots_from b₀ at n i))
      ≡ lot_changes (trade_row x) (closed b₀ at n w₀)
  pub gone : map (row_at b₀) (take i at) ++ closed_lots (closings (up w.need.0) (lots_from b₀ at n i))
      ≡ closed_lots (closed b₀ at n w₀)
  pub kept : (p : ℕ) → is kind_free (row_at b₀ p) ≡ false → row_at b p ≡ row_at b₀ p
  pub within : i ≤ n
  pub bound : Within value_most w
  pub few : w.closed + n ≤ most_records + i

pub close_start : (x : Trade) {b d at : List ℕ} {n : ℕ} {w : Walk} {t : Totals}
    → Room (closing_rows (trade_row x) (closed b at n w)) b d t → Within value_most w → w.closed + n ≤ most_records
    → Closings x b at n w t b d t w 0
close_start x s h k = record {
  room = s;
  leads = refl;
  count = refl;
  changes = refl;
  gone = refl;
  kept = λ p e. refl;
  within = omega arith;
  bound = h;
  few = omega arith;
}

map_one_more : {A B : Type 0} (f : A → B) (l : List A) (x : A) (m : List B)
    → map f (l ++ x ∷ []) ++ m ≡ map f l ++ f x ∷ m
map_one_more f [] x m = refl
map_one_more f (y ∷ l) x m = rw (map_one_more f l x m)

module _ {x : Trade} {b₀ at : List ℕ} {n : ℕ} {w₀ : Walk} {t₀ : Totals} {b d : List ℕ} {t : Totals} {w : Walk} {i : ℕ}
    (s : Closings x b₀ at n w₀ t₀ b d t w i) where
  abbrev need : ℕ
  need = up w.need.0

  abbrev r : Row
  r = trade_row x

  -- all is done
  told : closings need (lots_from b₀ at n i) ≡ []
      → Told x b₀ at n w₀ t₀ b d (record { totals = t; gone = i; left = shares (pos 0) })
  unfolding fill keep
  told e =
      let rest = s.leads in
      let g = s.gone in
      let m = ap length e in
      let k = s.count in
      record {
        added = record {
          directory = s.room.directory;
          clean = s.room.clean;
          filled = rw e at rest;
          room = rw length-map (omega arith);
        };
        gone = sym (append-nil (map (row_at b₀) (take i at))) ∙ rw e at g;
        part = sym s.changes ∙ rw e;
        inside = λ h. absurd (h refl);
        within = s.within;
        left = up_to shares_most 0 (omega arith);
      }

  pub close_met : {y : ℕ} → y ≡ need → y ≡ 0
      → Told x b₀ at n w₀ t₀ b d (record { totals = t; gone = i; left = shares (pos 0) })
  close_met e z = told (closings_none need (lots_from b₀ at n i) (sym e ∙ z))

  pub close_end : n ≤ i → Told x b₀ at n w₀ t₀ b d (record { totals = t; gone = i; left = shares (pos 0) })
  unfolding closings
  close_end h =
      let a = s.within in
      let e : i ≡ n = omega arith in
      told (rw (e, slice_empty n at))

  -- one more lot
  module _ (long : n ≤ length at) (all : Closables b₀ at n) (h : i < n) where
    abbrev p : ℕ
    p = get_or at i 0

    abbrev lot : Row
    lot = row_at b₀ p

    abbrev later : List Row
    later = lots_from b₀ at n (suc i)

    lots_next : lots_from b₀ at n i ≡ lot ∷ later
    lots_next = ap (map (row_at b₀)) (slice-cons i n at 0 h long)

    here : Closable b₀ p
    here = all.each i h

    -- it is read as it was at entry
    lot_is : {l : Lot} → l ≡ lot_of (row_at b p) → l ≡ lot_of lot
    lot_is e = e ∙ ap lot_of (s.kept p here.live)

    pub lot_near : {l : Lot} → l ≡ lot_of (row_at b p) → nat_abs l.shares.0 ≤ shares_most
    unfolding lot_of
    lot_near e = rw (lot_is e) here.near

    pub lot_steps : {l : Lot} → l ≡ lot_of (row_at b p) → (l.price.0 ≤ price_most) × (w.closed < most_records)
    unfolding lot_of
    lot_steps e = let f = s.few in (rw (lot_is e) here.price, omega arith)

    module _ {y : ℕ} {l : Lot} {left : Shares} (y-is : y ≡ need) (some : y ≡ 0 → ⊥) (l-is : l ≡ lot_of (row_at b p))
        (left_is : left ≡ shares (pos (rest_of w l))) where
      n_some : need ≡ 0 → ⊥
      n_some e = some (y-is ∙ e)

      rest : left ≡ shares (pos (size lot - taken need lot))
      unfolding lot_of
      rest = left_is ∙ rw (lot_is l-is)

      cells : closings need (lots_from b₀ at n i) ≡ taking need lot ∷ closings (need - taken need lot) later
      cells = ap (closings need) lots_next ∙ closings_next need lot later n_some

      rows_next : closing_rows r (closings need (lots_from b₀ at n i))
          ≡ closing_row x l left ++ closing_rows r (closings (need - taken need lot) later)
      unfolding trade_row lot_of
      rows_next = ap (closing_rows r) cells ∙ rw (rest, lot_is l-is)

      pub close_room : Room (closing_row x l left) b d t
      close_room =
          room_first (closing_row x l left) (closing_rows r (closings (need - taken need lot) later))
          (rw rows_next at s.room)

      module _ {b' d' : List ℕ} {t' : Totals} (a : Added (closing_row x l left) b t b' d' t') where
        room_left : Room (closing_rows r (closings (need - taken need lot) later)) b' d' t'
        room_left =
            room_next (closing_row x l left) (closing_rows r (closings (need - taken need lot) later))
            (rw rows_next at s.room) a

        leads_left : fill same_row nothing (closing_rows r (closings (need - taken need lot) later)) (rows b')
            ≡ fill same_row nothing (closing_rows r (closed b₀ at n w₀)) (rows b₀)
        unfolding fill
        leads_left =
            rw a.filled
            (rw rows_next at s.leads)

        count_left : t'.free + length (closed b₀ at n w₀)
            ≡ t₀.free + length (closings (need - taken need lot) later)
        count_left =
            let k = s.count in
            let m = a.room in
            let z = ap length cells in
            omega arith

        kept_left : (q : ℕ) → is kind_free (row_at b₀ q) ≡ false → row_at b' q ≡ row_at b₀ q
        kept_left q e =
            let was = s.kept q e in
            added_keeps a q (ap (is kind_free) was ∙ e) ∙ was

        -- a lot that is closed in whole
        pub close_more : {k : ℕ} {w' : Walk} → k ≡ up left.0 → k ≡ 0 → w' ≡ stepped w l
            → Within value_most w' × (w'.closed ≤ w.closed + 1)
            → Closings x b₀ at n w₀ t₀ b' d' t' w' (i + 1)
        unfolding stepped lot_of
        close_more {k} {w'} e z q g =
            let none : size lot - taken need lot ≡ 0 = sym (ap (λ (u : Shares). up u.0) rest) ∙ sym e ∙ z in
            let whole = whole_none need lot none in
            let cs = closings (need - taken need lot) later in
            let next : up w'.need.0 ≡ need - taken need lot = rw (q, lot_is l-is) in
            let f = s.few in
            let m = g.1 in
            rw (add-one i)
            (record {
              room = rw next room_left;
              leads = rw next leads_left;
              count = rw next count_left;
              changes =
                  rw next
                  (sym (whole_changes r need lot cs whole) ∙ ap (lot_changes r) (sym cells) ∙ s.changes);
              gone =
                  rw (next, take-suc at i 0 (omega arith), map_one_more (row_at b₀) (take i at) p (closed_lots cs))
                  (ap (λ (o : List Row). map (row_at b₀) (take i at) ++ o)
                  (sym (whole_gone need lot cs whole) ∙ ap closed_lots (sym cells))
                  ∙ s.gone);
              kept = kept_left;
              within = omega arith;
              bound = g.0;
              few = omega arith;
            })

        -- and one that is closed in part
        pub close_part : {k : ℕ} → k ≡ up left.0 → (k ≡ 0 → ⊥) → UpTo shares_most left.0
            → Told x b₀ at n w₀ t₀ b' d' (record { totals = t'; gone = i; left = left })
        unfolding fill trade_row
        close_part {k} e z u =
            let is : up left.0 ≡ size lot - taken need lot = ap (λ (u : Shares). up u.0) rest in
            let some : size lot - taken need lot ≡ 0 → ⊥ = λ q. z (e ∙ is ∙ q) in
            let part = part_some need lot some in
            let last : closings need (lots_from b₀ at n i) ≡ taking need lot ∷ [] =
            ap (closings need) lots_next ∙ part_last need lot later n_some some
            in
            let none : closings (need - taken need lot) later ≡ [] = tail-eq_of_cons-eq (sym cells ∙ last) in
            let led = leads_left in
            let many = count_left in
            let m = ap length none in
            record {
              added = record {
                directory = a.directory;
                clean = a.clean;
                filled = rw none at led;
                room = rw length-map (omega arith);
              };
              gone =
                  sym (append-nil (map (row_at b₀) (take i at)))
                  ∙ ap (λ (o : List Row). map (row_at b₀) (take i at) ++ o)
                  (sym (part_gone need lot part) ∙ ap closed_lots (sym last))
                  ∙ s.gone;
              part =
                  sym s.changes ∙ ap (lot_changes r) last ∙ part_changes r need lot part
                  ∙ rw (ne_eqb (up left.0) 0 (λ q. z (e ∙ q)), is);
              inside = λ q. h;
              within = s.within;
              left = u;
            }

-- ---- the lot that keeps what is left
module _ (x : Trade) (at : List ℕ) (c : Closed) {b d : List ℕ} {t : Totals} (s : Ready (part_put x b at c) b d t) where
  pub none_kept : {k : ℕ} → k ≡ up c.left.0 → k ≡ 0 → Turned (part_put x b at c) b b d t
  none_kept e z =
      let n = eq-eqb (up c.left.0) 0 (sym e ∙ z) in
      let h : Ready [] b d t = rw n at s in
      rw n (turned_none h)

  module _ {k p : ℕ} {l : Lot} {z : Shares} {q : Row} (e : k ≡ up c.left.0) (some : k ≡ 0 → ⊥)
      (p-is : p ≡ get_or at c.gone 0)
      (z-is : z ≡ shares (neg_ℤ (signed x.trade_type (up c.left.0)))) (l-is : l ≡ lot_of (row_at b p))
      (q-is : q ≡ holding (lot_row l) z.0) where
    abbrev new : Row
    new =
        holding (lot_row (lot_of (row_at b (get_or at c.gone 0)))) (neg_ℤ (signed x.trade_type (up c.left.0)))

    one : part_put x b at c ≡ (get_or at c.gone 0, new) ∷ []
    one = rw (ne_eqb (up c.left.0) 0 (λ q. some (e ∙ q)))

    row_is : q ≡ new
    row_is = q-is ∙ rw (z-is, l-is, p-is)

    pub part_asks : Directory b d t × (group_of q ≡ group_of (row_at b p))
    unfolding lot_row
    part_asks =
        let h = rw one at s in
        (s.directory, rw (row_is, p-is) (may_stay h refl))

    pub part_kept : {b' : List ℕ} → (b' ≡ put_at b p q) × (rows b' ≡ set (rows b) p q) → Directory b' d t
        → Turned (part_put x b at c) b b' d t
    part_kept f k = rw one (turned_one row_is (rw p-is at f) k)

-- ---- the lots that go
abbrev pub freed : List ℕ → List (ℕ × Row)
freed ps = map (λ (p : ℕ). (p, nothing)) ps

-- those at the places from i on are left to free
pub record Freeing (b₀ at : List ℕ) (gone : ℕ) (b d : List ℕ) (t : Totals) (i : ℕ) : Type 0 where
  pub ready : Ready (freed (slice i gone at)) b d t
  pub same : sets (freed (slice i gone at)) (rows b) ≡ sets (freed (take gone at)) (rows b₀)
  pub within : i ≤ gone

pub free_first : {b at d : List ℕ} {gone : ℕ} {t : Totals} → Ready (freed (take gone at)) b d t
    → Freeing b at gone b d t 0
free_first s = record { ready = s; same = refl; within = omega arith }

module _ {b₀ at : List ℕ} {gone : ℕ} {b d : List ℕ} {t : Totals} {i : ℕ} (s : Freeing b₀ at gone b d t i) where
  module _ (h : i < gone) (long : gone ≤ length at) {p : ℕ} (e : p ≡ get_or at i 0) where
    next : freed (slice i gone at) ≡ (p, nothing) ∷ freed (slice (suc i) gone at)
    next = rw (slice-cons i gone at 0 h long, e)

    first : Ready ((p, nothing) ∷ freed (slice (suc i) gone at)) b d t
    first = rw next at s.ready

    pub free_asks : Directory b d t
        × ((is kind_free (row_at b p) ≡ false) × (trade_id (row_at b p) ≤ t.largest.0 - 1))
    free_asks = (s.ready.directory, may_go first refl)

    pub free_more : {b' d' : List ℕ} {t' : Totals}
        → (b' ≡ put_at b p nothing) × (rows b' ≡ set (rows b) p nothing) → Directory b' d' t'
        → Freeing b₀ at gone b' d' t' (i + 1)
    unfolding sets
    free_more f k =
        let w = s.within in
        rw (add-one i)
        (record {
          ready = ready_next ((p, nothing) ∷ []) (freed (slice (suc i) gone at)) first (turned_one refl f k);
          same = rw f.1 (rw next at s.same);
          within = omega arith;
        })

  pub free_done : gone ≤ i → Turned (freed (take gone at)) b₀ b d t
  unfolding sets
  free_done h =
      let w = s.within in
      let e : i ≡ gone = omega arith in
      let none : freed (slice i gone at) ≡ [] = rw (e, slice_empty gone at) in
      record { directory = s.ready.directory; written = rw none at s.same }
