-- One turn of the loop over the rows of a kind that hang on a trade: a row is well and its slot is free, and so is
-- marked; or the book is not sound. In a sound book no two rows have one slot. Assumes nothing.
use Rattle.std.specs.Prelude.{Option, Some, None, ◌≡◌, refl, Bool, true, false, not, List, ℕ, ◌+◌, ◌*◌, ◌/◌, ◌≤◌, ◌<◌, eqb, ltb, length, get_or, set, replicate}
use Rattle.std.proofs.Math.Path.{sym}
use Rattle.std.proofs.Common.{ap, ◌∙◌, length-set}
use Rattle.std.proofs.Math.Bool.{false≢true}
use native.Mathlib.Omega.{arith}
use Rattle.std.proofs.lemmas.List.{length-replicate, get_or-replicate}
use Rattle.std.proofs.Math.ListN.{get_or-eq_default}
use borrow.Author.Tests.{eqb-false, eqb-true, le-ltb, lt-ltb, ltb-false, ltb-true}
use Rattle.laws.specs.Marks.{marked_more, marked_none, marked_same, still_free}
use Rattle.laws.specs.Search.{place}
use Rattle.laws.specs.Tests.{and_both, and_left, and_right}
use Rattle.record.specs.Codes.{kind_free, last_kind}
use Rattle.record.specs.declared.row.Row.{Row}
use Rattle.keys.specs.Key.{among, key_of}
use Rattle.rules.specs.Rules.{fits}
use Rattle.model.specs.Names.{a_trade}
use Rattle.model.specs.Rows.{found, has_key, most_records, rows, there}
use Rattle.model.specs.Sound.{sound}
use Rattle.facts.specs.Rows.{length_rows}
use Rattle.facts.specs.Names.{of_five, other_kind}
use Rattle.places.specs.Rows.{row_at}
use Rattle.directory.specs.Found.{key_row, key_there}
use Rattle.clauses.specs.Hung.{fits_trade, hangs, hung_kinds, offset}
use Rattle.by_kind.specs.ByRow.{rule_kept, rule_lost}
use Rattle.by_kind.specs.Chains.{ByKind, Going, go_all, go_more, go_start, head_clear, kind_heads, kinds_less}
use Rattle.by_kind.specs.Chains.{link_clear, sound_fits, sound_hangs, sound_last}
use Rattle.by_kind.specs.Distinct.{last_none, none_last}
use Rattle.by_kind.specs.Hung.{home, hung_well}
use Rattle.by_kind.specs.Kinds.{KindWell, WellAt, hung_first}
use Rattle.by_kind.specs.Says.{refuted}
use Rattle.hanging.specs.Slots.{MarkedTo, Past, hung_low, key_slot, slot_key, slot_at, small_offset}

abbrev pub no_slot : ℕ
no_slot = 8 * most_records

-- the row at i is well, and s is its slot and free
pub record Hangs (b m : List ℕ) (i s : ℕ) : Type 0 where
  pub at : s ≡ slot_at b i
  pub low : s < length m
  pub free : get_or m s 0 ≡ 0
  pub fit : fits (row_at b i) ≡ true
  pub well : hung_well (rows b) (row_at b i) ≡ true

pub record Hanged (b m : List ℕ) (i s : ℕ) : Type 0 where
  pub yes : s < no_slot → Hangs b m i s
  pub no : no_slot ≤ s → sound (rows b) ≡ false

-- the same of a slot that there may not be
abbrev pub SlotAt : List ℕ → List ℕ → ℕ → Option ℕ → Type 0
SlotAt b m i (Some s) = (s < no_slot) × Hangs b m i s
SlotAt b m i None = sound (rows b) ≡ false

module _ {b m : List ℕ} {i : ℕ} where
  pub no_slot_at : Hanged b m i no_slot → SlotAt b m i None
  no_slot_at h = h.no (omega arith)

  pub one_slot_at : {s : ℕ} → Hanged b m i s → s < no_slot → SlotAt b m i (Some s)
  one_slot_at h low = (low, h.yes low)

  pub slot_taken : {s : ℕ} → SlotAt b m i (Some s) → Hanged b m i s
  slot_taken h = record { yes = λ low. h.1; no = λ high. absurd (let low = h.0 in omega arith) }

hung_free : (a : Row) → hangs a ≡ true → a.kind ≡ kind_free → ⊥
hung_free a h e = false≢true (ap (λ (k : ℕ). among k hung_kinds) (sym e) ∙ h)

-- the trade of a row that is read
pub its_trade : (b : List ℕ) {r a : Row} {p : ℕ} → r ≡ a → p ≡ place (has_key (a_trade r.id)) (rows b)
    → p ≡ place (has_key (a_trade a.id)) (rows b)
its_trade b e h = h ∙ ap (λ (x : Row). place (has_key (a_trade x.id)) (rows b)) e

module _ {b m : List ℕ} {i : ℕ} (inside : i < length b / 64) (hanging : hangs (row_at b i) ≡ true)
    (marked : MarkedTo b ((row_at b i).kind * 4096 + i) m) where
  none : sound (rows b) ≡ false → Hanged b m i no_slot
  none e = record { yes = λ h. absurd (omega arith); no = λ h. e }

  pub hang_unfit : {x : Bool} → x ≡ fits (row_at b i) → not x ≡ true → Hanged b m i no_slot
  hang_unfit h e =
      none (refuted (sound (rows b)) (λ good. false≢true (sym (rule_lost h e) ∙ sound_fits b good i inside)))

  module _ {p : ℕ} (at-trade : p ≡ place (has_key (a_trade (row_at b i).id)) (rows b)) where
    trade_there : ltb p (length b / 64) ≡ there (a_trade (row_at b i).id) (rows b)
    trade_there = key_there (a_trade (row_at b i).id) b at-trade

    pub hang_lost : length b / 64 ≤ p → Hanged b m i no_slot
    unfolding hung_well
    hang_lost h =
        none (refuted (sound (rows b))
        (λ good.
        let a = row_at b i in
        let gone = sym (le-ltb p (length b / 64) h) ∙ trade_there in
        let some = and_left (there (a_trade a.id) (rows b)) (fits_trade (rows b) (found (a_trade a.id) (rows b)) a)
        (sound_hangs b good i inside hanging)
        in
        false≢true (gone ∙ some)))

    module _ {x : Bool} (is_x : x ≡ fits_trade (rows b) (row_at b p) (row_at b i)) where
      fits_found : x ≡ fits_trade (rows b) (found (a_trade (row_at b i).id) (rows b)) (row_at b i)
      fits_found =
          is_x ∙ ap (λ (y : Row). fits_trade (rows b) y (row_at b i)) (key_row (a_trade (row_at b i).id) b at-trade refl)

      pub hang_unlike : not x ≡ true → Hanged b m i no_slot
      unfolding hung_well
      hang_unlike e =
          none (refuted (sound (rows b))
          (λ good.
          let a = row_at b i in
          let fit = and_right (there (a_trade a.id) (rows b)) (fits_trade (rows b) (found (a_trade a.id) (rows b)) a)
          (sound_hangs b good i inside hanging)
          in
          false≢true (sym (rule_lost fits_found e) ∙ fit)))

      module _ {y : Bool} {o : ℕ} (is_y : y ≡ fits (row_at b i)) (fit : not y ≡ false) (like : not x ≡ false)
          (low : p < length b / 64) (is-o : o ≡ offset (row_at b i)) where
        fit_here : fits (row_at b i) ≡ true
        fit_here = rule_kept is_y fit

        slot_is : p * 8 + o ≡ slot_at b i
        unfolding home
        slot_is = rw (at-trade, is-o)

        home_in : home (rows b) (row_at b i) < length (rows b)
        unfolding home
        home_in =
            let e : place (has_key (a_trade (row_at b i).id)) (rows b) ≡ p = sym at-trade in
            let n = length_rows b in
            omega arith

        small : o < 8
        small = rw is-o (small_offset (rows b) (row_at b i) fit_here hanging)

        pub slot_in : p * 8 + o < length m
        slot_in =
            let long = marked.long in
            let short = small in
            omega arith

        pub slot_low : p * 8 + o < no_slot
        slot_low =
            let few = marked.few in
            let short = small in
            omega arith

        pub hang_here : get_or m (p * 8 + o) 0 ≡ 0 → Hanged b m i (p * 8 + o)
        unfolding hung_well
        hang_here z = record {
          yes = λ h. record {
            at = slot_is;
            low = slot_in;
            free = z;
            fit = fit_here;
            well = and_both (there (a_trade (row_at b i).id) (rows b))
                (fits_trade (rows b) (found (a_trade (row_at b i).id) (rows b)) (row_at b i))
                (sym trade_there ∙ lt-ltb p (length b / 64) low)
                (rule_kept fits_found like);
          };
          no = λ h. absurd (let l = slot_low in omega arith);
        }

        -- in a sound book no row before this one has its slot
        pub hang_twice : (get_or m (p * 8 + o) 0 ≡ 0 → ⊥) → Hanged b m i no_slot
        hang_twice z = none (refuted (sound (rows b)) (λ good. z (marked.marked.none (p * 8 + o) (other good))))
          where
            other : sound (rows b) ≡ true → (j : ℕ) → Past b ((row_at b i).kind * 4096 + i) j → slot_at b j ≡ p * 8 + o → ⊥
            other good j past e =
                let before = past.inside in
                let both = slot_key (rows b) (row_at b j) (row_at b i) (sound_fits b good j before) fit_here past.hung
                hanging home_in (e ∙ slot_is)
                in
                let kind = both.0 in
                let early = past.early in
                let few = marked.few in
                let none = last_none b j before (hung_free (row_at b j) past.hung) (sound_last b good j before) i
                (omega arith) inside
                in
                false≢true (sym none ∙ both.1)

-- ---- the loop
-- a row that is passed: no row of its kind before it has its key
pub record HangWell (b : List ℕ) (j : ℕ) : Type 0 where
  pub fit : fits (row_at b j) ≡ true
  pub well : hung_well (rows b) (row_at b j) ≡ true
  pub apart : (i : ℕ) → i < j → (row_at b i).kind ≡ (row_at b j).kind → has_key (key_of (row_at b i)) (row_at b j) ≡ false

pub record Hanging (b : List ℕ) (k c : ℕ) (m : List ℕ) : Type 0 where
  pub hung : among k hung_kinds ≡ true
  pub going : Going (HangWell b) b k c
  pub marked : MarkedTo b (k * 4096 + c) m

hung_kind : (k : ℕ) → among k hung_kinds ≡ true → k ≤ last_kind
hung_kind k h = let low = hung_low k h in omega arith

pub hung_head : {b t : List ℕ} {k : ℕ} → ByKind b t 0 → among k hung_kinds ≡ true → k < length t
hung_head {k = k} s h =
    let low = hung_kind k h in
    let long = s.long in
    omega arith

-- the places up to w are those up to v
marked_to : {b m : List ℕ} {w : ℕ} → MarkedTo b w m → (v : ℕ)
    → ((j : ℕ) → j < length b / 64 → hangs (row_at b j) ≡ true → (row_at b j).kind * 4096 + j < w
    → (row_at b j).kind * 4096 + j < v)
    → ((j : ℕ) → j < length b / 64 → hangs (row_at b j) ≡ true → (row_at b j).kind * 4096 + j < v
    → (row_at b j).kind * 4096 + j < w)
    → MarkedTo b v m
marked_to {b} s v f g = record {
  few = s.few;
  long = s.long;
  marked = marked_same s.marked (Past b v)
      (λ j p. record { inside = p.inside; hung = p.hung; early = f j p.inside p.hung p.early })
      (λ j p. record { inside = p.inside; hung = p.hung; early = g j p.inside p.hung p.early });
}

pub hang_start : {b t m : List ℕ} {k h c : ℕ} → ByKind b t 0 → MarkedTo b (k * 4096) m → among k hung_kinds ≡ true
    → h ≡ k → c ≡ get_or t h 0 → Hanging b k c m
hang_start {b} {t} {m} {k} {h = x} {c} s g h same q =
    let e : c ≡ get_or t k 0 = rw same at q in
    let low = hung_kind k h in
    let few = s.few in
    let go = go_start s (HangWell b) low refl e in
    let within = go.within in
    record {
      hung = h;
      going = go;
      marked = marked_to g (k * 4096 + c) (λ j i u v. omega arith)
          (λ j i u v. below low q j i v (eqb (row_at b j).kind k) refl);
    }
  where
    below : k ≤ last_kind → c ≡ get_or t x 0 → (j : ℕ) → j < length b / 64 → (row_at b j).kind * 4096 + j < k * 4096 + c
        → (x : Bool) → eqb (row_at b j).kind k ≡ x → (row_at b j).kind * 4096 + j < k * 4096
    below low e j i v true u =
        let z = eqb-true (row_at b j).kind k u in
        absurd (head_clear s k c low (rw same at e) j (omega arith) z)
    below low e j i v false u =
        let n : ((row_at b j).kind ≡ k → ⊥) = eqb-false (row_at b j).kind k u in
        let few = s.few in
        let within = (go_start s (HangWell b) low same e).within in
        omega arith

module _ {b m : List ℕ} {k c : ℕ} (s : Hanging b k c m) where
  pub hang_kind : c < length b / 64 → hangs (row_at b c) ≡ true
  hang_kind h = ap (λ (x : ℕ). among x hung_kinds) (s.going.here h) ∙ s.hung

  pub hang_marked : c < length b / 64 → MarkedTo b ((row_at b c).kind * 4096 + c) m
  hang_marked h = rw (s.going.here h) s.marked

  module _ {p : ℕ} (inside : c < length b / 64) (turn : Hanged b m c p) (low : p < no_slot) where
    passed : HangWell b c
    passed =
        let here = turn.yes low in
        record {
          fit = here.fit;
          well = here.well;
          apart = λ i a e. told i a e (has_key (key_of (row_at b i)) (row_at b c)) refl;
        }
      where
        told : (i : ℕ) → i < c → (row_at b i).kind ≡ (row_at b c).kind → (t : Bool)
            → has_key (key_of (row_at b i)) (row_at b c) ≡ t → has_key (key_of (row_at b i)) (row_at b c) ≡ false
        told i a e false h = h
        told i a e true h =
            let here = turn.yes low in
            let kind = s.going.here inside in
            let hung : hangs (row_at b i) ≡ true = ap (λ (x : ℕ). among x hung_kinds) (e ∙ kind) ∙ s.hung in
            let one = key_slot (rows b) (row_at b i) (row_at b c) hung h ∙ sym here.at in
            let past : Past b (k * 4096 + c) i =
            record { inside = omega arith; hung = hung; early = (omega arith) }
            in
            absurd (still_free s.marked.marked p here.free i past one)

    pub hang_more : {t : List ℕ} {u : ℕ} → ByKind b t 0 → u ≡ get_or t (kind_heads + c) 0 → Hanging b k u (set m p 1)
    hang_more {t} {u} g q =
        let here = turn.yes low in
        let at = here.at in
        let few = s.marked.few in
        let long = s.marked.long in
        record {
          hung = s.hung;
          going = go_more g s.going inside passed q;
          marked = record {
            few = few;
            long = rw length-set long;
            marked = rw at
                (marked_more s.marked.marked (Past b (k * 4096 + u)) c (omega arith) older newest others);
          };
        }
      where
        rises : c < u
        rises = let l = kinds_less g c u inside q in omega arith

        older : (j : ℕ) → Past b (k * 4096 + c) j → Past b (k * 4096 + u) j
        older j p =
            let e = p.early in
            let r = rises in
            record { inside = p.inside; hung = p.hung; early = omega arith }

        newest : Past b (k * 4096 + u) c
        newest =
            let e = s.going.here inside in
            let r = rises in
            record { inside = inside; hung = hang_kind inside; early = omega arith }

        others : (j : ℕ) → Past b (k * 4096 + u) j → (j ≡ c → ⊥) → Past b (k * 4096 + c) j
        others j p n =
            record { inside = p.inside; hung = p.hung; early = before (eqb (row_at b j).kind k) (ltb j c) refl refl }
          where
            before : (x y : Bool) → eqb (row_at b j).kind k ≡ x → ltb j c ≡ y
                → (row_at b j).kind * 4096 + j < k * 4096 + c
            before true true e f =
                let a = eqb-true (row_at b j).kind k e in
                let l = ltb-true j c f in
                omega arith
            before true false e f =
                let a = eqb-true (row_at b j).kind k e in
                let l = ltb-false j c f in
                let early = p.early in
                absurd (link_clear g k c u inside (s.going.here inside) q j (let d : (j ≡ c → ⊥) = n in omega arith)
                (omega arith) a)
            before false y e f =
                let d : ((row_at b j).kind ≡ k → ⊥) = eqb-false (row_at b j).kind k e in
                let early = p.early in
                let most = s.marked.few in
                let i = p.inside in
                let w = (go_more g s.going inside passed q).within in
                omega arith

  pub hang_all : length b / 64 ≤ c → KindWell b k × MarkedTo b ((k + 1) * 4096) m
  hang_all h = (
    record { all = λ j i e. well j i e },
    (let w = s.going.within in
        let few = s.marked.few in
        marked_to s.marked ((k + 1) * 4096) (λ j i u v. omega arith) (λ j i u v. omega arith)),
  )
    where
      walked : (j : ℕ) → j < length b / 64 → (row_at b j).kind ≡ k → HangWell b j
      walked = go_all s.going h

      later : (j : ℕ) → (row_at b j).kind ≡ k → (i : ℕ) → j < i → i < length b / 64 → (t : Bool)
          → eqb (row_at b i).kind (row_at b j).kind ≡ t → has_key (key_of (row_at b j)) (row_at b i) ≡ false
      later j e i a l true u =
          let same = eqb-true (row_at b i).kind (row_at b j).kind u in
          (walked i l (same ∙ e)).apart j a (sym same)
      later j e i a l false u = other_kind (row_at b j) (row_at b i) u

      well : (j : ℕ) → j < length b / 64 → (row_at b j).kind ≡ k → WellAt b j
      well j i e =
          let w = walked j i e in
          record {
            fit = w.fit;
            last = none_last b j i (λ x a l. later j e x a l (eqb (row_at b x).kind (row_at b j).kind) refl);
            well = hung_first (rows b) (row_at b j) k e s.hung w.well;
          }

-- ---- between the kinds
-- a kind that hangs on a trade is one of these
hung_among : (P : ℕ → Type 0) → P 10 → P 11 → P 12 → P 15 → P 16 → (r : Row) → hangs r ≡ true → P r.kind
hung_among P a b c d e r h = of_five P r.kind 10 11 12 15 16 a b c d e h

-- neither a summary nor a lot history hangs on a trade
pub marked_gap : {b m : List ℕ} → MarkedTo b (13 * 4096) m → MarkedTo b (15 * 4096) m
marked_gap {b} s =
    marked_to s (15 * 4096) (λ j i h v. omega arith)
    (λ j i h v.
    hung_among (λ (k : ℕ). k * 4096 + j < 15 * 4096 → k * 4096 + j < 13 * 4096) (below j i 10 (omega arith))
    (below j i 11 (omega arith)) (below j i 12 (omega arith)) (λ z. absurd (omega arith)) (λ z. absurd (omega arith))
    (row_at b j) h v)
  where
    below : (j : ℕ) → j < length b / 64 → (k : ℕ) → k ≤ 12 → k * 4096 + j < 15 * 4096 → k * 4096 + j < 13 * 4096
    below j i k l z = let few = s.few in omega arith

-- nothing is marked yet
pub marks_start : (b : List ℕ) (n : ℕ) → length b / 64 ≤ most_records → 8 * (length b / 64) ≤ n
    → MarkedTo b (10 * 4096) (replicate n 0)
marks_start b n few room = record {
  few = few;
  long = rw length-replicate room;
  marked = marked_none (slot_at b) (Past b (10 * 4096)) (replicate n 0) (λ s. blank s (ltb s n) refl)
      (λ j p.
      let e = p.early in
      hung_among (λ (k : ℕ). k * 4096 + j < 10 * 4096 → ⊥) (λ z. omega arith) (λ z. omega arith) (λ z. omega arith)
      (λ z. omega arith) (λ z. omega arith) (row_at b j) p.hung e);
}
  where
    blank : (s : ℕ) (t : Bool) → ltb s n ≡ t → ◌≡◌ {A = ℕ} (get_or (replicate n 0) s 0) 0
    blank s true e = get_or-replicate n s 0 0 (ltb-true s n e)
    blank s false e =
        let zeros : List ℕ = replicate n 0 in
        let l : length zeros ≤ s = rw length-replicate (ltb-false s n e) in
        get_or-eq_default zeros 0 l

pub ruleset hangings = (
  key_row,
  hang_unfit,
  hang_lost,
  hang_unlike,
  hang_here,
  hang_twice,
  slot_in,
  slot_low,
  hung_head,
  hang_start,
  hang_kind,
  hang_marked,
  hang_more,
  hang_all,
)
