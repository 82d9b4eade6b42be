-- What is shown of the rows of one kind, of several, and of all: a book is sound where every row is well and what hangs
-- on each trade is right. Assumes nothing.
use Rattle.std.specs.Prelude.{◌≡◌, refl, Bool, ◌&&◌, List, ℕ, ◌+◌, ◌/◌, ◌≤◌, ◌<◌, eqb, ltb, get_or}
use Rattle.std.proofs.Math.Path.{sym}
use Rattle.std.proofs.Common.{ap, ◌∙◌, arith, eqb-true, ltb-false, ltb-true, ne_eqb}
use Rattle.std.proofs.Math.Bool.{true, false}
use Rattle.std.proofs.lemmas.Bool.{false≢true, eqb-false}
use Rattle.std.proofs.Math.ListN.{length}
use Rattle.laws.specs.Place.{every_place}
use Rattle.laws.specs.Tests.{and_both, and_left, and_right, and_true}
use Rattle.record.specs.Codes.{kind_lot, kind_request, kind_summary, kind_trade}
use Rattle.keys.specs.Key.{among}
use Rattle.record.specs.declared.row.Row.{Row}
use Rattle.rules.specs.Rules.{fits}
use Rattle.model.specs.Rows.{is, nothing, rows}
use Rattle.model.specs.Sound.{each, s1, s2, sound}
use Rattle.facts.specs.Rows.{length_rows}
use Rattle.places.specs.Rows.{row_at}
use Rattle.facts.specs.Names.{of_five}
use Rattle.chains.specs.Group.{apart}
use Rattle.by_kind.specs.Chains.{ByKind, Going, go_all, go_more, sound_fits, sound_hung, sound_last, kind_heads}
use Rattle.by_kind.specs.Chains.{sound_own}
use Rattle.by_kind.specs.Distinct.{last_unique, last_at}
use Rattle.by_kind.specs.Hung.{first_well, hung, hung_well, row_well}
use Rattle.clauses.specs.Hung.{hangs, hung_kinds}
use Rattle.clauses.specs.Own.{own_rule, own_well}
use Rattle.by_kind.specs.Says.{refuted}
use Rattle.by_kind.specs.Well.{sound_by_well}

-- the row at a place keeps S1, S2 and its own rules
pub record WellAt (b : List ℕ) (j : ℕ) : Type 0 where
  pub fit : fits (row_at b j) ≡ true
  pub last : last_at b j ≡ true
  pub well : first_well (rows b) (row_at b j) ≡ true

-- the rows of a kind, of all kinds below one, of all kinds but one
pub record KindWell (b : List ℕ) (k : ℕ) : Type 0 where
  pub all : (j : ℕ) → j < length b / 64 → (row_at b j).kind ≡ k → WellAt b j

pub record KindFits (b : List ℕ) (k : ℕ) : Type 0 where
  pub all : (j : ℕ) → j < length b / 64 → (row_at b j).kind ≡ k → fits (row_at b j) ≡ true

pub record WellTo (b : List ℕ) (k : ℕ) : Type 0 where
  pub all : (j : ℕ) → j < length b / 64 → (row_at b j).kind < k → WellAt b j

pub record WellBut (b : List ℕ) (k : ℕ) : Type 0 where
  pub all : (j : ℕ) → j < length b / 64 → ((row_at b j).kind ≡ k → ⊥) → WellAt b j

-- what each trade asks of the rows that hang on it
pub record TradesHung (b : List ℕ) : Type 0 where
  pub all : (j : ℕ) → j < length b / 64 → (row_at b j).kind ≡ kind_trade → hung (rows b) (row_at b j) ≡ true

-- ---- from kind to kind
pub well_none : (b : List ℕ) → WellTo b 0
well_none b = record { all = λ j h k. absurd (omega arith) }

pub well_next : {b : List ℕ} {k : ℕ} → WellTo b k → KindWell b k → WellTo b (k + 1)
well_next {b} {k} s t = record { all = λ j h e. go j h e (ltb (row_at b j).kind k) refl }
  where
    go : (j : ℕ) → j < length b / 64 → (row_at b j).kind < k + 1 → (x : Bool) → ltb (row_at b j).kind k ≡ x → WellAt b j
    go j h e true u = s.all j h (ltb-true (row_at b j).kind k u)
    go j h e false u = let n = ltb-false (row_at b j).kind k u in t.all j h (omega arith)

pub kind_fits : {b : List ℕ} {k : ℕ} → WellTo b k → (i : ℕ) → i < k → KindFits b i
kind_fits s i l = record { all = λ j h e. (s.all j h (omega arith)).fit }

pub well_to : {b : List ℕ} {k : ℕ} → WellTo b k → (i : ℕ) → i ≡ k → WellTo b i
well_to s i e = rw e s

-- one kind more of those behind the one that is left out
but_to : {b : List ℕ} {k i : ℕ} → ((j : ℕ) → j < length b / 64 → ((row_at b j).kind ≡ k → ⊥) → (row_at b j).kind < i
    → WellAt b j) → KindWell b i
    → (j : ℕ) → j < length b / 64 → ((row_at b j).kind ≡ k → ⊥) → (row_at b j).kind < i + 1 → WellAt b j
but_to {b} {k} {i} s t j h n l = go (ltb (row_at b j).kind i) refl
  where
    go : (x : Bool) → ltb (row_at b j).kind i ≡ x → WellAt b j
    go true e = s j h n (ltb-true (row_at b j).kind i e)
    go false e = let o = ltb-false (row_at b j).kind i e in t.all j h (omega arith)

pub well_but : {b t : List ℕ} → ByKind b t 0 → WellTo b kind_summary → KindWell b 14 → KindWell b 15 → KindWell b 16
    → KindWell b 17 → WellBut b kind_summary
well_but {b} g s w x y z =
    let low : (j : ℕ) → j < length b / 64 → ((row_at b j).kind ≡ kind_summary → ⊥) → (row_at b j).kind < 14 → WellAt b j =
    λ j h n l. s.all j h (omega arith)
    in
    record {
      all = λ j h n. let high = g.known j (omega arith) h in
          but_to (but_to (but_to (but_to low w) x) y) z j h n (omega arith);
    }

-- ---- all rows
module _ {b : List ℕ} (s : WellBut b kind_summary) where
  one_or_other : (P : ℕ → Type 0) → ((j : ℕ) → WellAt b j → P j)
      → ((j : ℕ) → j < length b / 64 → (row_at b j).kind ≡ kind_summary → P j) → (j : ℕ) → j < length b / 64 → P j
  one_or_other P f g j h = go (eqb (row_at b j).kind kind_summary) refl
    where
      go : (t : Bool) → eqb (row_at b j).kind kind_summary ≡ t → P j
      go true e = g j h (eqb-true (row_at b j).kind kind_summary e)
      go false e = f j (s.all j h (eqb-false (row_at b j).kind kind_summary e))

  pub fits_all : KindFits b kind_summary → s1 (rows b) ≡ true
  unfolding s1
  fits_all t =
      every_place fits nothing (rows b)
      (λ j h. one_or_other (λ i. fits (row_at b i) ≡ true) (λ i w. w.fit) t.all j (rw length_rows at h))

  module _ (t : KindWell b kind_summary) where
    all_well : (j : ℕ) → j < length b / 64 → WellAt b j
    all_well = one_or_other (WellAt b) (λ i w. w) t.all

    pub unique_all : s2 (rows b) ≡ true
    unique_all = last_unique b (λ j h. (all_well j h).last)

    -- and then the book is sound
    pub sound_all : s1 (rows b) ≡ true → TradesHung b → sound (rows b) ≡ true
    unfolding row_well
    sound_all fit u =
        let well = every_place (row_well (rows b)) nothing (rows b) (λ j h. at j (rw length_rows at h)) in
        sym (sound_by_well (rows b)) ∙ rw (fit, unique_all, well)
      where
        at : (j : ℕ) → j < length b / 64 → row_well (rows b) (row_at b j) ≡ true
        at j h =
            and_both (first_well (rows b) (row_at b j)) (each kind_trade (hung (rows b)) (row_at b j)) (all_well j h).well
            (trade (is kind_trade (row_at b j)) refl)
          where
            trade : (x : Bool) → is kind_trade (row_at b j) ≡ x → each kind_trade (hung (rows b)) (row_at b j) ≡ true
            trade true e = rw e (u.all j h (eqb-true (row_at b j).kind kind_trade e))
            trade false e = rw e

-- ---- the loops
-- S1, S2 and its own rule are all of a row that does not hang on a trade
pub own_first : (rs : List Row) (r : Row) (k : ℕ) → r.kind ≡ k → among k hung_kinds ≡ false → first_well rs r ≡ own_well rs r
unfolding first_well
own_first rs r k e h =
    let n : hangs r ≡ false = ap (λ (x : ℕ). among x hung_kinds) e ∙ h in
    rw n (and_true (own_well rs r))

-- and it is neither a lot nor a request
pub by_itself : (r : Row) → hangs r ≡ false → apart r.kind ≡ false
by_itself r h = go (is kind_lot r) (is kind_request r) refl refl
  where
    none : (k : ℕ) → is k r ≡ true → among k hung_kinds ≡ true → ⊥
    none k e m = false≢true (sym h ∙ ap (λ (x : ℕ). among x hung_kinds) (eqb-true r.kind k e) ∙ m)

    go : (t u : Bool) → is kind_lot r ≡ t → is kind_request r ≡ u → apart r.kind ≡ false
    go true u e f = absurd (none kind_lot e refl)
    go false true e f = absurd (none kind_request f refl)
    go false false e f = rw (e, f)

-- no kind up to the trades hangs on one
pub low_kind : (k : ℕ) → k < 10 → among k hung_kinds ≡ false
low_kind k h =
    rw (
      ne_eqb k 10 (λ q. omega arith),
      ne_eqb k 11 (λ q. omega arith),
      ne_eqb k 12 (λ q. omega arith),
      ne_eqb k 15 (λ q. omega arith),
      ne_eqb k 16 (λ q. omega arith),
    )

-- and what it asks of its trade is all of a row that hangs on one
pub hung_first : (rs : List Row) (r : Row) (k : ℕ) → r.kind ≡ k → among k hung_kinds ≡ true → hung_well rs r ≡ true
    → first_well rs r ≡ true
unfolding first_well
hung_first rs r k e h w =
    let n : hangs r ≡ true = ap (λ (x : ℕ). among x hung_kinds) e ∙ h in
    let own : own_well rs r ≡ true =
    of_five (λ (x : ℕ). r.kind ≡ x → own_well rs r ≡ true) k 10 11 12 15 16 (own_rule 10 rs r) (own_rule 11 rs r)
    (own_rule 12 rs r) (own_rule 15 rs r) (own_rule 16 rs r) h e
    in
    rw (own, n, w)

module _ {b : List ℕ} {k c : ℕ} {x : Bool} (g : Going (WellAt b) b k c) (inside : c < length b / 64)
    (is_x : x ≡ (fits (row_at b c) && last_at b c && own_well (rows b) (row_at b c))) where
  pub own_more : {t : List ℕ} {u : ℕ} → ByKind b t 0 → among k hung_kinds ≡ false → x ≡ true
      → u ≡ get_or t (kind_heads + c) 0 → Going (WellAt b) b k u
  own_more s n e q =
      let r = row_at b c in
      let f = fits r in
      let l = last_at b c in
      let o = own_well (rows b) r in
      let all = sym is_x ∙ e in
      go_more s g inside
      (record {
        fit = and_left f l (and_left (f && l) o all);
        last = and_right f l (and_left (f && l) o all);
        well = own_first (rows b) r k (g.here inside) n ∙ and_right (f && l) o all;
      })
      q

  pub own_not : x ≡ false → sound (rows b) ≡ false
  own_not e =
      refuted (sound (rows b))
      (λ good.
      let r = row_at b c in
      let all = rw (sound_fits b good c inside, sound_last b good c inside, sound_own b good c inside) at is_x in
      false≢true (sym e ∙ all))

pub own_all : {b : List ℕ} {k c : ℕ} → Going (WellAt b) b k c → length b / 64 ≤ c → KindWell b k
own_all g h = record { all = go_all g h }

abbrev pub FitsAt : List ℕ → ℕ → Type 0
FitsAt b j = fits (row_at b j) ≡ true

module _ {b : List ℕ} {k c : ℕ} {x : Bool} (g : Going (FitsAt b) b k c) (inside : c < length b / 64)
    (is_x : x ≡ fits (row_at b c)) where
  pub fit_more : {t : List ℕ} {u : ℕ} → ByKind b t 0 → x ≡ true → u ≡ get_or t (kind_heads + c) 0 → Going (FitsAt b) b k u
  fit_more s e q = go_more s g inside (sym is_x ∙ e) q

  pub fit_not : x ≡ false → sound (rows b) ≡ false
  fit_not e =
      refuted (sound (rows b))
      (λ good. false≢true (sym e ∙ is_x ∙ sound_fits b good c inside))

pub fit_all : {b : List ℕ} {k c : ℕ} → Going (FitsAt b) b k c → length b / 64 ≤ c → KindFits b k
fit_all g h = record { all = go_all g h }

abbrev pub HungAt : List ℕ → ℕ → Type 0
HungAt b j = hung (rows b) (row_at b j) ≡ true

module _ {b : List ℕ} {c : ℕ} {x : Bool} (g : Going (HungAt b) b kind_trade c) (inside : c < length b / 64)
    (is_x : x ≡ hung (rows b) (row_at b c)) where
  pub hung_more : {t : List ℕ} {u : ℕ} → ByKind b t 0 → x ≡ true → u ≡ get_or t (kind_heads + c) 0
      → Going (HungAt b) b kind_trade u
  hung_more s e q = go_more s g inside (sym is_x ∙ e) q

  pub hung_not : x ≡ false → sound (rows b) ≡ false
  hung_not e =
      refuted (sound (rows b))
      (λ good. false≢true (sym e ∙ is_x ∙ sound_hung b good c inside (g.here inside)))

pub hung_all : {b : List ℕ} {c : ℕ} → Going (HungAt b) b kind_trade c → length b / 64 ≤ c → TradesHung b
hung_all g h = record { all = go_all g h }

pub ruleset kinds = (
  well_none,
  well_next,
  well_to,
  own_more,
  own_not,
  own_all,
  fit_more,
  fit_not,
  fit_all,
  hung_more,
  hung_not,
  hung_all,
)
