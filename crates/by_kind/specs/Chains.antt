-- The places of a book chained by kind, what a sound book has at each place, and what a walk over the places of a kind
-- keeps. Assumes nothing.
use Rattle.std.specs.Prelude.{◌≡◌, refl, Bool, false, not, ◌&&◌, ◌||◌, List, ℕ, ◌+◌, ◌-◌, ◌/◌, ◌≤◌, ◌<◌, eqb, ltb, length, get_or, set, replicate}
use Rattle.std.proofs.Common.{sym, ap, subst, ◌∙◌, arith, length-set}
use Rattle.std.proofs.Math.Bool.{true}
use Rattle.std.proofs.lemmas.Bool.{false≢true}
use Rattle.std.proofs.lemmas.List.{length-replicate, get_or-replicate}
use borrow.Author.Tests.{eq-eqb, eqb-false, eqb-true, ltb-false, ltb-true}
use Rattle.laws.specs.Chain.{Chained, chain_more, chain_start, numbered}
use Rattle.laws.specs.Place.{every_at}
use Rattle.laws.specs.Search.{every}
use Rattle.laws.specs.Tests.{and_left, and_right}
use Rattle.laws.specs.Walk.{from, from_clear, from_high, from_holds, from_low}
use Rattle.record.specs.Codes.{kind_trade, last_kind}
use Rattle.record.specs.declared.row.Row.{Row}
use Rattle.rules.specs.Rules.{fits, no_kind}
use Rattle.model.specs.Rows.{is, most_records, nothing, rows}
use Rattle.model.specs.Sound.{each, s1, s2, sound}
use Rattle.facts.specs.Rows.{length_rows}
use Rattle.places.specs.Rows.{row_at}
use Rattle.by_kind.specs.Distinct.{last_at, unique_last}
use Rattle.by_kind.specs.Hung.{first_well, hung, hung_well, row_well}
use Rattle.clauses.specs.Hung.{hangs}
use Rattle.clauses.specs.Own.{own_well}
use Rattle.by_kind.specs.Says.{refuted, says_no, says_yes}
use Rattle.by_kind.specs.Well.{sound_by_well}

abbrev pub kind_heads : ℕ
kind_heads = last_kind + 1

abbrev kind_of : Row → ℕ
kind_of r = r.kind

-- ---- the chains
pub record NoChains (b t : List ℕ) : Type 0 where
  pub long : kind_heads + length b / 64 ≤ length t
  pub all : (h : ℕ) → h < kind_heads → get_or t h 0 ≡ length b / 64

pub record ByKind (b t : List ℕ) (i : ℕ) : Type 0 where
  pub within : i ≤ length b / 64
  pub few : length b / 64 ≤ most_records
  pub long : kind_heads + length b / 64 ≤ length t
  pub known : (j : ℕ) → i ≤ j → j < length b / 64 → (row_at b j).kind ≤ last_kind
  pub chained : Chained kind_of nothing kind_heads (rows b) t i

pub no_chains : (b : List ℕ) (n e : ℕ) → e ≡ length b / 64 → kind_heads + length b / 64 ≤ n
    → NoChains b (replicate n e)
no_chains b n e q room = record {
  long = rw length-replicate room;
  all = λ h k. get_or-replicate n h e 0 (omega arith) ∙ q;
}

pub kinds_start : {b t : List ℕ} → NoChains b t → length b / 64 ≤ most_records → ByKind b t (length b / 64)
kinds_start {b} {t} s h = record {
  within = omega arith;
  few = h;
  long = s.long;
  known = λ j a k. absurd (omega arith);
  chained = chain_start kind_of nothing kind_heads (rows b) t (length b / 64) (length_rows b) s.all;
}

module _ {b t : List ℕ} {i : ℕ} (s : ByKind b t i) where
  pub kinds_more : {h v : ℕ} {r : Row} → 0 < i → r ≡ row_at b (i - 1) → r.kind ≤ last_kind → h ≡ r.kind → v ≡ i - 1
      → ByKind b (set (set t (kind_heads + (i - 1)) (get_or t h 0)) h v) (i - 1)
  kinds_more {h} {v} {r} p a k z q =
      let j = i - 1 in
      let e : j + 1 ≡ i = omega arith in
      let w = s.within in
      let f = s.few in
      let l = s.long in
      let o : j < length (rows b) = rw length_rows (omega arith) in
      let c : Chained kind_of nothing kind_heads (rows b) t (j + 1) = rw e s.chained in
      record {
        within = omega arith;
        few = f;
        long = rw (length-set, length-set) l;
        known = λ x u y. all_known_holds x u y (eqb x j) refl (ap (λ (y : Row). y.kind) a) k;
        chained = rw q
            (chain_more kind_of nothing kind_heads (rows b) t j h c o (z ∙ ap kind_of a) (omega arith) (omega arith));
      }
    where
      all_known_holds : (x : ℕ) → i - 1 ≤ x → x < length b / 64 → (t : Bool) → eqb x (i - 1) ≡ t
          → r.kind ≡ (row_at b (i - 1)).kind → r.kind ≤ last_kind → (row_at b x).kind ≤ last_kind
      all_known_holds x u y true e m n = rw (eqb-true x (i - 1) e) (omega arith)
      all_known_holds x u y false e m n =
          let f : (x ≡ i - 1 → ⊥) = eqb-false x (i - 1) e in s.known x (omega arith) y

  -- a kind has a head
  pub head_low : {h k : ℕ} → k ≤ last_kind → h ≡ k → h < length t
  head_low k z = let l = s.long in omega arith

  pub kinds_end : i ≤ 0 → ByKind b t 0
  kinds_end h = let e : i ≡ 0 = omega arith in rw e at s

-- ---- what a sound book has at each place
module _ (b : List ℕ) (good : sound (rows b) ≡ true) where
  parts : (s1 (rows b) && s2 (rows b) && every (row_well (rows b)) (rows b)) ≡ true
  parts = sound_by_well (rows b) ∙ good

  all_fit : s1 (rows b) ≡ true
  all_fit =
      and_left (s1 (rows b)) (s2 (rows b))
      (and_left (s1 (rows b) && s2 (rows b)) (every (row_well (rows b)) (rows b)) parts)

  module _ (j : ℕ) (h : j < length b / 64) where
    pub sound_fits : fits (row_at b j) ≡ true
    unfolding s1
    sound_fits = every_at fits nothing (rows b) j all_fit (rw length_rows h)

    pub sound_last : last_at b j ≡ true
    sound_last =
        unique_last b (and_right (s1 (rows b)) (s2 (rows b))
        (and_left (s1 (rows b) && s2 (rows b)) (every (row_well (rows b)) (rows b)) parts)) j h

    sound_well : row_well (rows b) (row_at b j) ≡ true
    sound_well =
        every_at (row_well (rows b)) nothing (rows b) j
        (and_right (s1 (rows b) && s2 (rows b)) (every (row_well (rows b)) (rows b)) parts) (rw length_rows h)

    sound_first : first_well (rows b) (row_at b j) ≡ true
    unfolding row_well
    sound_first = and_left (first_well (rows b) (row_at b j)) (each kind_trade (hung (rows b)) (row_at b j)) sound_well

    pub sound_own : own_well (rows b) (row_at b j) ≡ true
    unfolding first_well
    sound_own =
        let r = row_at b j in
        and_left (own_well (rows b) r) (not (hangs r) || hung_well (rows b) r) sound_first

    pub sound_hangs : hangs (row_at b j) ≡ true → hung_well (rows b) (row_at b j) ≡ true
    unfolding first_well
    sound_hangs e =
        let r = row_at b j in
        rw e at (and_right (own_well (rows b) r) (not (hangs r) || hung_well (rows b) r) sound_first)

    pub sound_hung : (row_at b j).kind ≡ kind_trade → hung (rows b) (row_at b j) ≡ true
    unfolding row_well
    sound_hung e =
        let r = row_at b j in
        let k : is kind_trade r ≡ true = eq-eqb r.kind kind_trade e in
        rw k at (and_right (first_well (rows b) r) (each kind_trade (hung (rows b)) r) sound_well)

-- a row of no kind
pub kinds_not : {b t : List ℕ} {i : ℕ} {r : Row} → ByKind b t i → 0 < i → r ≡ row_at b (i - 1) → last_kind < r.kind
    → sound (rows b) ≡ false
kinds_not {b} {i = i} {r = r} s p a k =
    refuted (sound (rows b))
    (λ e.
    let w = s.within in
    let m : fits r ≡ true = rw a (sound_fits b e (i - 1) (omega arith)) in
    false≢true (no_kind r (omega arith) ∙ m))

-- ---- a walk over the places of a kind: what it has passed is right
pub record Going (P : ℕ → Type 0) (b : List ℕ) (k c : ℕ) : Type 0 where
  pub within : c ≤ length b / 64
  pub here : c < length b / 64 → (row_at b c).kind ≡ k
  pub all : (j : ℕ) → j < c → (row_at b j).kind ≡ k → P j

is_numbered : (r : Row) (k : ℕ) → numbered kind_of k r ≡ true → r.kind ≡ k
unfolding numbered
is_numbered r k e = eqb-true r.kind k e

not_numbered : (r : Row) (k : ℕ) → numbered kind_of k r ≡ false → r.kind ≡ k → ⊥
unfolding numbered
not_numbered r k e = eqb-false r.kind k e

module _ {b t : List ℕ} (s : ByKind b t 0) where
  link : (c : ℕ) → c < length b / 64
      → get_or t (kind_heads + c) 0 ≡ from (numbered kind_of (row_at b c).kind) (rows b) (c + 1)
  link c h = s.chained.links c (omega arith) (rw length_rows h)

  -- there is none of the kind between a place and the next
  clear : (k i c : ℕ) → c ≡ from (numbered kind_of k) (rows b) i → i ≤ length b / 64 → (j : ℕ) → i ≤ j → j < c
      → (row_at b j).kind ≡ k → ⊥
  clear k i c e w j a h =
      let n = length_rows b in
      let m = from_high (numbered kind_of k) (rows b) i (omega arith) in
      not_numbered (row_at b j) k
      (from_clear (numbered kind_of k) nothing (rows b) i j a (omega arith) (omega arith))

  pub head_clear : (k c : ℕ) → k ≤ last_kind → c ≡ get_or t k 0 → (j : ℕ) → j < c → (row_at b j).kind ≡ k → ⊥
  head_clear k c h e j a = clear k 0 c (e ∙ s.chained.heads k (omega arith)) (omega arith) j (omega arith) a

  pub link_clear : (k c u : ℕ) → c < length b / 64 → (row_at b c).kind ≡ k → u ≡ get_or t (kind_heads + c) 0 → (j : ℕ)
      → c < j → j < u → (row_at b j).kind ≡ k → ⊥
  link_clear k c u h e q j a =
      clear k (c + 1) u (q ∙ link c h ∙ rw e) (omega arith) j (omega arith)

  pub kinds_less : (c u : ℕ) → c < length b / 64 → u ≡ get_or t (kind_heads + c) 0
      → length b / 64 - u < length b / 64 - c
  kinds_less c u h q =
      let e = link c h in
      let l = from_low (numbered kind_of (row_at b c).kind) (rows b) (c + 1) in
      omega arith

  there_is : (P : ℕ → Type 0) (k i c : ℕ) → c ≡ from (numbered kind_of k) (rows b) i → i ≤ length b / 64
      → ((j : ℕ) → j < i → (row_at b j).kind ≡ k → P j) → Going P b k c
  there_is P k i c e w f =
      let n = length_rows b in
      let m = from_high (numbered kind_of k) (rows b) i (omega arith) in
      record {
        within = omega arith;
        here = λ h. is_numbered (row_at b c) k (rw e (from_holds (numbered kind_of k) (rows b) i nothing (omega arith)));
        all = λ j h u. passed j h u (ltb j i) refl;
      }
    where
      passed : (j : ℕ) → j < c → (row_at b j).kind ≡ k → (t : Bool) → ltb j i ≡ t → P j
      passed j h u true v = f j (ltb-true j i v) u
      passed j h u false v = absurd (clear k i c e w j (ltb-false j i v) h u)

  pub go_start : (P : ℕ → Type 0) {k h c : ℕ} → k ≤ last_kind → h ≡ k → c ≡ get_or t h 0 → Going P b k c
  go_start P {k} {h} {c} low q e =
      there_is P k 0 c (e ∙ rw q (s.chained.heads k (omega arith))) (omega arith) (λ j a. absurd (omega arith))

  pub go_more : {P : ℕ → Type 0} {k c u : ℕ} → Going P b k c → c < length b / 64 → P c → u ≡ get_or t (kind_heads + c) 0
      → Going P b k u
  go_more {P} {k} {c} {u} g h p q =
      there_is P k (c + 1) u (q ∙ link c h ∙ rw (g.here h)) (omega arith) (λ j a e. passed j a e (eqb j c) refl)
    where
      passed : (j : ℕ) → j < c + 1 → (row_at b j).kind ≡ k → (t : Bool) → eqb j c ≡ t → P j
      passed j a e true v = subst P (sym (eqb-true j c v)) p
      passed j a e false v = let n : (j ≡ c → ⊥) = eqb-false j c v in g.all j (omega arith) e

pub go_all : {P : ℕ → Type 0} {b : List ℕ} {k c : ℕ} → Going P b k c → length b / 64 ≤ c → (j : ℕ) → j < length b / 64
    → (row_at b j).kind ≡ k → P j
go_all g w j h e = g.all j (omega arith) e

pub ruleset chains = (
  no_chains,
  kinds_start,
  kinds_more,
  head_low,
  kinds_end,
  kinds_not,
  kinds_less,
  go_start,
  says_yes,
  says_no,
)
