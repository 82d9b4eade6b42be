-- The status of a feed's checks, told from the book at entry, as the code comes to it: as many trades are submitted as
-- requests are due, and each volume grows by the shares of the entries on its symbol.
use Rattle.std.specs.Prelude.{◌≡◌, Bool, cond, ◌&&◌, ◌||◌, List, [], ◌∷◌, ℕ, suc, ◌+◌, ◌*◌, ◌/◌, ◌%◌, ◌≤◌, ◌<◌, eqb, leb, ltb, pos, nat_abs, ◌+ℤ◌, length, take, drop, get_or}
use Rattle.std.proofs.Math.Path.{refl, sym, ap}
use Rattle.std.proofs.Common.{◌∙◌, add-one, get_or-drop, get_or-take, rules, to_z}
use Rattle.std.proofs.Math.Bool.{true, false}
use native.Mathlib.Omega.{arith}
use Rattle.std.proofs.Math.Seq.{slice, slice-cons, slice_empty}
use borrow.Author.Tests.{eqb-true, le-leb, leb-true, ltb-false, ltb-true}
use Rattle.std.proofs.Math.Facts.{to_z_pos}
use Rattle.std.specs.Int.{w64}
use Rattle.laws.specs.Chunk.{part}
use Rattle.laws.specs.Search.{count, every, place, run, total}
use Rattle.laws.specs.Tests.{and_left, and_right}
use Rattle.record.specs.Bytes.{Bytes}
use Rattle.record.specs.Codes.{kind_security}
use Rattle.record.specs.Grid.{decode}
use Rattle.record.specs.Signed.{up}
use Rattle.record.specs.Symbol.{same_symbol}
use Rattle.record.specs.declared.row.Row.{Row}
use Rattle.record.specs.declared.symbol.Symbol.{Symbol}
use Rattle.rules.specs.Meaning.{means_security}
use Rattle.rules.specs.Ranges.{volume}
use Rattle.rules.specs.Rules.{as_kind}
use Rattle.model.specs.declared.Status.{Status}
use Rattle.model.specs.declared.Status.TheVariants.{Done, FeedNoSecurity, NoRoom, OverLimit}
use Rattle.model.specs.Status.{is_done}
use Rattle.model.specs.Call.{most_inputs}
use Rattle.model.specs.Feed.{checks, fed, volumes_fit}
use Rattle.model.specs.Names.{a_security}
use Rattle.model.specs.Plan.{also, room, verdict}
use Rattle.model.specs.Rows.{found, has_key, is, nothing, rows, there, whole_records}
use Rattle.model.specs.Sound.{sound}
use Rattle.facts.specs.Rows.{length_rows}
use Rattle.facts.specs.Feed.{shares_for, volumes_fit_holds}
use Rattle.facts.specs.Checks.{passed}
use Rattle.facts.specs.Found.{sound_s1, the_most}
use Rattle.facts.specs.Names.{by_symbol_holds}
use Rattle.places.specs.Loop.{Summed, loops, sum_all, sum_more, sum_start}
use Rattle.places.specs.Rows.{row_at, rows_at, rows_past}
use Rattle.directory.specs.Found.{key_row, key_there}
use Rattle.kinds.specs.Inputs.{feed_input_of}
use Rattle.kinds.specs.Kinds.{security_of}
use Rattle.units.specs.Units.{shares, signed_most}
use Rattle.kinds.specs.declared.inputs.FeedInput.{FeedInput}
use Rattle.kinds.specs.declared.rows.Request.{Request}
use Rattle.kinds.specs.declared.rows.Security.{Security}
use Rattle.units.specs.declared.Shares.{Shares}
use Rattle.hits.specs.Hits.{any_reaches, due, reaches}
use Rattle.hits.specs.Due.{trades_due}

-- the volume of the entry's security stays in its range, with the shares of all entries on the symbol
unfoldable pub volume_fits : List Row → List Row → Row → Bool
volume_fits rs es e = leb ((found (a_security e.symbol) rs).m1 + shares_for e.symbol es) volume.high

-- the shares of all entries; those on one symbol are no more
unfoldable pub shares_in : List Row → ℕ
shares_in es = total (λ (e : Row). e.n2) es

-- those of an entry, if it is on a symbol
abbrev pub shares_on : Symbol → Row → ℕ
shares_on y e = cond (same_symbol e.symbol y) e.n2 0

-- what four bytes hold, and the most that the entries come to
abbrev pub entry_most : ℕ
entry_most = 4_294_967_295

abbrev pub entries_most : ℕ
entries_most = entry_most * most_inputs

-- so many shares, which are at most so many
abbrev pub Many : ℕ → ℕ → Shares → Type 0
Many most n x = (x.0 ≡ pos n) × (n ≤ most)

pub shares_most_holds : (y : Symbol) (es : List Row) → shares_for y es ≤ shares_in es
unfolding shares_for shares_in total
shares_most_holds y [] = omega arith
shares_most_holds y (e ∷ es) =
    let more = shares_most_holds y es in
    let one = counted (same_symbol e.symbol y) e.n2 in
    omega arith
  where
    counted : (b : Bool) (n : ℕ) → cond b n 0 ≤ n
    counted true n = omega arith
    counted false n = omega arith

abbrev pub all_known : List Row → List Row → Bool
all_known rs es = every (λ (e : Row). there (a_security e.symbol) rs) es

pub known_is : (b input : List ℕ) (i : ℕ) {e : FeedInput} {x n : ℕ} → e ≡ feed_input_of (row_at input i)
    → x ≡ place (has_key (a_security e.symbol)) (rows b) → n ≡ length b / 64
    → ltb x n ≡ there (a_security (row_at input i).symbol) (rows b)
unfolding feed_input_of
known_is b input i {e} a p q =
    let s : e.symbol ≡ (row_at input i).symbol = ap (λ (u : FeedInput). u.symbol) a in
    rw (q, ← s) (key_there (a_security e.symbol) b p)

-- ---- a search for an entry, among the first k, that hits the request
pub record Hitting (r : Request) (b : List ℕ) (k : ℕ) (w : Bool) (i : ℕ) : Type 0 where
  pub within : i ≤ k
  pub few : k ≤ length b / 64
  pub same : any_reaches (slice i k (rows b)) r ≡ w

pub hit_start : (r : Request) (b : List ℕ) (k : ℕ) → k ≤ length b / 64
    → Hitting r b k (any_reaches (take k (rows b)) r) 0
hit_start r b k h = record { within = omega arith; few = h; same = refl }

module _ {r : Request} {b : List ℕ} {k : ℕ} {w : Bool} {i : ℕ} (s : Hitting r b k w i) where
  next : i < k
      → any_reaches (slice i k (rows b)) r
      ≡ (reaches (feed_input_of (row_at b i)) r || any_reaches (slice (suc i) k (rows b)) r)
  unfolding any_reaches
  next h = rw (slice-cons i k (rows b) nothing h (rw length_rows s.few))

  pub hit_found : {x : Bool} {e : FeedInput} → i < k → e ≡ feed_input_of (row_at b i) → x ≡ reaches e r → x ≡ true
      → true ≡ w
  hit_found h a f t =
      let y : reaches (feed_input_of (row_at b i)) r ≡ true = ap (λ (u : FeedInput). reaches u r) (sym a) ∙ sym f ∙ t in
      let l : any_reaches (slice i k (rows b)) r ≡ true = next h ∙ rw y in
      sym l ∙ s.same

  pub hit_more : {x : Bool} {e : FeedInput} → i < k → e ≡ feed_input_of (row_at b i) → x ≡ reaches e r → x ≡ false
      → Hitting r b k w (i + 1)
  hit_more h a f t =
      let y : reaches (feed_input_of (row_at b i)) r ≡ false = ap (λ (u : FeedInput). reaches u r) (sym a) ∙ sym f ∙ t in
      let l : any_reaches (slice i k (rows b)) r ≡ any_reaches (slice (suc i) k (rows b)) r = next h ∙ rw y in
      record { within = omega arith; few = s.few; same = rw (add-one i) (sym l ∙ s.same) }

  pub hit_none : k ≤ i → false ≡ w
  unfolding any_reaches
  hit_none h =
      let a = s.within in
      let e : i ≡ k = omega arith in
      let l : any_reaches (slice i k (rows b)) r ≡ false = rw (e, slice_empty k (rows b)) in
      sym l ∙ s.same

pub ruleset hitting = (rules, hit_start, hit_found, hit_more, hit_none)

-- a test of every entry, and a sum over all
pub ruleset each = (rules, loops)

-- ---- sums
pub few_inputs : (n : ℕ) → whole_records most_inputs n ≡ true → n / 64 ≤ most_inputs
unfolding whole_records
few_inputs n w =
    let h = leb-true n (most_inputs * 64) (and_right (leb 64 n && eqb (n % 64) 0) (leb n (most_inputs * 64)) w) in
    omega arith

-- an entry's shares are four bytes
entry_few : (b : List ℕ) (i : ℕ) → Bytes b → (row_at b i).n2 ≤ entry_most
unfolding decode
entry_few b i h = go (ltb i (length b / 64)) refl
  where
    byte : (j : ℕ) → j < 64 → get_or (part 64 i b) j 0 < 256
    byte j l = rw (get_or-take 64 (drop (i * 64) b) j 0 l, get_or-drop) (h (i * 64 + j))

    go : (t : Bool) → ltb i (length b / 64) ≡ t → (row_at b i).n2 ≤ entry_most
    go true e =
        let c0 = byte 28 (omega arith) in
        let c1 = byte 29 (omega arith) in
        let c2 = byte 30 (omega arith) in
        let c3 = byte 31 (omega arith) in
        rw (rows_at b i (ltb-true i (length b / 64) e)) (omega arith)
    go false e = rw (rows_past b i (ltb-false i (length b / 64) e)) (omega arith)

-- of an entry that is read, all, and those that count for a symbol
module _ (b : List ℕ) (i : ℕ) (h : Bytes b) {u : FeedInput} (a : u ≡ feed_input_of (row_at b i)) where
  pub shares_read : Many entry_most (row_at b i).n2 u.shares
  unfolding feed_input_of
  shares_read = (ap (λ (x : FeedInput). x.shares.0) a, entry_few b i h)

  module _ (y : Symbol) {x : Bool} (q : x ≡ same_symbol u.symbol y) where
    told : same_symbol (row_at b i).symbol y ≡ x
    unfolding feed_input_of
    told = ap (λ (v : FeedInput). same_symbol v.symbol y) (sym a) ∙ sym q

    pub shares_here : x ≡ true → Many entry_most (shares_on y (row_at b i)) u.shares
    shares_here t = rw (told ∙ t) shares_read

    pub shares_none : x ≡ false → Many entry_most (shares_on y (row_at b i)) (shares (pos 0))
    shares_none t = rw (told ∙ t) (refl, omega arith)

-- the shares of the entries before i, and of what is left
pub record Adding (f : Row → ℕ) (b : List ℕ) (w : ℕ) (x : Shares) (i : ℕ) : Type 0 where
  pub sum : Summed f entry_most b w (up x.0) i
  pub whole : x.0 ≡ pos (up x.0)

-- whatever is told of the entry at a place is what f counts of its row
abbrev pub Counts : (ℕ → Shares → Type 0) → List ℕ → (Row → ℕ) → Type 0
Counts tells b f = (i : ℕ) (x : Shares) → tells i x → up x.0 ≡ f (row_at b i)

pub add_start : (f : Row → ℕ) (b : List ℕ) → Adding f b (total f (rows b)) (shares (pos 0)) 0
add_start f b = record { sum = sum_start f entry_most b; whole = refl }

-- two counts have a sum
pub both_fit : {m k a b : ℕ} {x y : Shares} → Many m a x → Many k b y → m + k ≤ signed_most
    → nat_abs x.0 + nat_abs y.0 ≤ signed_most
both_fit {m} {k} {a} {b} {x} {y} p q h =
    let e : nat_abs x.0 ≡ a = ap nat_abs p.0 in
    let f : nat_abs y.0 ≡ b = ap nat_abs q.0 in
    let l = p.1 in
    let r = q.1 in
    omega arith

-- the size of a sum of i entries, and of one more
pub size_start : Many (entry_most * 0) 0 (shares (pos 0))
size_start = (refl, omega arith)

pub size_more : (i : ℕ) {x y z : Shares} → Many (entry_most * i) (up x.0) x → Many entry_most (up y.0) y
    → z ≡ shares (x.0 +ℤ y.0) → Many (entry_most * (i + 1)) (up z.0) z
size_more i {x} {y} {z} p q e =
    let both : x.0 +ℤ y.0 ≡ pos (up x.0) +ℤ pos (up y.0) = λ j. p.0 j +ℤ q.0 j in
    let sum_is : z.0 ≡ pos (up x.0 + up y.0) = ap (λ (v : Shares). v.0) e ∙ both in
    let a = p.1 in
    let b = q.1 in
    rw sum_is (refl, omega arith)

module _ {f : Row → ℕ} {b : List ℕ} {w : ℕ} {x : Shares} {i : ℕ} (s : Adding f b w x i)
    (few : whole_records most_inputs (length b) ≡ true) where
  pub add_size : Many entries_most (up x.0) x
  add_size =
      let n = few_inputs (length b) few in
      let within = s.sum.within in
      let small = s.sum.small in
      (s.whole, omega arith)

  pub add_more : {y z : Shares} → i < length b / 64 → Many entry_most (f (row_at b i)) y → z ≡ shares (x.0 +ℤ y.0)
      → Adding f b w z (i + 1)
  add_more {y} {z} h m e =
      let p = f (row_at b i) in
      let both : x.0 +ℤ y.0 ≡ pos (up x.0) +ℤ pos p = λ j. s.whole j +ℤ m.0 j in
      let sum_is : z.0 ≡ pos (up x.0 + p) = ap (λ (v : Shares). v.0) e ∙ both in
      record { sum = rw sum_is (sum_more s.sum h refl refl m.1); whole = rw sum_is }

  pub add_all : length b / 64 ≤ i → Many entries_most w x
  add_all h =
      let e = sum_all s.sum h in
      (s.whole ∙ ap pos e, rw (← e) add_size.1)

-- ---- a volume
-- a security's is in its range in a sound book
volume_most : (rs : List Row) (y : Symbol) → sound rs ≡ true → (found (a_security y) rs).m1 ≤ volume.high
unfolding found
volume_most rs y e =
    the_most (has_key (a_security y)) (λ (r : Row). r.m1) volume.high rs (sound_s1 rs e)
    (λ r f h.
    let own = and_left (is kind_security r) (same_symbol r.symbol y) (sym (by_symbol_holds y r) ∙ h) in
    let k = eqb-true r.kind kind_security own in
    ((means_security r).shows (as_kind kind_security r k ∙ f)).0.2.2.2.2.2.2.2.2.2.2.2.1)
    (omega arith)

pub volume_read : (b : List ℕ) (y : Symbol) {x : ℕ} {r : Row} {s : Security} → sound (rows b) ≡ true
    → x ≡ place (has_key (a_security y)) (rows b) → r ≡ row_at b x → s ≡ security_of r
    → Many volume.high (found (a_security y) (rows b)).m1 s.volume
unfolding security_of
volume_read b y {x} {r} {s} e p q h =
    let m = (found (a_security y) (rows b)).m1 in
    let most = volume_most (rows b) y e in
    let read : s.volume.0 ≡ to_z w64 m = rw (h, key_row (a_security y) b p q) in
    (read ∙ to_z_pos w64 {n = m} (omega arith), most)

-- with the shares of the entries on the symbol, or with those of all where that is not too many
module _ (b input : List ℕ) (i : ℕ) {u : FeedInput} (a : u ≡ feed_input_of (row_at input i)) {x y z : Shares} {k t : ℕ}
    (v : Many volume.high (found (a_security u.symbol) (rows b)).m1 x) (q : Many k t y)
    (e : z ≡ shares (x.0 +ℤ y.0)) where
  on : u.symbol ≡ (row_at input i).symbol
  unfolding feed_input_of
  on = ap (λ (w : FeedInput). w.symbol) a

  after : up z.0 ≡ (found (a_security u.symbol) (rows b)).m1 + t
  after = ap (λ (w : Shares). up w.0) e ∙ (λ j. up (v.0 j +ℤ q.0 j))

  pub volume_in : {c : Bool} → t ≡ shares_for u.symbol (rows input) → c ≡ leb (up z.0) volume.high
      → c ≡ volume_fits (rows b) (rows input) (row_at input i)
  unfolding volume_fits
  volume_in g h = h ∙ rw (after, g, on)

  pub volume_under : {c : Bool} → t ≡ shares_in (rows input) → c ≡ leb (up z.0) volume.high → c ≡ true
      → true ≡ volume_fits (rows b) (rows input) (row_at input i)
  unfolding volume_fits
  volume_under g h l =
      let m = (found (a_security u.symbol) (rows b)).m1 in
      let n = shares_for u.symbol (rows input) in
      let most : n ≤ t = rw g (shares_most_holds u.symbol (rows input)) in
      let all = leb-true (up z.0) volume.high (sym h ∙ l) in
      let sum = after in
      rw (← on) (sym (le-leb (m + n) volume.high (omega arith)))

-- ---- the status: each check is that of the rules
module _ (rs es : List Row) (good : sound rs ≡ true) where
  -- where every security is known, the volumes are told from the book at entry
  volumes : all_known rs es ≡ true → volumes_fit (fed rs es).rows es ≡ every (volume_fits rs es) es
  unfolding volume_fits
  volumes e = volumes_fit_holds (record { rows = rs; trades = 0 }) es e

  pub judged : {s1 s2 s3 : Status} {x y : Bool} {n m : ℕ} → n ≡ count (due es) rs → x ≡ all_known rs es
      → s1 ≡ also Done x FeedNoSecurity → y ≡ every (volume_fits rs es) es → s2 ≡ also s1 y OverLimit
      → m ≡ room rs → s3 ≡ also s2 (leb n m) NoRoom → s3 ≡ verdict (checks rs es)
  unfolding checks verdict run also
  judged c k a v b r d = rw (d, r, b, v, a, k, c) (go (all_known rs es) refl)
    where
      go : (t : Bool) → all_known rs es ≡ t
          → also (also (also Done (all_known rs es) FeedNoSecurity) (every (volume_fits rs es) es) OverLimit)
          (leb (count (due es) rs) (room rs)) NoRoom
          ≡ verdict (checks rs es)
      go true e = rw (volumes e, trades_due rs es good)
      go false e = rw e

  pub judged_done : {n : ℕ} → n ≡ count (due es) rs → is_done (verdict (checks rs es)) ≡ true
      → (all_known rs es ≡ true) × (every (volume_fits rs es) es ≡ true) × (leb n (room rs) ≡ true)
  unfolding checks
  judged_done c d =
      let p = passed (checks rs es) refl d in (
        p.0,
        sym (volumes p.0) ∙ p.1.0,
        rw (c, ← trades_due rs es good) p.1.1.0,
      )
