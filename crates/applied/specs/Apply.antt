-- The entries of a feed applied in turn: what an entry needs of the book and leaves of it.
use Rattle.std.specs.Prelude.{◌≡◌, Bool, false, cond, ◌&&◌, ℕ, ◌+◌, ◌≤◌, ◌<◌, eqb, length, drop, get_or, take}
use Rattle.std.proofs.Math.Path.{refl, ap}
use Rattle.std.proofs.Common.{sym, ◌∙◌, length-take}
use Rattle.std.proofs.Math.Bool.{true}
use Rattle.std.proofs.lemmas.Bool.{false≢true}
use mathlib.Core.List.{List, [], ◌∷◌, map}
use Rattle.std.proofs.Math.Nat.{add_assoc}
use native.Mathlib.Omega.{arith}
use Rattle.std.proofs.Math.Dec.{leb}
use Rattle.std.proofs.Math.ListN.{drop_of_length-le}
use Rattle.std.proofs.lemmas.List.{length-map}
use borrow.Author.Tests.{leb-true}
use Rattle.laws.specs.Keep.{every_alike, every_map, every_on, keep_every, run_map}
use Rattle.laws.specs.Search.{every, keep, run, total}
use Rattle.laws.specs.Sort.{every_sort, sort}
use Rattle.laws.specs.Tests.{and_left, and_right}
use Rattle.laws.specs.Walk.{left_next, left_none}
use Rattle.record.specs.Codes.{kind_request, pending}
use Rattle.record.specs.Signed.{up}
use Rattle.record.specs.Symbol.{same_symbol, symbol_itself}
use Rattle.record.specs.declared.row.Row.{Row}
use Rattle.rules.specs.Ranges.{volume}
use Rattle.kinds.specs.Inputs.{feed_input_of}
use Rattle.kinds.specs.declared.inputs.FeedInput.{FeedInput}
use Rattle.model.specs.Feed.{Fed, applied, fed, lower, reached, submits, triggered}
use Rattle.model.specs.Names.{a_security, a_trade}
use Rattle.model.specs.Rows.{found, is, nothing, rows, there}
use Rattle.facts.specs.Found.{found_none}
use Rattle.facts.specs.Feed.{shares_for, there_next, volume_next}
use Rattle.facts.specs.Rows.{length_rows}
use Rattle.places.specs.Rows.{row_at}
use Rattle.directory.specs.Listed.{places}
use Rattle.directory.specs.declared.totals.Totals.{Totals}
use Rattle.hits.specs.Due.{Going, after_quote, fresh_submits, going_on}
use Rattle.hits.specs.Gather.{Gathered}
use Rattle.hits.specs.Hits.{first_hit, fresh}
use Rattle.hits.specs.Judge.{volume_fits}
use Rattle.applied.specs.Submit.{Asking, Ready, numbers, quoted_is, quoted_by, sent_in}

abbrev first : List ℕ → Fed
first b = record { rows = rows b; trades = 0 }

-- ---- an entry
-- the entry numbered i may be applied; the feed submits at most so many trades
pub record Entry (most : ℕ) (b d : List ℕ) (t : Totals) (input : List ℕ) (i : ℕ) : Type 0 where
  pub ready : Ready b d t
  pub inside : i < places input
  pub known : there (a_security (row_at input i).symbol) (rows b) ≡ true
  pub volume : (found (a_security (row_at input i).symbol) (rows b)).m1 + (row_at input i).n2 ≤ volume.high
  pub going : Going (rows input) i (rows b)
  pub room : (applied (first b) (row_at input i)).trades ≤ t.free
  pub few : (applied (first b) (row_at input i)).trades ≤ most

-- it is applied
pub record Applied (e : Row) (b : List ℕ) (t : Totals) (b' d' : List ℕ) (t' : Totals) : Type 0 where
  pub rows : rows b' ≡ (applied (first b) e).rows
  pub ready : Ready b' d' t'
  pub room : t'.free + (applied (first b) e).trades ≡ t.free

-- the trade of a request that waits is there
waits_there : (rs : List Row) (e r : Row) → triggered rs e r ≡ true → there (a_trade r.id) rs ≡ true
waits_there rs e r h = go (there (a_trade r.id) rs) refl
  where
    pends : eqb (found (a_trade r.id) rs).status pending ≡ true
    pends =
        and_right (is kind_request r) (eqb (found (a_trade r.id) rs).status pending)
        (and_left (is kind_request r && eqb (found (a_trade r.id) rs).status pending)
        (same_symbol r.symbol e.symbol)
        (and_left
        (is kind_request r && eqb (found (a_trade r.id) rs).status pending && same_symbol r.symbol e.symbol)
        (reached e r)
        h))

    go : (t : Bool) → there (a_trade r.id) rs ≡ t → there (a_trade r.id) rs ≡ true
    go true z = z
    go false z = absurd (false≢true (rw (found_none (a_trade r.id) rs z) at pends))

pub submits_there : (rs : List Row) (e : Row) → every (λ (r : Row). there (a_trade r.id) rs) (submits rs e) ≡ true
unfolding submits
submits_there rs e =
    every_sort lower (λ (r : Row). there (a_trade r.id) rs) (keep (triggered rs e) rs)
    ∙ keep_every (triggered rs e) (λ (r : Row). there (a_trade r.id) rs) (waits_there rs e) rs

module _ {most : ℕ} {b d : List ℕ} {t : Totals} {input : List ℕ} {i : ℕ} (s : Entry most b d t input i)
    {e : FeedInput} (a : e ≡ feed_input_of (row_at input i))
  where
    pub entry_known : there (a_security e.symbol) (rows b) ≡ true
    unfolding feed_input_of
    entry_known = ap (λ (u : FeedInput). there (a_security u.symbol) (rows b)) a ∙ s.known

    pub entry_volume : (found (a_security e.symbol) (rows b)).m1 + up e.shares.0 ≤ volume.high
    unfolding feed_input_of
    entry_volume =
        let m = ap (λ (u : FeedInput). (found (a_security u.symbol) (rows b)).m1 + up u.shares.0) a in
        let v = s.volume in
        omega arith

    abbrev rs : List Row
    rs = after_quote s.going

    trades : (applied (first b) (row_at input i)).trades ≡ 0 + length (submits rs (row_at input i))
    unfolding applied
    trades = refl

    -- after its security is changed
    module _ (b₁ : List ℕ) (q : rows b₁ ≡ quoted_by e (rows b)) where
      is_rs : rows b₁ ≡ rs
      is_rs = q ∙ ap (λ (u : FeedInput). quoted_by u (rows b)) a ∙ quoted_is (row_at input i) (rows b)

      -- of a feed that submits nothing that is all
      pub entry_quiet : most ≡ 0 → Ready b₁ d t → Applied (row_at input i) b t b₁ d t
      unfolding applied run
      entry_quiet z r =
          let k = trades in
          let m = s.few in
          let none : submits rs (row_at input i) ≡ [] = drop_of_length-le (submits rs (row_at input i)) {i = 0} (omega arith) in
          record { rows = is_rs ∙ rw none; ready = r; room = omega arith }

    module _ {b₁ at : List ℕ} {n : ℕ} (q : rows b₁ ≡ quoted_by e (rows b)) (g : Gathered (rows input) i b₁ at n) where
      are : map (row_at b₁) (take n at) ≡ submits rs (row_at input i)
      are =
          g.rows ∙ ap (λ (l : List Row). sort lower (keep (fresh (rows input) i) l)) (is_rs b₁ q)
          ∙ fresh_submits s.going

      many : n ≤ length at → n ≡ length (submits rs (row_at input i))
      many h =
          let l : length (map (row_at b₁) (take n at)) ≡ n = simp (length-map, length-take) (omega arith) in
          sym l ∙ ap length are

      pub entry_asking : Asking b₁ at n
      entry_asking = record {
        each = λ k h.
            and_left (is kind_request (row_at b₁ (get_or at k 0))) (first_hit (rows input) i (row_at b₁ (get_or at k 0)))
            (g.each k h).holds;
        there =
            ap (λ (l : List Row). every (λ (j : ℕ). there (a_trade j) (rows b₁)) (map (λ (r : Row). r.id) l)) are
            ∙ ap (λ (l : List Row).
            every (λ (j : ℕ). there (a_trade j) l) (map (λ (r : Row). r.id) (submits rs (row_at input i)))) (is_rs b₁ q)
            ∙ every_map (λ (r : Row). r.id) (λ (j : ℕ). there (a_trade j) rs) (submits rs (row_at input i))
            ∙ submits_there rs (row_at input i);
      }

      pub entry_room : n ≤ length at → n ≤ t.free
      entry_room h =
          let m = many h in
          let k = trades in
          let r = s.room in
          omega arith

      pub entry_applied : {b₂ d₂ : List ℕ} {t₂ : Totals} → n ≤ length at
          → rows b₂ ≡ run (sent_in e.time.0) (rows b₁) (numbers b₁ (take n at)) → Ready b₂ d₂ t₂
          → t₂.free + n ≡ t.free → Applied (row_at input i) b t b₂ d₂ t₂
      unfolding applied feed_input_of
      entry_applied h r l m =
          let many = many h in
          let k = trades in
          let time : e.time.0 ≡ (row_at input i).time = ap (λ (u : FeedInput). u.time.0) a in
          record {
            rows =
                r ∙ rw (time, is_rs b₁ q, are)
                (run_map (λ (x : Row). x.id) (sent_in (row_at input i).time) rs (submits rs (row_at input i)));
            ready = l;
            room = omega arith;
          }

-- ---- the entries in turn: what is left of them fits the book
pub record Fits (rs es : List Row) : Type 0 where
  pub known : every (λ (e : Row). there (a_security e.symbol) rs) es ≡ true
  pub volumes : every (volume_fits rs es) es ≡ true

module _ {rs : List Row} {e : Row} {es : List Row} (s : Fits rs (e ∷ es)) where
  fits_known : there (a_security e.symbol) rs ≡ true
  unfolding every
  fits_known =
      and_left (there (a_security e.symbol) rs) (every (λ (x : Row). there (a_security x.symbol) rs) es)
      s.known

  fits_volume : (found (a_security e.symbol) rs).m1 + e.n2 ≤ volume.high
  unfolding every volume_fits shares_for total
  fits_volume =
      let y = e.symbol in
      let l : (found (a_security y) rs).m1 + shares_for y (e ∷ es) ≤ volume.high =
      leb-true _ _ (and_left (volume_fits rs (e ∷ es) e) (every (volume_fits rs (e ∷ es)) es) s.volumes)
      in
      let q : shares_for y (e ∷ es) ≡ e.n2 + shares_for y es = rw (symbol_itself y) in
      omega arith

  fits_next : (n : ℕ) → Fits (applied (record { rows = rs; trades = n }) e).rows es
  unfolding every volume_fits shares_for total
  fits_next n =
      let f : Fed = record { rows = rs; trades = n } in
      let left =
      and_right (there (a_security e.symbol) rs) (every (λ (x : Row). there (a_security x.symbol) rs) es)
      s.known
      in
      record {
        known =
            every_alike (λ (x : Row). there (a_security x.symbol) (applied f e).rows)
            (λ (x : Row). there (a_security x.symbol) rs)
            (λ x. there_next f e x.symbol) es
            ∙ left;
        volumes =
            every_on (λ (x : Row). there (a_security x.symbol) rs) (volume_fits (applied f e).rows es)
            (volume_fits rs (e ∷ es)) es left
            (λ x t. ap (λ (v : ℕ). leb v volume.high) (moved f x t))
            ∙ and_right (volume_fits rs (e ∷ es) e) (every (volume_fits rs (e ∷ es)) es) s.volumes;
      }
    where
      moved : (f : Fed) (x : Row) → there (a_security x.symbol) f.rows ≡ true
          → (found (a_security x.symbol) (applied f e).rows).m1 + shares_for x.symbol es
          ≡ (found (a_security x.symbol) f.rows).m1 + shares_for x.symbol (e ∷ es)
      moved f x t =
          ap (λ (m : ℕ). m + shares_for x.symbol es) (volume_next f e x.symbol t)
          ∙ add_assoc (found (a_security x.symbol) f.rows).m1
          (cond (same_symbol e.symbol x.symbol) e.n2 0)
          (shares_for x.symbol es)

-- what is left of the input, applied to the book as it is, leads to w; so many places were free, and w submits at most
-- so many trades
pub record Applying (free most : ℕ) (w : Fed) (input b d : List ℕ) (t : Totals) (i : ℕ) : Type 0 where
  trades : ℕ
  pub within : i ≤ places input
  pub ready : Ready b d t
  pub fit : Fits (rows b) (drop i (rows input))
  pub going : Going (rows input) i (rows b)
  pub left : t.free + trades ≡ free
  pub enough : w.trades ≤ free
  pub few : w.trades ≤ most
  pub same : run applied (record { rows = rows b; trades = trades }) (drop i (rows input)) ≡ w

-- what the book is like at the start
pub record Ahead (most : ℕ) (b d : List ℕ) (t : Totals) (input : List ℕ) : Type 0 where
  pub ready : Ready b d t
  pub fit : Fits (rows b) (rows input)
  pub going : Going (rows input) 0 (rows b)
  pub room : (fed (rows b) (rows input)).trades ≤ t.free
  pub few : (fed (rows b) (rows input)).trades ≤ most

pub apply_start : {most : ℕ} {b d : List ℕ} {t : Totals} {input : List ℕ} → Ahead most b d t input
    → Applying t.free most (fed (rows b) (rows input)) input b d t 0
apply_start s = record {
  trades = 0;
  within = omega arith;
  ready = s.ready;
  fit = s.fit;
  going = s.going;
  left = omega arith;
  enough = s.room;
  few = s.few;
  same = refl;
}

-- trades are never fewer
grows : (f : Fed) (es : List Row) → f.trades ≤ (run applied f es).trades
unfolding run applied
grows f [] = omega arith
grows f (e ∷ es) = let more = grows (applied f e) es in omega arith

module _ {free most : ℕ} {w : Fed} {input b d : List ℕ} {t : Totals} {i : ℕ}
    (s : Applying free most w input b d t i)
  where
    pub apply_end : places input ≤ i → rows b ≡ w.rows
    unfolding run
    apply_end h = ap (λ (f : Fed). f.rows) (rw (left_none (rows input) i (rw length_rows h)) at s.same)

    module _ (h : i < places input) where
      abbrev e : Row
      e = row_at input i

      next : drop i (rows input) ≡ e ∷ drop (i + 1) (rows input)
      next = left_next (rows input) i nothing (rw length_rows h)

      here : Fits (rows b) (e ∷ drop (i + 1) (rows input))
      here = rw next at s.fit

      after : run applied (applied (record { rows = rows b; trades = s.trades }) e) (drop (i + 1) (rows input)) ≡ w
      unfolding run
      after = rw next at s.same

      so_far : s.trades + (applied (first b) e).trades ≤ w.trades
      unfolding applied
      so_far =
          let all = grows (applied (record { rows = rows b; trades = s.trades }) e) (drop (i + 1) (rows input)) in
          let last = ap (λ (f : Fed). f.trades) after in
          omega arith

      pub apply_entry : Entry most b d t input i
      apply_entry =
          let f = so_far in
          let l = s.left in
          let m = s.enough in
          let k = s.few in
          record {
            ready = s.ready;
            inside = h;
            known = fits_known here;
            volume = fits_volume here;
            going = s.going;
            room = omega arith;
            few = omega arith;
          }

      pub apply_more : {b' d' : List ℕ} {t' : Totals} → Applied e b t b' d' t'
          → Applying free most w input b' d' t' (i + 1)
      unfolding applied
      apply_more o = record {
        trades = (applied (record { rows = rows b; trades = s.trades }) e).trades;
        within = omega arith;
        ready = o.ready;
        fit = rw o.rows (fits_next here 0);
        going = rw o.rows (going_on s.going (rw length_rows h) 0);
        left =
            let l = s.left in
            let r = o.room in
            omega arith;
        enough = s.enough;
        few = s.few;
        same = rw o.rows after;
      }
