-- The rows that a result leaves, as the code comes to them: what it adds, and then what it changes and frees, each at
-- the place where it stood. Assumes nothing.
use Rattle.std.specs.Prelude.{◌≡◌, Bool, true, false, cond, ◌&&◌, eqb, neg_ℤ, length, take}
use Rattle.std.proofs.Math.Path.{refl}
use Rattle.std.proofs.Common.{sym, ap, ◌∙◌, arith, length-take, get_or-take}
use Rattle.std.proofs.lemmas.Bool.{false≢true, eqb-false}
use Rattle.std.proofs.Math.Bool.{not}
use mathlib.Core.List.{List, [], ◌∷◌, ◌++◌, append_assoc, map, map-append, Memᴰ}
use Prim.Native.Nat.{ℕ, ◌≤◌, ◌<◌}
use Rattle.std.proofs.Math.ListN.{get_or}
use Rattle.laws.specs.All.{All, all_of_each}
use Rattle.laws.specs.Search.{place}
use Rattle.record.specs.Codes.{kind_account, kind_broker, kind_free, kind_lot, kind_summary, kind_trade}
use Rattle.record.specs.Signed.{up}
use Rattle.record.specs.declared.row.Row.{Row}
use Rattle.kinds.specs.Inputs.{result_input_of}
use Rattle.kinds.specs.Kinds.{account_of, broker_of, lot_of, summary_of, trade_of}
use Rattle.kinds.specs.Written.{account_row, broker_row, lot_row, summary_row, trade_row}
use Rattle.keys.specs.KeyLaws.{same_keys}
use Rattle.keys.specs.Key.{key_of}
use Rattle.rules.specs.Meaning.{means_account, means_broker, means_lot, means_summary, means_trade}
use Rattle.rules.proofs.Fits.{means_fits}
use Rattle.rules.specs.Rules.{as_kind, fits}
use Rattle.rules.specs.Typed.{account_written, broker_written, lot_written, summary_written, trade_written}
use Rattle.keys.specs.declared.Key.{Key}
use Rattle.model.specs.Flags.{cash}
use Rattle.model.specs.Lots.{Closing, closings}
use Rattle.model.specs.Names.{a_broker, a_summary, a_trade, an_account}
use Rattle.model.specs.Result.{account_changes, broker_after, closed_lots, closing_rows, figures, gone, holding, lot_changes}
use Rattle.model.specs.Result.{posting, signed, summary_changes, summary_gone, summed_shares, sums_of, trade_after, view}
use Rattle.model.specs.Rows.{found, has_key, is, nothing, there}
use Rattle.model.specs.Sound.{sound}
use Rattle.model.specs.SoundMeans.{means_sound}
use Rattle.facts.specs.Found.{found_has, found_live}
use Rattle.facts.specs.Keys.{of_live}
use Rattle.facts.specs.Posted.{frees}
use Rattle.facts.specs.Result.{Read, writes}
use Rattle.facts.proofs.Result.{reads}
use Rattle.facts.specs.Sound.{named_there, names_account, names_broker}
use Rattle.places.specs.Rows.{row_at}
use Rattle.reading.specs.declared.terms.Terms.{Terms}
use Rattle.reading.specs.Terms.{broker_read, places_of, terms_of}
use Rattle.figures.specs.declared.Figures.{Figures}
use Rattle.figures.specs.Figures.{figures_by, figures_of, walk_of}
use Rattle.verdict.specs.Judge.{Passed}
use Rattle.closed.specs.declared.Closed.{Closed}
use Rattle.closed.specs.Close.{freed, part_put}
use Rattle.added.specs.Add.{own_added}
use Rattle.changed.specs.Change.{account_put, broker_put, change_puts, summary_free, summary_put, trade_put}
use Rattle.result.specs.Place.{at_member, placed, spot, spot_at}

-- ---- a row that is found stands where its key does
spot_found : (k : Key) (rs : List Row) → there k rs ≡ true → spot rs (found k rs) ≡ place (has_key k) rs
unfolding has_key
spot_found k rs e =
    ap (λ (x : Key). place (has_key x) rs) (same_keys (key_of (found k rs)) k (found_has k rs e))

-- ---- one row or none, by place
at_place : {A : Type 0} (f : A → ℕ × Row) (t : Bool) (x : A) (w : ℕ × Row) → (t ≡ true → f x ≡ w)
    → map f (cond t (x ∷ []) []) ≡ cond t (w ∷ []) []
at_place f true x w e = ap (λ (y : ℕ × Row). y ∷ []) (e refl)
at_place f false x w e = refl

free_place : (rs : List Row) (t : Bool) (o : Row) (p : ℕ) → (t ≡ true → spot rs o ≡ p)
    → map (placed rs) (frees (cond t (o ∷ []) [])) ≡ cond t ((p, nothing) ∷ []) []
free_place rs true o p e = ap (λ (n : ℕ). (n, nothing) ∷ []) (e refl)
free_place rs false o p e = refl

and_held : (a b : Bool) → (not a && b) ≡ true → a ≡ false
and_held false b e = refl
and_held true b e = absurd (false≢true e)

-- ---- rows at places where they stand
free_places : (rs : List Row) (ps : List ℕ) → All (λ (p : ℕ). spot rs (get_or rs p nothing) ≡ p) ps
    → map (placed rs) (frees (map (λ (p : ℕ). get_or rs p nothing) ps)) ≡ freed ps
free_places rs [] h = refl
free_places rs (p ∷ ps) h =
    rw (h p (Memᴰ.head refl), free_places rs ps (λ q m. h q (Memᴰ.tail m)))

-- ---- what is read and written of a trade that is there
module _ (rs : List Row) (x : Row) (good : sound rs ≡ true) (p : Passed rs x) where
  abbrev t : Row
  t = (view rs x).trade

  abbrev a : Row
  a = (view rs x).account

  abbrev s : Row
  s = (view rs x).summary

  abbrev k : Row
  k = broker_read rs x

  abbrev pub cs : List Closing
  cs = closings t.n1 (view rs x).lots

  pub read : Read rs t s a k cs
  read = reads rs x good p.there p.sent

  fit : (r : Row) → Memᴰ r rs → fits r ≡ true
  fit r m = (means_fits r).holds (((means_sound rs).shows good).s1 r m)

  -- each typed value is that of its row
  pub trade_is : trade_row (trade_of t) ≡ t
  trade_is =
      trade_written t ((means_trade t).shows (as_kind kind_trade t read.t_kind ∙ fit t read.t_held))

  account_is : account_row (account_of a) ≡ a
  account_is =
      account_written a ((means_account a).shows (as_kind kind_account a read.a_kind ∙ fit a read.a_held))

  broker_is : broker_row (broker_of k) ≡ k
  broker_is =
      broker_written k ((means_broker k).shows (as_kind kind_broker k read.b_kind ∙ fit k read.b_held))

  summary_is : is kind_free s ≡ false → summary_row (summary_of s) ≡ s
  summary_is live =
      let h = read.s_held live in
      summary_written s ((means_summary s).shows (as_kind kind_summary s h.1 ∙ fit s h.0))

  pub lot_is : (l : Row) → Memᴰ l rs → l.kind ≡ kind_lot → lot_row (lot_of l) ≡ l
  lot_is l m e = lot_written l ((means_lot l).shows (as_kind kind_lot l e ∙ fit l m))

  -- and stands at its place
  trade_there : there (a_trade x.id) rs ≡ true
  unfolding view
  trade_there = found_live rs (a_trade x.id) p.there

  account_there : there (an_account t.party) rs ≡ true
  account_there =
      named_there rs good t (an_account t.party) _ read.t_held (names_account t read.t_kind)

  broker_there : there (a_broker a.n1) rs ≡ true
  broker_there = named_there rs good a (a_broker a.n1) _ read.a_held (names_broker a read.a_kind)

  abbrev T : Terms
  T = terms_of rs x

  abbrev G : Figures
  G = figures_of rs x

  trade_spot : spot rs t ≡ T.at.trade
  unfolding view terms_of places_of
  trade_spot = spot_found (a_trade x.id) rs trade_there

  account_spot : spot rs a ≡ T.at.account
  unfolding view terms_of places_of
  account_spot = spot_found (an_account (found (a_trade x.id) rs).party) rs account_there

  broker_spot : spot rs k ≡ T.at.broker
  unfolding view terms_of places_of
  broker_spot =
      spot_found (a_broker (found (an_account (found (a_trade x.id) rs).party) rs).n1) rs broker_there

  summary_spot : is kind_free s ≡ false → spot rs s ≡ T.at.summary
  unfolding view terms_of places_of
  summary_spot live =
      let key = a_summary (found (a_trade x.id) rs).party (found (a_trade x.id) rs).symbol in
      spot_found key rs (found_live rs key live)

  -- ---- the changes by place
  summary_puts : map (placed rs) (summary_changes t s) ≡ summary_put T G.shares
  unfolding terms_of figures_of figures_by trade_of summary_of
  summary_puts =
      let z = summed_shares t s in
      at_place (placed rs) (not (is kind_free s) && not (gone z)) (s, holding s z)
      (T.at.summary, holding (summary_row T.summary) z)
      (λ h.
      let live = and_held (is kind_free s) (not (gone z)) h in
      rw (summary_spot live, summary_is live))

  summary_frees : map (placed rs) (frees (summary_gone t s)) ≡ summary_free T G.shares
  unfolding terms_of figures_of figures_by trade_of summary_of
  summary_frees =
      let z = summed_shares t s in
      free_place rs (not (is kind_free s) && gone z) s T.at.summary
      (λ h. summary_spot (and_held (is kind_free s) (gone z) h))

  account_puts : map (placed rs) (account_changes t a (figures x (view rs x)).balance) ≡ account_put T G.balance
  unfolding terms_of figures_of figures_by walk_of figures trade_of account_of result_input_of
  account_puts =
      let z = (figures x (view rs x)).balance in
      at_place (placed rs) (cash t.flags) (a, holding a z) (T.at.account, holding (account_row T.account) z)
      (λ h. rw (account_spot, account_is))

  trade_put_holds : let f = figures x (view rs x) in
      placed rs (t, trade_after t x.n1 f.commission f.tax x.time)
      ≡ trade_put (result_input_of x) T G
  unfolding terms_of figures_of figures_by walk_of figures trade_of account_of result_input_of
  trade_put_holds = rw (trade_spot, trade_is)

  broker_put_holds : placed rs (k, broker_after k (figures x (view rs x)).commission) ≡ broker_put T G
  unfolding terms_of figures_of figures_by walk_of figures trade_of account_of result_input_of
  broker_put_holds = rw (broker_spot, broker_is)

  -- ---- all of them, as the rules have them
  abbrev pub all : List (Row × Row)
  all = writes t s a k cs (sums_of x (figures x (view rs x)))

  pub by_place : {part : List (ℕ × Row)} (ps : List ℕ) → part ≡ map (placed rs) (lot_changes t cs)
      → freed ps ≡ map (placed rs) (frees (closed_lots cs))
      → part ++ change_puts (result_input_of x) T G ++ freed ps ++ summary_free T G.shares ≡ map (placed rs) all
  by_place ps e f =
      rw (e, f, ← summary_puts, ← summary_frees, ← account_puts, ← trade_put_holds, ← broker_put_holds)
      (simp (map-append, append_assoc))

  -- ---- the lots at their places
  module _ (at : List ℕ) (n : ℕ) (long : n ≤ length at)
      (each : (j : ℕ) → j < n → (get_or at j 0 < length rs) × ((get_or rs (get_or at j 0) nothing).kind ≡ kind_lot)) where
    pub lot_live : (j : ℕ) → j < n → is kind_free (get_or rs (get_or at j 0) nothing) ≡ false
    lot_live j h = of_live kind_lot (get_or rs (get_or at j 0) nothing) refl (each j h).1

    lot_spot : (j : ℕ) → j < n → spot rs (get_or rs (get_or at j 0) nothing) ≡ get_or at j 0
    lot_spot j h = spot_at rs good (get_or at j 0) (each j h).0 (lot_live j h)

    pub lots_freed : (g : ℕ) → g ≤ n → map (λ (q : ℕ). get_or rs q nothing) (take g at) ≡ closed_lots cs
        → freed (take g at) ≡ map (placed rs) (frees (closed_lots cs))
    lots_freed g h e =
        rw (← e)
        (sym (free_places rs (take g at)
        (all_of_each (λ (q : ℕ). spot rs (get_or rs q nothing) ≡ q) 0 (take g at)
        (λ j m.
        let l : length (take g at) ≡ g = rw length-take (omega arith) in
        let q : j < g = omega arith in
        rw (get_or-take g at j 0 q) (lot_spot j (omega arith))))))

    pub lot_put : (c : Closed) (b : List ℕ)
        → (let l = get_or rs (get_or at c.gone 0) nothing in
        lot_changes t cs
        ≡ cond (eqb (up c.left.0) 0) [] ((l, holding l (neg_ℤ (signed t.form (up c.left.0)))) ∷ []))
        → ((up c.left.0 ≡ 0 → ⊥) → c.gone < n)
        → ((q : ℕ) → is kind_free (get_or rs q nothing) ≡ false → row_at b q ≡ get_or rs q nothing)
        → part_put T.trade b at c ≡ map (placed rs) (lot_changes t cs)
    unfolding terms_of trade_of
    lot_put c b e inside keeps = go (eqb (up c.left.0) 0) refl
      where
        q : ℕ
        q = get_or at c.gone 0

        l : Row
        l = get_or rs q nothing

        go : (u : Bool) → eqb (up c.left.0) 0 ≡ u → part_put T.trade b at c ≡ map (placed rs) (lot_changes t cs)
        go true u = rw (e, u)
        go false u =
            let h = inside (eqb-false (up c.left.0) 0 u) in
            let live = lot_live c.gone h in
            let k = each c.gone h in
            rw (e, u, keeps q live, lot_is l (at_member nothing rs q k.0) k.1, lot_spot c.gone h)

  -- ---- the rows that are added
  pub all_added : closing_rows (trade_row T.trade) cs ++ own_added (result_input_of x) T G
      ≡ (posting x (view rs x) (figures x (view rs x))).added
  unfolding terms_of figures_of figures_by walk_of figures trade_of account_of summary_of result_input_of posting
  all_added = rw trade_is (simp append_assoc)
