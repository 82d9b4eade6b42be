-- Each row that a result writes is one of the book, a row of its own, and none is there twice.
use Rattle.std.specs.Prelude.{◌≡◌, true, false, not, ◌&&◌, cond, ℕ, ◌≤◌, ◌+◌, eqb, ℤ}
use Rattle.std.proofs.Math.Path.{refl, sym, ap}
use Rattle.std.proofs.Common.{◌∙◌, subst, arith, to_z}
use Rattle.std.proofs.lemmas.Bool.{false≢true}
use Rattle.std.proofs.Math.Bool.{Bool}
use mathlib.Core.List.{List, ◌∷◌, Memᴰ, [], ◌++◌, map-append}
use borrow.Author.Tests.{eqb-false, not-false, eqb-true}
use Rattle.std.specs.Int.{w64}
use Rattle.laws.specs.All.{All, all_append, all_cond, all_keep, all_map, all_more, all_none, all_one}
use Rattle.laws.specs.Keep.{count_append, count_cond, count_map, count_none, count_on, count_parts, count_single}
use Rattle.laws.specs.Search.{bit, count, keep, total}
use Rattle.laws.specs.Tests.{and_right}
use Rattle.record.specs.Codes.{completed, kind_account, kind_broker, kind_cash, kind_free, kind_lot, kind_lot_history}
use Rattle.record.specs.Codes.{kind_settlement, kind_summary, kind_trade, kind_trade_history, submitted}
use Rattle.keys.specs.Key.{key_of}
use Rattle.keys.specs.KeyLaws.{keys_tell, same_keys}
use Rattle.keys.specs.declared.Key.{Key}
use Rattle.record.specs.declared.row.Row.{Row}
use Rattle.model.specs.Flags.{cash}
use Rattle.model.specs.Lots.{Closing, closings, lots_for}
use Rattle.model.specs.Names.{a_broker, a_summary, a_trade, an_account}
use Rattle.model.specs.Result.{Sums, account_changes, added, broker_after, broker_write, closed_lots, closing_rows}
use Rattle.model.specs.Result.{final_rows, gone, holding, left_of, lot_changes, lot_history, new_lot, new_summary}
use Rattle.model.specs.Result.{opening_rows, reduced, signed, summary_changes, summary_gone, summary_rows, summed_shares}
use Rattle.model.specs.Result.{trade_after, trade_write, view}
use Rattle.model.specs.Rows.{found, has_key, is, nothing}
use Rattle.model.specs.Sound.{sound}
use Rattle.model.specs.SoundMeans.{means_sound}
use Rattle.facts.specs.Found.{found_has, found_kind, found_live, found_member}
use Rattle.facts.specs.Keys.{key_kind, not_nothing, of_kind, of_live, same_key_holds}
use Rattle.facts.specs.Lots.{all_closings, count_closings, count_lots, lots_held}
use Rattle.facts.specs.Names.{by_id_holds, other_kind}
use Rattle.facts.specs.Sound.{named_there, names_account, names_broker}
use Rattle.facts.specs.Posted.{frees}
use Rattle.facts.specs.Result.{Read, Turned, broker_key, holding_key, trade_key, writes}

module _ {rs hs : List Row} (o : Row) (m : Memᴰ o rs) (live : is kind_free o ≡ false)
    (alone : All (λ (h : Row). has_key (key_of o) h ≡ false) hs) where
  changes : (n : Row) → key_of n ≡ key_of o → Turned rs hs (o, n)
  changes n e = record { held = m; live = live; key = λ x l h. same_key_holds (key_of x) o n e h; alone = alone }

  goes : Turned rs hs (o, nothing)
  goes = record {
    held = m;
    live = live;
    key = λ x l h. absurd (false≢true (sym (not_nothing x l) ∙ h));
    alone = alone;
  }

-- ---- a row's key, and those of the rows that are added
-- a kind of which no history, settlement or cash row is
abbrev Aside : ℕ → Type 0
Aside k =
    (eqb kind_lot_history k ≡ false) × (eqb kind_trade_history k ≡ false) × (eqb kind_settlement k ≡ false)
    × (eqb kind_cash k ≡ false)

module _ (t summary : Row) (cs : List Closing) (n : Sums) where
  -- a row of a kind of its own, or of a key that the new lot and the new summary have not, is clear of all of them
  clear : (o : Row) (k : ℕ) → o.kind ≡ k → Aside k
      → has_key (key_of o) (new_lot t n.price (signed t.form n.left) n.time) ≡ false
      → (is kind_free summary ≡ true → has_key (key_of o) (new_summary t (summed_shares t summary)) ≡ false)
      → All (λ (h : Row). has_key (key_of o) h ≡ false) (added t summary cs n)
  clear o k e a lot sum =
      all_append P (closing_rows t cs ++ opening_rows t n.price n.left n.time ++ summary_rows t summary)
      (final_rows t n.amount n.time)
      (all_append P (closing_rows t cs ++ opening_rows t n.price n.left n.time) (summary_rows t summary)
      (all_append P (closing_rows t cs) (opening_rows t n.price n.left n.time)
      (all_map (λ (c : Closing). lot_history c.lot.id t.id (to_z w64 c.lot.m1) (left_of t.form c)) P cs
      (λ c m. other _ a.0))
      (all_cond P (eqb n.left 0) [] _ (λ z. all_none P)
      (λ z. all_more P _ _ (other _ a.0) (all_one P _ lot))))
      (all_cond P (not (is kind_free summary)) [] _ (λ z. all_none P)
      (λ z. all_one P _ (sum (not-false (is kind_free summary) z)))))
      (all_more P _ _ (other _ a.1)
      (all_more P _ _ (other _ a.2)
      (all_cond P (cash t.flags) _ [] (λ z. all_one P _ (other _ a.3)) (λ z. all_none P))))
    where
      P : Row → Type 0
      P h = has_key (key_of o) h ≡ false

      other : (h : Row) → eqb h.kind k ≡ false → P h
      other h q = other_kind o h (ap (eqb h.kind) e ∙ q)

-- what holds of each row that is changed and of each that goes holds of all that are written
module _ (P : Row × Row → Type 0) (t summary account broker : Row) (cs : List Closing) (n : Sums)
    (lots : (c : Closing) → Memᴰ c cs → P (c.lot, holding c.lot (left_of t.form c)))
    (lots-go : (c : Closing) → Memᴰ c cs → P (c.lot, nothing))
    (sums : is kind_free summary ≡ false → P (summary, holding summary (summed_shares t summary)))
    (sums-go : is kind_free summary ≡ false → P (summary, nothing)) (holds : P (account, holding account n.balance))
    (trades : P (trade_write t n)) (brokers : P (broker_write broker n)) where
  live : (a b : Bool) → (not a && b) ≡ true → a ≡ false
  live true b e = absurd (false≢true e)
  live false b e = refl

  lots_change : All P (lot_changes t cs)
  lots_change =
      all_map (λ (c : Closing). (c.lot, holding c.lot (left_of t.form c))) P (keep reduced cs)
      (all_keep (λ (c : Closing). P (c.lot, holding c.lot (left_of t.form c))) reduced cs lots)

  lots_freed : All P (frees (closed_lots cs))
  lots_freed =
      all_map (λ (o : Row). (o, nothing)) P (closed_lots cs)
      (all_map (λ (c : Closing). c.lot) (λ (o : Row). P (o, nothing)) (keep (λ (c : Closing). not (reduced c)) cs)
      (all_keep (λ (c : Closing). P (c.lot, nothing)) (λ (c : Closing). not (reduced c)) cs lots-go))

  summary_changes_holds : All P (summary_changes t summary)
  summary_changes_holds =
      let z = summed_shares t summary in
      all_cond P (not (is kind_free summary) && not (gone z)) _ []
      (λ e. all_one P _ (sums (live (is kind_free summary) (not (gone z)) e))) (λ e. all_none P)

  summary_freed : All P (frees (summary_gone t summary))
  summary_freed =
      let z = summed_shares t summary in
      all_map (λ (o : Row). (o, nothing)) P (summary_gone t summary)
      (all_cond (λ (o : Row). P (o, nothing)) (not (is kind_free summary) && gone z) _ []
      (λ e. all_one (λ (o : Row). P (o, nothing)) summary (sums-go (live (is kind_free summary) (gone z) e)))
      (λ e. all_none (λ (o : Row). P (o, nothing))))

  account_changes_holds : All P (account_changes t account n.balance)
  account_changes_holds = all_cond P (cash t.flags) _ [] (λ e. all_one P _ holds) (λ e. all_none P)

  pub all_writes : All P (writes t summary account broker cs n)
  all_writes =
      let w1 = lot_changes t cs in
      let w2 = summary_changes t summary in
      let w3 = account_changes t account n.balance in
      let w4 = trade_write t n ∷ [] in
      let w5 = broker_write broker n ∷ [] in
      all_append P (w1 ++ w2 ++ w3 ++ w4 ++ w5) (frees (closed_lots cs ++ summary_gone t summary))
      (all_append P (w1 ++ w2 ++ w3 ++ w4) w5
      (all_append P (w1 ++ w2 ++ w3) w4
      (all_append P (w1 ++ w2) w3 (all_append P w1 w2 lots_change summary_changes_holds) account_changes_holds)
      (all_one P _ trades))
      (all_one P _ brokers))
      (subst (All P) (sym (map-append (λ (o : Row). (o, nothing)) (closed_lots cs) (summary_gone t summary)))
      (all_append P (frees (closed_lots cs)) (frees (summary_gone t summary)) lots_freed summary_freed))

module _ {rs : List Row} {t summary account broker : Row} {cs : List Closing}
    (r : Read rs t summary account broker cs) (n : Sums) where
  -- a lot's trade is completed, so that no lot has the number of this trade
  another_lot : (l : Row) → Memᴰ l rs → l.kind ≡ kind_lot
      → has_key (key_of l) (new_lot t n.price (signed t.form n.left) n.time) ≡ false
  unfolding has_key
  another_lot l m e = go (has_key (key_of l) x) refl
    where
      x : Row
      x = new_lot t n.price (signed t.form n.left) n.time

      go : (b : Bool) → has_key (key_of l) x ≡ b → has_key (key_of l) x ≡ false
      go true h =
          let q : t.id ≡ l.id = (keys_tell x l (same_keys (key_of x) (key_of l) h)).id refl in
          let done : (found (a_trade l.id) rs).status ≡ completed =
          ((((means_sound rs).shows r.good).s8 l m).0 e).0.0.0.0
          in
          let mine : t.status ≡ (found (a_trade l.id) rs).status =
          ap (λ (o : Row). o.status) (sym r.t_own) ∙ ap (λ (i : ℕ). (found (a_trade i) rs).status) q
          in
          let z : ◌≡◌ {A = ℕ} submitted completed = sym r.t_status ∙ mine ∙ done in
          absurd (omega arith)
      go false h = h

  -- a row of a kind that is not added
  plain : (o : Row) (k : ℕ) → o.kind ≡ k → Aside k → eqb kind_lot k ≡ false → eqb kind_summary k ≡ false
      → All (λ (h : Row). has_key (key_of o) h ≡ false) (added t summary cs n)
  plain o k e a l s =
      clear t summary cs n o k e a (other_kind o _ (ap (eqb kind_lot) e ∙ l))
      (λ z. other_kind o _ (ap (eqb kind_summary) e ∙ s))

  lot_alone : (l : Row) → Memᴰ l rs → l.kind ≡ kind_lot
      → All (λ (h : Row). has_key (key_of l) h ≡ false) (added t summary cs n)
  lot_alone l m e =
      clear t summary cs n l kind_lot e (refl, refl, refl, refl) (another_lot l m e)
      (λ z. other_kind l _ (ap (eqb kind_summary) e))

  summary_alone : is kind_free summary ≡ false
      → All (λ (h : Row). has_key (key_of summary) h ≡ false) (added t summary cs n)
  summary_alone live =
      let e = (r.s_held live).1 in
      clear t summary cs n summary kind_summary e (refl, refl, refl, refl) (other_kind summary _ (ap (eqb kind_lot) e))
      (λ z. absurd (false≢true (sym live ∙ z)))

  -- ---- each is a row of its own
  abbrev Own : Row × Row → Type 0
  Own w = Turned rs (added t summary cs n) w

  trade_changes : Own (trade_write t n)
  trade_changes =
      changes t r.t_held (of_live kind_trade t refl r.t_kind)
      (plain t kind_trade r.t_kind (refl, refl, refl, refl) refl refl)
      (trade_write t n).1
      (trade_key t n.price n.commission n.tax n.time r.t_kind)

  broker_changes : Own (broker_write broker n)
  broker_changes =
      changes broker r.b_held (of_live kind_broker broker refl r.b_kind)
      (plain broker kind_broker r.b_kind (refl, refl, refl, refl) refl refl)
      (broker_write broker n).1
      (broker_key broker n.commission r.b_kind)

  pub all_own : All Own (writes t summary account broker cs n)
  all_own =
      all_writes Own t summary account broker cs n
      (λ c m.
      let h = r.c_held c m in
      changes c.lot h.0 (of_live kind_lot c.lot refl h.1) (lot_alone c.lot h.0 h.1) _
      (holding_key c.lot (left_of t.form c)))
      (λ c m.
      let h = r.c_held c m in
      goes c.lot h.0 (of_live kind_lot c.lot refl h.1) (lot_alone c.lot h.0 h.1))
      (λ live.
      let z = summed_shares t summary in
      changes summary (r.s_held live).0 live (summary_alone live) (holding summary z) (holding_key summary z))
      (λ live. goes summary (r.s_held live).0 live (summary_alone live))
      (changes account r.a_held (of_live kind_account account refl r.a_kind)
      (plain account kind_account r.a_kind (refl, refl, refl, refl) refl refl) (holding account n.balance)
      (holding_key account n.balance))
      trade_changes broker_changes

-- ---- the kinds of rows that are changed or freed are five, and a key has one of them
abbrev kinds : ℕ → ℕ
kinds x =
    bit (eqb x kind_lot) + bit (eqb x kind_summary) + bit (eqb x kind_account) + bit (eqb x kind_trade)
    + bit (eqb x kind_broker)

one_kind : (x : ℕ) → kinds x ≤ 1
one_kind x = go (eqb x kind_lot) (eqb x kind_summary) (eqb x kind_account) (eqb x kind_trade) refl refl refl refl
  where
    known : (n : ℕ) → eqb x n ≡ true → kinds n ≤ 1 → kinds x ≤ 1
    known n e h = subst (λ (y : ℕ). kinds y ≤ 1) (sym (eqb-true x n e)) h

    last : (t : Bool) → bit t ≤ 1
    last true = omega arith
    last false = omega arith

    go : (a b c d : Bool) → eqb x kind_lot ≡ a → eqb x kind_summary ≡ b → eqb x kind_account ≡ c → eqb x kind_trade ≡ d
        → kinds x ≤ 1
    go true b c d ea eb ec ed = known kind_lot ea (omega arith)
    go false true c d ea eb ec ed = known kind_summary eb (omega arith)
    go false false true d ea eb ec ed = known kind_account ec (omega arith)
    go false false false true ea eb ec ed = known kind_trade ed (omega arith)
    go false false false false ea eb ec ed = rw (ea, eb, ec, ed) (let h = last (eqb x kind_broker) in omega arith)

-- ---- none is there twice
module _ {rs : List Row} {t summary account broker : Row} {cs : List Closing}
    (r : Read rs t summary account broker cs) (n : Sums) where
  module _ (k : Key) (k-once : count (has_key k) rs ≤ 1) where
    abbrev olds : List (Row × Row) → ℕ
    olds ws = count (λ (w : Row × Row). has_key k w.0) ws

    abbrev of_lot : Closing → Bool
    of_lot c = has_key k c.lot

    lots_once : count of_lot cs ≤ bit (eqb k.kind kind_lot)
    lots_once = go (eqb k.kind kind_lot) refl
      where
        not_it : (b : Bool) → (b ≡ true → ⊥) → b ≡ false
        not_it true h = absurd (h refl)
        not_it false h = refl

        go : (b : Bool) → eqb k.kind kind_lot ≡ b → count of_lot cs ≤ bit (eqb k.kind kind_lot)
        go true e = let h = r.c_once k in rw e (omega arith)
        go false e =
            let none : count of_lot cs ≡ 0 =
            count_on of_lot (λ c. false) cs
            (λ c m. not_it (has_key k c.lot) (λ h.
            eqb-false k.kind kind_lot e (sym (key_kind k c.lot h) ∙ (r.c_held c m).1)))
            ∙ count_none (λ c. false) cs (λ c. refl)
            in
            rw e (omega arith)

    lots_both : olds (lot_changes t cs) + count (has_key k) (closed_lots cs) ≤ bit (eqb k.kind kind_lot)
    lots_both =
        let a : olds (lot_changes t cs) ≡ count of_lot (keep reduced cs) =
        count_map (λ (w : Row × Row). has_key k w.0)
        (λ (c : Closing). (c.lot, holding c.lot (left_of t.form c))) (keep reduced cs)
        in
        let b : count (has_key k) (closed_lots cs) ≡ count of_lot (keep (λ (c : Closing). not (reduced c)) cs) =
        count_map (has_key k) (λ (c : Closing). c.lot) (keep (λ (c : Closing). not (reduced c)) cs)
        in
        let all = count_parts of_lot reduced cs in
        let h = lots_once in
        omega arith

    summary_both : olds (summary_changes t summary) + count (has_key k) (summary_gone t summary)
        ≤ bit (eqb k.kind kind_summary)
    unfolding count total
    summary_both = go (is kind_free summary) (gone (summed_shares t summary)) refl
      where
        p : Row × Row → Bool
        p w = has_key k w.0

        go : (a b : Bool) → is kind_free summary ≡ a
            → count p (cond (not a && not b) ((summary, holding summary (summed_shares t summary)) ∷ []) [])
            + count (has_key k) (cond (not a && b) (summary ∷ []) [])
            ≤ bit (eqb k.kind kind_summary)
        go true b e = omega arith
        go false true e = let h = of_kind k summary kind_summary (r.s_held e).1 in omega arith
        go false false e = let h = of_kind k summary kind_summary (r.s_held e).1 in omega arith

    pub writes_once : count (λ (w : Row × Row). has_key k w.0) (writes t summary account broker cs n) ≤ 1
    writes_once =
        let p : Row × Row → Bool = λ w. has_key k w.0 in
        let w1 = lot_changes t cs in
        let w2 = summary_changes t summary in
        let w3 = account_changes t account n.balance in
        let w4 = trade_write t n ∷ [] in
        let w5 = broker_write broker n ∷ [] in
        let os = closed_lots cs ++ summary_gone t summary in
        let e5 = count_append p (w1 ++ w2 ++ w3 ++ w4 ++ w5) (frees os) in
        let e4 = count_append p (w1 ++ w2 ++ w3 ++ w4) w5 in
        let e3 = count_append p (w1 ++ w2 ++ w3) w4 in
        let e2 = count_append p (w1 ++ w2) w3 in
        let e1 = count_append p w1 w2 in
        let f : count p (frees os) ≡ count (has_key k) os = count_map p (λ (o : Row). (o, nothing)) os in
        let g = count_append (has_key k) (closed_lots cs) (summary_gone t summary) in
        let c3 = count_cond p (cash t.flags) (account, holding account n.balance) in
        let c4 = count_single p (trade_write t n) in
        let c5 = count_single p (broker_write broker n) in
        let k1 = lots_both in
        let k2 = summary_both in
        let k3 = of_kind k account kind_account r.a_kind in
        let k4 = of_kind k t kind_trade r.t_kind in
        let k5 = of_kind k broker kind_broker r.b_kind in
        let one = one_kind k.kind in
        omega arith

module _ (rs : List Row) (input : Row) (good : sound rs ≡ true) where
  -- a trade of the book, and what it leads to
  pub reads : is kind_free (view rs input).trade ≡ false → (view rs input).trade.status ≡ submitted
      → let v = view rs input in
      Read rs v.trade v.summary v.account (found (a_broker v.account.n1) rs)
      (closings v.trade.n1 v.lots)
  unfolding view
  reads live status =
      let i = input.id in
      let t = found (a_trade i) rs in
      let a = found (an_account t.party) rs in
      let s = a_summary t.party t.symbol in
      let ls = lots_for rs t.form t.flags t.party t.symbol in
      let t-there = found_live rs (a_trade i) live in
      let t_held = found_member rs (a_trade i) t-there in
      let t_kind = found_kind rs (a_trade i) t-there in
      let own = sym (by_id_holds kind_trade refl i t) ∙ found_has (a_trade i) rs t-there in
      let number : t.id ≡ i = eqb-true t.id i (and_right (is kind_trade t) (eqb t.id i) own) in
      let a-there = named_there rs good t (an_account t.party) _ t_held (names_account t t_kind) in
      let a_held = found_member rs (an_account t.party) a-there in
      let a_kind = found_kind rs (an_account t.party) a-there in
      let b_there = named_there rs good a (a_broker a.n1) _ a_held (names_broker a a_kind) in
      record {
        good = good;
        t_held = t_held;
        t_kind = t_kind;
        t_own = ap (λ (x : ℕ). found (a_trade x) rs) number;
        t_status = status;
        a_held = a_held;
        a_kind = a_kind;
        b_held = found_member rs (a_broker a.n1) b_there;
        b_kind = found_kind rs (a_broker a.n1) b_there;
        s_held = λ e. let h = found_live rs s e in (found_member rs s h, found_kind rs s h);
        c_held =
            all_closings (λ (l : Row). Memᴰ l rs × (l.kind ≡ kind_lot)) t.n1 ls
            (lots_held rs t.form t.flags t.party t.symbol);
        c_once = λ k.
            let x = count_closings (has_key k) t.n1 ls in
            let y = count_lots rs t.form t.flags t.party t.symbol (has_key k) in
            omega arith;
      }
