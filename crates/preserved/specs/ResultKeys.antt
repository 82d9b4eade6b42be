-- A result that is done leaves S2: no key is there twice. Assumes nothing.
use Rattle.std.specs.Prelude.{◌≡◌, cond, not, ℕ, ◌+◌, ◌≤◌, eqb, leb, length}
use Rattle.std.proofs.Math.Path.{refl, sym, ap}
use Rattle.std.proofs.Common.{subst, ◌∙◌, inl, inr, eq-eqb, eqb-true, leb-false, leb-true}
use Rattle.std.proofs.Math.Bool.{Bool, true, false}
use mathlib.Core.List.{List, [], ◌∷◌, ◌++◌, Memᴰ}
use native.Mathlib.Omega.{arith}
use Rattle.std.proofs.lemmas.Bool.{eqb-false}
use Rattle.laws.specs.Change.{puts}
use Rattle.laws.specs.Keep.{count_append, count_cond, count_has, count_map}
use Rattle.laws.specs.Search.{bit, count, total}
use Rattle.laws.specs.Puts.{count_less, count_no, puts_count}
use Rattle.record.specs.Codes.{kind_cash, kind_free, kind_lot, kind_lot_history, kind_settlement, kind_summary}
use Rattle.record.specs.Codes.{kind_trade_history}
use Rattle.keys.specs.Key.{key_of}
use Rattle.keys.specs.KeyLaws.{same_keys}
use Rattle.keys.specs.declared.Key.{Key}
use Rattle.record.specs.declared.row.Row.{Row}
use Rattle.model.specs.Flags.{cash}
use Rattle.model.specs.Lots.{Closing}
use Rattle.model.specs.Names.{a_lot, a_summary}
use Rattle.model.specs.Rows.{found, has_key, is, nothing, same_row}
use Rattle.model.specs.SoundMeans.{S2}
use Rattle.model.specs.Result.{Sums, added, closing_rows, final_rows, opening_rows, summary_rows}
use Rattle.facts.specs.Rows.{row_itself, same_rows}
use Rattle.facts.specs.Found.{own_number}
use Rattle.facts.specs.Keys.{key_of_holds, of_kind, own_key}
use Rattle.facts.specs.Result.{Read}
use Rattle.facts.proofs.Result.{all_own}
use Rattle.facts.specs.Result
use Rattle.facts.specs.Posted.{adds}
use Rattle.preserved.specs.Cases.{by_cases, not_so, one_bit}
use Rattle.preserved.specs.ResultBase.{all, all_inside}
use Rattle.preserved.specs.ResultEach.{cash_of, closing_of, history_of, lot_opened, opening_of, settlement_of}
use Rattle.preserved.specs.ResultEach.{summary_opened}
use Rattle.preserved.specs.ResultFresh.{book, no_cash, no_history, no_lot, no_lot_history, no_settlement, no_summary}
use Rattle.preserved.specs.ResultFresh.{one_key}

-- ---- the kinds of rows that are added are six, and a key has one of them
abbrev kinds : ℕ → ℕ
kinds x =
    bit (eqb x kind_lot_history) + bit (eqb x kind_lot) + bit (eqb x kind_summary) + bit (eqb x kind_trade_history)
    + bit (eqb x kind_settlement) + bit (eqb x kind_cash)

one_kind : (x : ℕ) → kinds x ≤ 1
one_kind x =
    at kind_lot_history (omega arith) (λ a. at kind_lot (omega arith) (λ b. at kind_summary (omega arith) (λ c.
    at kind_trade_history (omega arith) (λ d. at kind_settlement (omega arith) (λ f.
    rw (a, b, c, d, f) (omega (arith, one_bit (eqb x kind_cash))))))))
  where
    at : (n : ℕ) → kinds n ≤ 1 → (eqb x n ≡ false → kinds x ≤ 1) → kinds x ≤ 1
    at n h f = by_cases (eqb x n) (λ e. subst (λ (y : ℕ). kinds y ≤ 1) (sym (eqb-true x n e)) h) f

module _ {rs : List Row} {t summary account broker : Row} {cs : List Closing}
    (r : Read rs t summary account broker cs) (n : Sums)
    (s_own : summary ≡ found (a_summary t.party t.symbol) rs) where
  module _ (k : Key) (live : k.kind ≡ kind_free → ⊥) where
    was : count (has_key k) rs ≤ 1
    was = one_key rs (book r n).s2 k live

    -- a row of a new key
    beside : (h : Row) → count (has_key (key_of h)) rs ≡ 0 → count (has_key k) rs + bit (has_key k h) ≤ 1
    unfolding has_key
    beside h none = go (has_key k h) refl
      where
        go : (b : Bool) → has_key k h ≡ b → count (has_key k) rs + bit b ≤ 1
        go true e =
            let z : count (has_key k) rs ≡ 0 = rw (same_keys (key_of h) k e) at none in
            omega arith
        go false e = let w = was in omega arith

    -- the lots that are closed are each there once, and none has the number of the trade
    closings_few : (j : ℕ) → ((c : Closing) → Memᴰ c cs → has_key k (closing_of t c) ≡ true → c.lot.id ≡ j)
        → count (has_key k) (closing_rows t cs) ≤ count (has_key (a_lot j)) rs
    closings_few j h =
        let a = count_map (has_key k) (closing_of t) cs in
        let b =
        count_less (λ (c : Closing). has_key k (closing_of t c)) (λ (c : Closing). has_key (a_lot j) c.lot) cs
        (λ c m e. own_number kind_lot refl j c.lot (eq-eqb c.lot.kind kind_lot (r.c_held c m).1) (h c m e))
        in
        let d = r.c_once (a_lot j) in
        omega arith

    key_id : (c : Closing) → has_key k (closing_of t c) ≡ true → c.lot.id ≡ k.id
    unfolding has_key key_of
    key_id c e = ap (λ (x : Key). x.id) (same_keys (key_of (closing_of t c)) k e)

    histories_once : count (has_key k) (closing_rows t cs) + bit (has_key k (opening_of t n)) ≤ 1
    unfolding has_key key_of
    histories_once = go (has_key k (opening_of t n)) refl
      where
        go : (b : Bool) → has_key k (opening_of t n) ≡ b → count (has_key k) (closing_rows t cs) + bit b ≤ 1
        go true e =
            let own : t.id ≡ k.id = ap (λ (x : Key). x.id) (same_keys (key_of (opening_of t n)) k e) in
            let few = closings_few t.id (λ c m q. key_id c q ∙ sym own) in
            let none : count (has_key (a_lot t.id)) rs ≡ 0 = no_lot r n in
            omega arith
        go false e =
            let few = closings_few k.id (λ c m q. key_id c q) in
            let one = one_key rs (book r n).s2 (a_lot k.id) (λ z. omega arith) in
            omega arith

    histories_kind : count (has_key k) (closing_rows t cs) + bit (has_key k (opening_of t n))
        ≤ bit (eqb k.kind kind_lot_history)
    histories_kind = go (eqb k.kind kind_lot_history) refl
      where
        off : (h : Row) → h.kind ≡ kind_lot_history → eqb k.kind kind_lot_history ≡ false → has_key k h ≡ false
        off h q e = key_of_holds k h (λ z. eqb-false k.kind kind_lot_history e (sym z ∙ q))

        go : (b : Bool) → eqb k.kind kind_lot_history ≡ b
            → count (has_key k) (closing_rows t cs) + bit (has_key k (opening_of t n)) ≤ bit b
        go true e = histories_once
        go false e =
            let a = count_map (has_key k) (closing_of t) cs in
            let b = count_no (λ (c : Closing). has_key k (closing_of t c)) cs (λ c m. off (closing_of t c) refl e) in
            let c = ap bit (off (opening_of t n) refl e) in
            omega arith

    histories_new : count (has_key k) rs + count (has_key k) (closing_rows t cs) ≤ 1
    histories_new =
        by_cases (leb 1 (count (has_key k) rs))
        (λ e.
        let h = leb-true 1 (count (has_key k) rs) e in
        let a = count_map (has_key k) (closing_of t) cs in
        let b =
        count_no (λ (c : Closing). has_key k (closing_of t c)) cs
        (λ c m. not_so (has_key k (closing_of t c)) (λ q.
        let one = beside (closing_of t c) (no_lot_history r n (closing_of t c) refl refl) in
        let z = ap bit q in
        omega arith))
        in
        let w = was in
        omega arith)
        (λ e.
        let h = leb-false 1 (count (has_key k) rs) e in
        let one = histories_once in
        omega arith)

    opening_few : count (has_key k) (opening_rows t n.price n.left n.time)
        ≤ bit (has_key k (opening_of t n)) + bit (has_key k (lot_opened t n))
    unfolding count total
    opening_few = go (eqb n.left 0)
      where
        go : (b : Bool) → count (has_key k) (cond b [] (opening_of t n ∷ lot_opened t n ∷ []))
            ≤ bit (has_key k (opening_of t n)) + bit (has_key k (lot_opened t n))
        go true = omega arith
        go false = omega arith

    summary_few : (count (has_key k) (summary_rows t summary) ≤ bit (eqb k.kind kind_summary))
        × (count (has_key k) rs + count (has_key k) (summary_rows t summary) ≤ 1)
    unfolding count total key_of
    summary_few = go (is kind_free summary) refl
      where
        go : (b : Bool) → is kind_free summary ≡ b
            → (count (has_key k) (cond (not b) [] (summary_opened t summary ∷ [])) ≤ bit (eqb k.kind kind_summary))
            × (count (has_key k) rs + count (has_key k) (cond (not b) [] (summary_opened t summary ∷ [])) ≤ 1)
        go true e =
            let a = of_kind k (summary_opened t summary) kind_summary refl in
            let b = beside (summary_opened t summary) (no_summary r n s_own e) in
            (omega arith, omega arith)
        go false e = let w = was in (omega arith, omega arith)

    final_few : count (has_key k) (final_rows t n.amount n.time)
        ≤ bit (has_key k (history_of t n)) + bit (has_key k (settlement_of t n)) + bit (has_key k (cash_of t n))
    unfolding count total
    final_few = let c = count_cond (has_key k) (cash t.flags) (cash_of t n) in omega arith

    abbrev parts : ℕ
    parts =
        count (has_key k) (closing_rows t cs) + bit (has_key k (opening_of t n)) + bit (has_key k (lot_opened t n))
        + count (has_key k) (summary_rows t summary) + bit (has_key k (history_of t n))
        + bit (has_key k (settlement_of t n)) + bit (has_key k (cash_of t n))

    parts_few : parts ≤ 1
    parts_few =
        let k1 = histories_kind in
        let k2 = of_kind k (lot_opened t n) kind_lot refl in
        let k3 = summary_few.0 in
        let k4 = of_kind k (history_of t n) kind_trade_history refl in
        let k5 = of_kind k (settlement_of t n) kind_settlement refl in
        let k6 = of_kind k (cash_of t n) kind_cash refl in
        let one = one_kind k.kind in
        omega arith

    parts_new : count (has_key k) rs + parts ≤ 1
    unfolding key_of
    parts_new =
        let x = count (has_key k) rs in
        let c1 = count (has_key k) (closing_rows t cs) in
        let c2 = bit (has_key k (opening_of t n)) in
        let c3 = bit (has_key k (lot_opened t n)) in
        let c4 = count (has_key k) (summary_rows t summary) in
        let c5 = bit (has_key k (history_of t n)) in
        let c6 = bit (has_key k (settlement_of t n)) in
        let c7 = bit (has_key k (cash_of t n)) in
        step x (c1 + c2 + c3 + c4 + c5 + c6) c7 parts_few
        (λ h6. step x (c1 + c2 + c3 + c4 + c5) c6 h6
        (λ h5. step x (c1 + c2 + c3 + c4) c5 h5
        (λ h4. step x (c1 + c2 + c3) c4 h4
        (λ h3. step x (c1 + c2) c3 h3
        (λ h2. step x c1 c2 h2 (λ h1. histories_new)
        (beside (opening_of t n) (no_lot_history r n (opening_of t n) refl refl)))
        (beside (lot_opened t n) (no_lot r n)))
        summary_few.1)
        (beside (history_of t n) (no_history r n)))
        (beside (settlement_of t n) (no_settlement r n)))
        (beside (cash_of t n) (no_cash r n))
      where
        step : (x a b : ℕ) → a + b ≤ 1 → (a ≤ 1 → x + a ≤ 1) → x + b ≤ 1 → x + (a + b) ≤ 1
        step x a b h e f = let g = e (omega arith) in omega arith

    added_once : count (has_key k) rs + count (has_key k) (added t summary cs n) ≤ 1
    added_once =
        let h1 = closing_rows t cs in
        let h2 = opening_rows t n.price n.left n.time in
        let h3 = summary_rows t summary in
        let h4 = final_rows t n.amount n.time in
        let p = has_key k in
        let e1 = count_append p (h1 ++ h2 ++ h3) h4 in
        let e2 = count_append p (h1 ++ h2) h3 in
        let e3 = count_append p h1 h2 in
        let f2 = opening_few in
        let f4 = final_few in
        let new = parts_new in
        omega arith

  -- ---- S2
  module _ (space : length (added t summary cs n) ≤ count (same_row nothing) rs) where
    after_most : (x : Row) → is kind_free x ≡ false → count (has_key (key_of x)) (puts same_row (all r n) rs) ≤ 1
    unfolding key_of
    after_most x live =
        let hs = added t summary cs n in
        let ws = Result.writes t summary account broker cs n in
        let p = has_key (key_of x) in
        let p0 : Row × Row → Bool = λ w. p w.0 in
        let p1 : Row × Row → Bool = λ w. p w.1 in
        let law = puts_count same_row same_rows row_itself p (all r n) rs (all_inside r n space) in
        let o1 = count_map p (λ (w : Row × Row). w.0) (all r n) in
        let o2 = count_append p0 (adds hs) ws in
        let n1 = count_map p (λ (w : Row × Row). w.1) (all r n) in
        let n2 = count_append p1 (adds hs) ws in
        let n3 = count_map p1 (λ (h : Row). (nothing, h)) hs in
        let less = count_less p1 p0 ws (λ w m. (all_own r n w m).key x live) in
        let one = added_once (key_of x) (eqb-false x.kind kind_free live) in
        omega arith

    pub keys_left : S2 (puts same_row (all r n) rs)
    keys_left x m =
        by_cases (is kind_free x)
        (λ e. inl (eqb-true x.kind kind_free e))
        (λ e.
        let some = count_has (has_key (key_of x)) x (puts same_row (all r n) rs) m (own_key x) in
        let most = after_most x e in
        inr (omega arith))
