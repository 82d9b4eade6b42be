-- The trade of a result after it is done, and the other trades: each is found by its number as it was, and this one
-- completed. Assumes nothing.
use Rattle.std.specs.Prelude.{◌≡◌, refl, Bool, true, false, ℕ, ◌≤◌, eqb, length}
use Rattle.std.proofs.Common.{sym, ap, subst, ◌∙◌, arith, eq-eqb, eqb-true}
use mathlib.Core.List.Memᴰ
use mathlib.Core.List.{List, ◌++◌, Memᴰ}
use Rattle.std.proofs.lemmas.Bool.{eqb-false}
use Rattle.laws.specs.All.{All}
use Rattle.laws.specs.Search.{count}
use Rattle.laws.specs.Tests.{and_right}
use Rattle.laws.specs.Puts.{Quiet}
use Rattle.record.specs.Codes.{completed, kind_account, kind_broker, kind_free, kind_trade, kind_trade_history}
use Rattle.keys.specs.Key.{among}
use Rattle.record.specs.declared.row.Row.{Row}
use Rattle.model.specs.Flags.{cash}
use Rattle.model.specs.Lots.{Closing}
use Rattle.model.specs.Names.{a_summary, a_trade, by_id}
use Rattle.model.specs.Rows.{found, has_key, is, nothing, same_row}
use Rattle.model.specs.SoundMeans.{Each, S2}
use Rattle.model.specs.Result.{Sums, added, trade_write, account_changes, closing_rows, final_rows, lot_changes}
use Rattle.model.specs.Result.{opening_rows, summary_changes, summary_rows}
use Rattle.facts.specs.Found.{own_number}
use Rattle.facts.specs.Names.{by_id_holds, id_kinds}
use Rattle.facts.specs.Keys.{key_of_holds, kind_of_holds}
use Rattle.facts.specs.Result.{Read}
use Rattle.preserved.specs.Cases.{by_cases, no, not_among, not_so}
use Rattle.preserved.specs.ResultAfter.{added_comes, after, after_each, quiet_found, turned_comes}
use Rattle.preserved.specs.ResultBase.{all}
use Rattle.preserved.specs.ResultEach.{by_kind, cash_of, history_of, lot_kinds, settlement_of}
use Rattle.preserved.specs.ResultFresh.{found_one}
use Rattle.preserved.specs.ResultKeys.{keys_left}

-- ---- rows of a number
pub number_is : (k : ℕ) → among k id_kinds ≡ true → (i : ℕ) (x : Row) → has_key (by_id k i) x ≡ true → x.id ≡ i
number_is k known i x e =
    eqb-true x.id i (and_right (is k x) (eqb x.id i) (sym (by_id_holds k known i x) ∙ e))

other_number : (k : ℕ) → among k id_kinds ≡ true → (i : ℕ) (x : Row) → (x.id ≡ i → ⊥)
    → has_key (by_id k i) x ≡ false
other_number k known i x ne = not_so (has_key (by_id k i) x) (λ e. ne (number_is k known i x e))

module _ {rs : List Row} {t summary account broker : Row} {cs : List Closing}
    (r : Read rs t summary account broker cs) (n : Sums)
    (s_own : summary ≡ found (a_summary t.party t.symbol) rs)
    (space : length (added t summary cs n) ≤ count (same_row nothing) rs) where
  abbrev pub left : List Row
  left = after r n space

  pub unique : S2 left
  unique = keys_left r n s_own space

  -- ---- the rows that come are there
  comes : (h : Row) → Memᴰ h (final_rows t n.amount n.time) → Memᴰ h left
  comes h m =
      let h123 = closing_rows t cs ++ opening_rows t n.price n.left n.time ++ summary_rows t summary in
      added_comes r n space h (Memᴰ.append_right h123 m)

  pub history_comes : Memᴰ (history_of t n) left
  history_comes = comes (history_of t n) (Memᴰ.head refl)

  pub settlement_comes : Memᴰ (settlement_of t n) left
  settlement_comes = comes (settlement_of t n) (Memᴰ.tail (Memᴰ.head refl))

  pub cash_comes : cash t.flags ≡ true → Memᴰ (cash_of t n) left
  cash_comes e = comes (cash_of t n) (Memᴰ.tail (Memᴰ.tail (rw e (Memᴰ.head refl))))

  abbrev pub done : Row
  done = (trade_write t n).1

  trade_comes : Memᴰ done left
  trade_comes =
      let w1 = lot_changes t cs in
      let w2 = summary_changes t summary in
      let w3 = account_changes t account n.balance in
      turned_comes r n space (trade_write t n)
      (Memᴰ.append_left _ (Memᴰ.append_left _ (Memᴰ.append_right (w1 ++ w2 ++ w3) (Memᴰ.head refl))))

  -- ---- what a number finds
  pub trade_done : found (a_trade t.id) left ≡ done
  trade_done =
      found_one left unique (a_trade t.id) done (λ z. omega arith) trade_comes
      (own_number kind_trade refl t.id done (eq-eqb t.kind kind_trade r.t_kind) refl)

  -- rows of another number, of a kind that is written with the trade's number
  pub others : (k : ℕ) → among k id_kinds ≡ true → among k lot_kinds ≡ false → eqb kind_trade_history k ≡ false
      → eqb kind_account k ≡ false → eqb kind_broker k ≡ false → (i : ℕ) → (t.id ≡ i → ⊥)
      → All (Quiet (has_key (by_id k i))) (all r n)
  others k known a h c b i ne =
      by_kind r n (Quiet p) k p (key_of_holds (by_id k i)) a (λ w x y. (x, y)) (no h)
      (λ e. (free, other_number k known i (settlement_of t n) ne))
      (λ e z. (free, other_number k known i (cash_of t n) ne)) (no c)
      (λ e. (other_number k known i t ne, other_number k known i done ne)) (no b)
    where
      p : Row → Bool
      p = has_key (by_id k i)

      free : p nothing ≡ false
      free = key_of_holds (by_id k i) nothing (not_among lot_kinds k kind_free a refl)

  pub trade_other : (i : ℕ) → (t.id ≡ i → ⊥) → found (a_trade i) left ≡ found (a_trade i) rs
  trade_other i ne =
      quiet_found r n space (a_trade i) (others kind_trade refl refl refl refl refl i ne)

  -- what holds of the trade that is completed now, and of the others as they were
  pub each_trade : (P : Row → Type 0) → P done
      → ((x : Row) → Memᴰ x rs → x.kind ≡ kind_trade → (t.id ≡ x.id → ⊥) → P x) → Each kind_trade P left
  each_trade P mine other x m e = go (eqb t.id x.id) refl
    where
      was : (y : Row) → Memᴰ y left → y.kind ≡ kind_trade → (t.id ≡ y.id → ⊥) → Memᴰ y rs
      was =
          after_each r n space (λ (y : Row). y.kind ≡ kind_trade → (t.id ≡ y.id → ⊥) → Memᴰ y rs)
          (λ y k h ne. k)
          (by_kind r n (λ (w : Row × Row). w.1.kind ≡ kind_trade → (t.id ≡ w.1.id → ⊥) → Memᴰ w.1 rs)
          kind_trade (is kind_trade) (kind_of_holds kind_trade) refl
          (λ w a b h ne. absurd (eqb-false w.1.kind kind_trade b h)) (no refl) (no refl) (no refl) (no refl)
          (λ q h ne. absurd (ne refl))
          (no refl))

      go : (b : Bool) → eqb t.id x.id ≡ b → P x
      go true q =
          let i = eqb-true t.id x.id q in
          let own = own_number kind_trade refl t.id x (eq-eqb x.kind kind_trade e) (sym i) in
          let same : done ≡ x = sym trade_done ∙ found_one left unique (a_trade t.id) x (λ z. omega arith) m own in
          subst P same mine
      go false q = let ne = eqb-false t.id x.id q in other x (was x m e ne) e ne

  -- a trade that was completed is so
  pub done_stays : (i : ℕ) → (found (a_trade i) rs).status ≡ completed → (found (a_trade i) left).status ≡ completed
  done_stays i e =
      by_cases (eqb t.id i)
      (λ q.
      ap (λ (j : ℕ). (found (a_trade j) left).status) (sym (eqb-true t.id i q))
      ∙ ap (λ (x : Row). x.status) trade_done)
      (λ q. ap (λ (x : Row). x.status) (trade_other i (eqb-false t.id i q)) ∙ e)

  pub done_now : (found (a_trade t.id) left).status ≡ completed
  done_now = ap (λ (x : Row). x.status) trade_done
