-- The rows that a result leaves: those of kinds that it does not write are as they were, and every key is there still
-- but those of lots and summaries. Assumes nothing.
use Rattle.std.specs.Prelude.{refl, ◌≡◌, Bool, true, false, ℕ, ◌≤◌, eqb, length}
use Rattle.std.proofs.Common.{sym, ap, ◌∙◌, arith, eq-eqb, eqb-true}
use mathlib.Core.List.Memᴰ
use mathlib.Core.List.{List, [], ◌∷◌, Memᴰ}
use Rattle.std.proofs.lemmas.Bool.{eqb-false}
use Rattle.laws.specs.All.{All}
use Rattle.laws.specs.Change.{puts}
use Rattle.laws.specs.Search.{count, the, total}
use Rattle.laws.specs.Puts.{Inside, More, Quiet, each_row, has_come, mem_map, no_fewer, no_more, puts_total}
use Rattle.laws.specs.Puts.{same_sums, the_puts}
use Rattle.record.specs.Codes.{kind_account, kind_broker, kind_cash, kind_free, kind_settlement, kind_trade}
use Rattle.record.specs.Codes.{kind_trade_history}
use Rattle.keys.specs.Key.{among, key_of, same_key}
use Rattle.keys.specs.declared.Key.{Key}
use Rattle.record.specs.declared.row.Row.{Row}
use Rattle.model.specs.Lots.{Closing}
use Rattle.model.specs.Rows.{found, has_key, is, nothing, same_row}
use Rattle.model.specs.Result.{Sums, added, broker_write, trade_write}
use Rattle.facts.specs.Rows.{row_itself, same_rows}
use Rattle.facts.specs.Keys.{OfKind, key_kind, key_of_holds, kind_of_holds}
use Rattle.facts.specs.Result.{Read, broker_key, holding_key, trade_key, writes}
use Rattle.facts.specs.Posted.{adds}
use Rattle.preserved.specs.Cases.{no, not_among}
use Rattle.preserved.specs.ResultBase.{all, all_inside}
use Rattle.preserved.specs.ResultEach.{by_kind, lot_kinds}

-- the other kinds that a result writes, and a kind that it does not
abbrev own_kinds : List ℕ
own_kinds = kind_trade_history ∷ kind_settlement ∷ kind_cash ∷ kind_account ∷ kind_trade ∷ kind_broker ∷ []

abbrev pub Still : ℕ → Type 0
Still k = (among k lot_kinds ≡ false) × (among k own_kinds ≡ false)

key_alike : (k : Key) (o x : Row) → key_of x ≡ key_of o → has_key k x ≡ has_key k o
unfolding has_key
key_alike k o x e = ap (λ (y : Key). same_key y k) e

module _ {rs : List Row} {t summary account broker : Row} {cs : List Closing}
    (r : Read rs t summary account broker cs) (n : Sums)
    (space : length (added t summary cs n) ≤ count (same_row nothing) rs) where
  abbrev pub after : List Row
  after = puts same_row (all r n) rs

  inside : Inside same_row (all r n) rs
  inside = all_inside r n space

  pub after_each : (P : Row → Type 0) → All P rs → All (λ (w : Row × Row). P w.1) (all r n) → All P after
  after_each = each_row same_row same_rows row_itself (all r n) rs inside

  after_comes : (w : Row × Row) → Memᴰ w (all r n) → Memᴰ w.1 after
  after_comes = has_come same_row same_rows row_itself (all r n) rs inside

  pub added_comes : (h : Row) → Memᴰ h (added t summary cs n) → Memᴰ h after
  added_comes h m =
      after_comes (nothing, h)
      (Memᴰ.append_left (writes t summary account broker cs n)
      (mem_map (λ (x : Row). (nothing, x)) h (added t summary cs n) m))

  pub turned_comes : (w : Row × Row) → Memᴰ w (writes t summary account broker cs n) → Memᴰ w.1 after
  turned_comes w m = after_comes w (Memᴰ.append_right (adds (added t summary cs n)) m)

  after_more : (p : Row → Bool) → All (More p) (all r n) → count p rs ≤ count p after
  after_more = no_fewer same_row same_rows row_itself (all r n) rs inside

  pub after_fewer : (p : Row → Bool) → All (λ (w : Row × Row). p w.1 ≡ true → p w.0 ≡ true) (all r n)
      → count p after ≤ count p rs
  after_fewer = no_more same_row same_rows row_itself (all r n) rs inside

  -- ---- a test that no row passes that is written
  module _ (p : Row → Bool) (quiet : All (Quiet p) (all r n)) where
    pub quiet_count : count p after ≡ count p rs
    quiet_count =
        let a = after_more p (λ w m e. no (quiet w m).0 e) in
        let b = after_fewer p (λ w m e. no (quiet w m).1 e) in
        omega arith

    quiet_the : (d : Row) → the p d after ≡ the p d rs
    quiet_the d = the_puts same_row same_rows p d (all r n) rs quiet

    quiet_was : (x : Row) → Memᴰ x after → p x ≡ true → Memᴰ x rs
    quiet_was =
        after_each (λ (x : Row). p x ≡ true → Memᴰ x rs) (λ x m e. m)
        (λ w m e. no (quiet w m).1 e)

  pub quiet_found : (k : Key) → All (Quiet (has_key k)) (all r n) → found k after ≡ found k rs
  unfolding found
  quiet_found k quiet = quiet_the (has_key k) quiet nothing

  -- ---- kinds that are not written
  module _ (k : ℕ) (s : Still k) where
    off : {X : Type 0} (j : ℕ) → among j own_kinds ≡ true → eqb j k ≡ true → X
    off j e h = absurd (not_among own_kinds k j s.1 e (eqb-true j k h))

    pub still : (p : Row → Bool) → OfKind k p → All (Quiet p) (all r n)
    still p only =
        by_kind r n (Quiet p) k p only s.0 (λ w a b. (a, b)) (off kind_trade_history refl) (off kind_settlement refl)
        (off kind_cash refl) (off kind_account refl) (off kind_trade refl) (off kind_broker refl)

    pub still_was : (x : Row) → Memᴰ x after → x.kind ≡ k → Memᴰ x rs
    still_was x m e = quiet_was (is k) (still (is k) (kind_of_holds k)) x m (eq-eqb x.kind k e)

    pub still_sum : (μ : Row → ℕ) → ((x : Row) → (x.kind ≡ k → ⊥) → μ x ≡ 0) → total μ after ≡ total μ rs
    still_sum μ none =
        let quiet = still (is k) (kind_of_holds k) in
        let law = puts_total same_row same_rows row_itself μ (all r n) rs inside in
        let same =
        same_sums μ (all r n)
        (λ w m.
        none w.0 (eqb-false w.0.kind k (quiet w m).0)
        ∙ sym (none w.1 (eqb-false w.1.kind k (quiet w m).1)))
        in
        omega arith

  pub still_found : (k : Key) → Still k.kind → found k after ≡ found k rs
  still_found k s = quiet_found k (still k.kind s (has_key k) (key_of_holds k))

  -- ---- every key is there still, but those of lots and summaries
  pub key_stays : (k : Key) → among k.kind lot_kinds ≡ false → count (has_key k) rs ≤ count (has_key k) after
  key_stays k a =
      after_more (has_key k)
      (by_kind r n (More (has_key k)) k.kind (has_key k) (key_of_holds k) a (λ w e f h. no e h)
      (λ e h. absurd (free h)) (λ e h. absurd (free h)) (λ e z h. absurd (free h))
      (λ e. alike account _ (holding_key account n.balance))
      (λ e. alike t (trade_write t n).1 (trade_key t n.price n.commission n.tax n.time r.t_kind))
      (λ e. alike broker (broker_write broker n).1 (broker_key broker n.commission r.b_kind)))
    where
      free : has_key k nothing ≡ true → ⊥
      free h = not_among lot_kinds k.kind kind_free a refl (key_kind k nothing h)

      alike : (o x : Row) → key_of x ≡ key_of o → has_key k o ≡ true → has_key k x ≡ true
      alike o x e h = key_alike k o x e ∙ h
