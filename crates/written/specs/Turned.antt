-- Rows that give way to others at their places, or go, one after the other, while the directory stays right: no two are
-- at the same place, so that each is still as it was when its turn comes. Assumes nothing.
use Rattle.std.specs.Prelude.{◌≡◌, Bool, true, false, ℕ, ◌-◌, ◌≤◌, eqb, get_or, set}
use Rattle.std.proofs.Math.Path.{refl}
use Rattle.std.proofs.Common.{sym, ap, ◌∙◌, arith, get_or-set_other, eq-eqb}
use mathlib.Core.List.Memᴰ
use mathlib.Core.List.{List, [], ◌∷◌, ◌++◌, Memᴰ}
use Rattle.laws.specs.All.{All}
use Rattle.laws.specs.Change.{sets, sets_append}
use Rattle.laws.specs.Keep.{count_append, count_has}
use Rattle.laws.specs.Search.{count}
use Rattle.record.specs.Codes.{kind_free, kind_trade}
use Rattle.record.specs.declared.row.Row.{Row}
use Rattle.model.specs.Order.{trade_id}
use Rattle.model.specs.Rows.{is, nothing, rows}
use Rattle.places.specs.Rows.{put_at, row_at}
use Rattle.chains.specs.Group.{group_of}
use Rattle.directory.specs.Directory.{Directory}
use Rattle.directory.specs.declared.totals.Totals.{Totals}
use Rattle.upkeep.specs.Added.{Added, added_keeps}

-- the row at a place stays in its group, or goes and is no trade
pub record Turn (rs : List Row) (w : ℕ × Row) : Type 0 where
  pub live : is kind_free (get_or rs w.0 nothing) ≡ false
  pub stays : is kind_free w.1 ≡ false → group_of w.1 ≡ group_of (get_or rs w.0 nothing)
  pub goes : is kind_free w.1 ≡ true → is kind_trade (get_or rs w.0 nothing) ≡ false

-- each may, and no two are at the same place
pub record Ready (ws : List (ℕ × Row)) (b d : List ℕ) (t : Totals) : Type 0 where
  pub directory : Directory b d t
  pub turns : All (Turn (rows b)) ws
  pub apart : (p : ℕ) → count (λ (w : ℕ × Row). eqb p w.0) ws ≤ 1

-- each has
pub record Turned (ws : List (ℕ × Row)) (b b' d' : List ℕ) (t' : Totals) : Type 0 where
  pub directory : Directory b' d' t'
  pub written : rows b' ≡ sets ws (rows b)

-- ---- a place that is not written
sets_keep : (ws : List (ℕ × Row)) (l : List Row) (p : ℕ) → All (λ (w : ℕ × Row). p ≡ w.0 → ⊥) ws
    → get_or (sets ws l) p nothing ≡ get_or l p nothing
unfolding sets
sets_keep [] l p h = refl
sets_keep (w ∷ ws) l p h =
    sets_keep ws (set l w.0 w.1) p (λ v m. h v (Memᴰ.tail m))
    ∙ get_or-set_other l w.0 p w.1 nothing (h w (Memᴰ.head refl))

module _ (us vs : List (ℕ × Row)) (apart : (p : ℕ) → count (λ (w : ℕ × Row). eqb p w.0) (us ++ vs) ≤ 1) where
  other_place : (v : ℕ × Row) → Memᴰ v vs → All (λ (u : ℕ × Row). v.0 ≡ u.0 → ⊥) us
  other_place v m u n e =
      let test : ℕ × Row → Bool = λ w. eqb v.0 w.0 in
      let a = count_has test v vs m (eq-eqb v.0 v.0 refl) in
      let b = count_has test u us n (eq-eqb v.0 u.0 e) in
      let c = count_append test us vs in
      let k = apart v.0 in
      omega arith

turn_again : (rs rs' : List Row) (w : ℕ × Row) → get_or rs' w.0 nothing ≡ get_or rs w.0 nothing → Turn rs w
    → Turn rs' w
turn_again rs rs' w e s = record {
  live = ap (is kind_free) e ∙ s.live;
  stays = λ h. s.stays h ∙ sym (ap group_of e);
  goes = λ h. ap (is kind_trade) e ∙ s.goes h;
}

module _ {b d : List ℕ} {t : Totals} where
  pub ready_first : (us vs : List (ℕ × Row)) → Ready (us ++ vs) b d t → Ready us b d t
  ready_first us vs s = record {
    directory = s.directory;
    turns = λ w m. s.turns w (Memᴰ.append_left vs m);
    apart = λ p.
        let k = s.apart p in
        let c = count_append (λ (w : ℕ × Row). eqb p w.0) us vs in
        omega arith;
  }

  pub ready_next : (us vs : List (ℕ × Row)) {b' d' : List ℕ} {t' : Totals} → Ready (us ++ vs) b d t
      → Turned us b b' d' t' → Ready vs b' d' t'
  ready_next us vs {b'} s a = record {
    directory = a.directory;
    turns = λ w m.
        turn_again (rows b) (rows b') w
        (ap (λ (l : List Row). get_or l w.0 nothing) a.written
        ∙ sets_keep us (rows b) w.0 (other_place us vs s.apart w m))
        (s.turns w (Memᴰ.append_right us m));
    apart = λ p.
        let k = s.apart p in
        let c = count_append (λ (w : ℕ × Row). eqb p w.0) us vs in
        omega arith;
  }

  pub ready_added : {hs : List Row} {ws : List (ℕ × Row)} {b' d' : List ℕ} {t' : Totals} → Ready ws b d t
      → Added hs b t b' d' t' → Ready ws b' d' t'
  ready_added {b' = b'} s a = record {
    directory = a.directory;
    turns = λ w m.
        let h = s.turns w m in
        turn_again (rows b) (rows b') w (added_keeps a w.0 h.live) h;
    apart = s.apart;
  }

  pub turned_none : Ready [] b d t → Turned [] b b d t
  unfolding sets
  turned_none s = record { directory = s.directory; written = refl }

  -- what the directory asks of one
  module _ {p : ℕ} {n : Row} {vs : List (ℕ × Row)} (s : Ready ((p, n) ∷ vs) b d t) where
    pub may_stay : is kind_free n ≡ false → group_of n ≡ group_of (row_at b p)
    may_stay e = (s.turns (p, n) (Memᴰ.head refl)).stays e

    pub may_go : n ≡ nothing → (is kind_free (row_at b p) ≡ false) × (trade_id (row_at b p) ≤ t.largest.0 - 1)
    may_go e =
        let h = s.turns (p, n) (Memᴰ.head refl) in
        let k : is kind_trade (row_at b p) ≡ false = h.goes (ap (is kind_free) e) in
        (h.live, rw k (omega arith))

pub turned_one : {b : List ℕ} {p : ℕ} {n r : Row} {b' d' : List ℕ} {t' : Totals} → r ≡ n
    → (b' ≡ put_at b p r) × (rows b' ≡ set (rows b) p r) → Directory b' d' t'
    → Turned ((p, n) ∷ []) b b' d' t'
unfolding sets
turned_one e q s = record { directory = s; written = q.1 ∙ rw e }

pub turned_then : (us vs : List (ℕ × Row)) {b b₁ d₁ b₂ d₂ : List ℕ} {t₁ t₂ : Totals} → Turned us b b₁ d₁ t₁
    → Turned vs b₁ b₂ d₂ t₂ → Turned (us ++ vs) b b₂ d₂ t₂
turned_then us vs {b = b} s a = record {
  directory = a.directory;
  written = a.written ∙ ap (sets vs) s.written ∙ sym (sets_append us vs (rows b));
}
