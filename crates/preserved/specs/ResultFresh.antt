-- No row of a sound book has the key of one that a result adds, and no two of those have one key. Assumes nothing.
use Rattle.std.proofs.Math.Path.{◌≡◌, sym, ap}
use Rattle.std.specs.Prelude.{refl, true, ℕ, ◌≤◌, eqb, leb, ltb}
use Rattle.std.proofs.Common.{◌∙◌, arith}
use mathlib.Core.List.{List, Memᴰ}
use Rattle.std.proofs.Math.Logic.{⊎_elim}
use borrow.Author.Tests.{eqb-true, leb-false}
use Rattle.laws.specs.Keep.{the_has}
use Rattle.laws.specs.Place.{the_passes}
use Rattle.laws.specs.Search.{bit, count, the}
use Rattle.laws.specs.Tests.{and_both, and_left, and_right}
use Rattle.laws.specs.Puts.{count_less, count_no, the_one}
use Rattle.record.specs.Codes.{completed, kind_cash, kind_free, kind_lot_history, kind_summary, kind_trade_history}
use Rattle.record.specs.Codes.{submitted}
use Rattle.keys.specs.Key.{key_of}
use Rattle.keys.specs.KeyLaws.{keys_tell, same_keys}
use Rattle.keys.specs.declared.Key.{Key}
use Rattle.record.specs.declared.row.Row.{Row}
use Rattle.model.specs.Lots.{Closing}
use Rattle.model.specs.Names.{a_cash, a_history, a_settlement, a_summary, a_trade}
use Rattle.model.specs.Rows.{found, has_key, is, nothing, there}
use Rattle.model.specs.Sound.{higher}
use Rattle.model.specs.SoundMeans.{S2, SoundBook, means_sound}
use Rattle.model.specs.Result.{Sums}
use Rattle.facts.specs.Found.{found_none, found_kind}
use Rattle.facts.specs.Names.{by_id_holds, by_status_holds, of_id}
use Rattle.facts.specs.Keys.{key_kind}
use Rattle.facts.specs.Result.{Read}
use Rattle.preserved.specs.Cases.{by_cases, not_so}
use Rattle.preserved.specs.ResultEach.{lot_opened}

-- ---- keys of a book where none is there twice
module _ (rs : List Row) (s2 : S2 rs) where
  pub one_key : (k : Key) → (k.kind ≡ kind_free → ⊥) → count (has_key k) rs ≤ 1
  unfolding has_key
  one_key k live =
      by_cases (leb 1 (count (has_key k) rs))
      (λ e.
      let o = the (has_key k) nothing rs in
      let has = the_passes (has_key k) nothing rs e in
      let own : key_of o ≡ k = same_keys (key_of o) k has in
      ⊎_elim (λ f. absurd (live (sym (key_kind k o has) ∙ f)))
      (λ c. let z : count (has_key k) rs ≡ 1 = rw own at c in omega arith)
      (s2 o (the_has (has_key k) nothing rs e)))
      (λ e. let h = leb-false 1 (count (has_key k) rs) e in omega arith)

  -- a key finds the row that has it
  pub found_one : (k : Key) (x : Row) → (k.kind ≡ kind_free → ⊥) → Memᴰ x rs → has_key k x ≡ true
      → found k rs ≡ x
  unfolding found
  found_one k x live m e = the_one (has_key k) nothing x rs (one_key k live) m e

-- a key that no row has
pub none_found : (k : Key) (rs : List Row) → count (has_key k) rs ≡ 0 → found k rs ≡ nothing
unfolding there
none_found k rs e = found_none k rs (ap (leb 1) e)

-- a trade without a history of a higher status has none of this one
pub not_yet : (l : List Row) (t : Row) (s : ℕ) → ltb t.status s ≡ true → count (higher t) l ≡ 0
    → count (has_key (a_history t.id s)) l ≡ 0
not_yet l t s above none =
    let less =
    count_less (has_key (a_history t.id s)) (higher t) l
    (λ x m e.
    let own = sym (by_status_holds t.id s x) ∙ e in
    let i = and_left (of_id kind_trade_history t.id x) (eqb x.status s) own in
    let c = eqb-true x.status s (and_right (of_id kind_trade_history t.id x) (eqb x.status s) own) in
    and_both (of_id kind_trade_history t.id x) (ltb t.status x.status) i (ap (ltb t.status) c ∙ above))
    in
    omega arith

module _ {rs : List Row} {t summary account broker : Row} {cs : List Closing}
    (r : Read rs t summary account broker cs) (n : Sums) where
  abbrev pub book : SoundBook rs
  book = (means_sound rs).shows r.good

  -- the trade is not completed
  pub not_done : (i : ℕ) → t.id ≡ i → (found (a_trade i) rs).status ≡ completed → ⊥
  not_done i e d =
      let mine : t.status ≡ (found (a_trade i) rs).status =
      ap (λ (o : Row). o.status) (sym r.t_own) ∙ ap (λ (j : ℕ). (found (a_trade j) rs).status) e
      in
      let z : ◌≡◌ {A = ℕ} submitted completed = sym r.t_status ∙ mine ∙ d in
      omega arith

  -- ---- the keys of the rows that are added are new
  pub no_settlement : count (has_key (a_settlement t.id)) rs ≡ 0
  no_settlement =
      (book.s9 t r.t_held).0.0 r.t_kind ∙ ap (λ (s : ℕ). bit (eqb s completed)) r.t_status

  pub no_cash : count (has_key (a_cash t.id)) rs ≡ 0
  no_cash =
      count_no (has_key (a_cash t.id)) rs
      (λ x m. not_so (has_key (a_cash t.id) x) (λ e.
      let own = sym (by_id_holds kind_cash refl t.id x) ∙ e in
      let k = eqb-true x.kind kind_cash (and_left (is kind_cash x) (eqb x.id t.id) own) in
      let i = eqb-true x.id t.id (and_right (is kind_cash x) (eqb x.id t.id) own) in
      let paid : (found (a_settlement x.id) rs).flags ≡ 1 = ((book.s9 x m).1 k).0 in
      let none : (found (a_settlement x.id) rs).flags ≡ 0 =
      ap (λ (j : ℕ). (found (a_settlement j) rs).flags) i
      ∙ ap (λ (o : Row). o.flags) (none_found (a_settlement t.id) rs no_settlement)
      in
      let z : ◌≡◌ {A = ℕ} 1 0 = sym paid ∙ none in
      omega arith))

  pub no_history : count (has_key (a_history t.id completed)) rs ≡ 0
  no_history =
      not_yet rs t completed (ap (λ (a : ℕ). ltb a completed) r.t_status) (book.s7 t r.t_held r.t_kind).1

  -- a lot history that this trade makes
  pub no_lot_history : (h : Row) → h.kind ≡ kind_lot_history → h.m2 ≡ t.id → count (has_key (key_of h)) rs ≡ 0
  unfolding has_key
  no_lot_history h k i =
      count_no (has_key (key_of h)) rs
      (λ x m. not_so (has_key (key_of h) x) (λ e.
      let same = keys_tell x h (same_keys (key_of x) (key_of h) e) in
      let kx : x.kind ≡ kind_lot_history = same.kind ∙ k in
      let ix : x.m2 ≡ h.m2 = same.m2 (rw kx) in
      not_done x.m2 (sym i ∙ sym ix) (book.s10 x m kx).1))

  pub no_lot : count (has_key (key_of (lot_opened t n))) rs ≡ 0
  unfolding has_key
  no_lot =
      count_no (has_key (key_of (lot_opened t n))) rs
      (λ x m. not_so (has_key (key_of (lot_opened t n)) x) (λ e.
      let same = keys_tell (lot_opened t n) x (sym (same_keys (key_of x) (key_of (lot_opened t n)) e)) in
      not_done x.id (same.id refl) ((book.s8 x m).0 (sym same.kind)).0.0.0.0))

  module _ (s_own : summary ≡ found (a_summary t.party t.symbol) rs) where
    pub no_summary : is kind_free summary ≡ true → count (has_key (a_summary t.party t.symbol)) rs ≡ 0
    unfolding there
    no_summary free =
        let s = a_summary t.party t.symbol in
        by_cases (leb 1 (count (has_key s) rs))
        (λ e.
        let k : summary.kind ≡ kind_summary = ap (λ (o : Row). o.kind) s_own ∙ found_kind rs s e in
        let z : ◌≡◌ {A = ℕ} kind_free kind_summary = sym (eqb-true summary.kind kind_free free) ∙ k in
        absurd (omega arith))
        (λ e. let h = leb-false 1 (count (has_key s) rs) e in omega arith)
