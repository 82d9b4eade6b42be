-- An order that is taken leaves S8, S9 and S10: all that was there finds the trades that it found, and the trade that
-- comes is not settled. Assumes nothing.
use Rattle.std.specs.Prelude.{◌≡◌, refl, Bool, true, false, cond, List, ℕ, eqb, leb, pos}
use Rattle.std.proofs.Common.{sym, ap, ◌∙◌, arith, ne_eqb}
use Rattle.laws.specs.All.{All}
use Rattle.laws.specs.Search.{bit, count}
use Rattle.record.specs.Codes.{completed, kind_cash, kind_lot, kind_lot_history, kind_settlement, kind_summary, kind_trade}
use Rattle.record.specs.Codes.{pending, submitted, tms}
use Rattle.record.specs.declared.row.Row.{Row}
use Rattle.model.specs.Flags.{cash}
use Rattle.model.specs.Names.{a_cash, a_settlement, a_summary, a_trade}
use Rattle.model.specs.Rows.{found, has_key, nothing}
use Rattle.model.specs.Sound.{lot_of, other_sign, shares_of}
use Rattle.model.specs.SoundMeans.{LotRight, S10, S8, S9, SummaryRight}
use Rattle.facts.specs.Keys.{key_of_holds}
use Rattle.preserved.specs.OrderAdds.{grown_each, grown_sum, still_the}
use Rattle.preserved.specs.OrderFresh.{Taken, added, book, each_added, none_numbered}
use Rattle.preserved.specs.OrderNames.{left, of_off, off_count, off_found, off_key, stays}
use Rattle.preserved.specs.ResultFresh.{none_found}
use Rattle.preserved.specs.OrderTrades.{other, others}

not_done : (t : Bool) → eqb (cond t submitted pending) completed ≡ false
not_done true = refl
not_done false = refl

module _ {rs : List Row} {input : Row} {broker number price charge commission : ℕ}
    (o : Taken rs input broker number price charge commission) where
  -- ---- what a number finds
  trade_same : (i : ℕ) → (i ≡ number → ⊥) → found (a_trade i) (left o) ≡ found (a_trade i) rs
  unfolding found
  trade_same i ne =
      still_the rs (added o) o.space (has_key (a_trade i)) (off_key (a_trade i) nothing refl) (others o (a_trade i) ne)
      nothing

  -- a trade that is completed is none of this number
  done_same : (i : ℕ) → (found (a_trade i) rs).status ≡ completed → found (a_trade i) (left o) ≡ found (a_trade i) rs
  done_same i e =
      trade_same i
      (λ q.
      let z : (found (a_trade i) rs).status ≡ 0 =
      ap (λ (j : ℕ). (found (a_trade j) rs).status) q
      ∙ ap (λ (x : Row). x.status) (none_found (a_trade number) rs (none_numbered o (a_trade number) refl refl))
      in
      let c : ◌≡◌ {A = ℕ} 0 completed = sym z ∙ e in
      omega arith)

  -- ---- S8
  pub lots_left : S8 (left o)
  lots_left x m = (lots, sums)
    where
      lots : x.kind ≡ kind_lot → LotRight (left o) x
      lots k =
          let here = of_off o kind_lot refl x m k in
          let was = ((book o).s8 x here).0 k in
          let t = done_same x.id was.0.0.0.0 in (
            (
              (
                (
                  ap (λ (r : Row). r.status) t ∙ was.0.0.0.0,
                  ap (λ (r : Row). r.party) t ∙ was.0.0.0.1,
                ),
                ap (λ (r : Row). r.symbol) t ∙ was.0.0.1,
              ),
              off_count o kind_lot refl (other_sign x)
                  (λ y n. rw (ne_eqb y.kind kind_lot n))
                  ∙ was.0.1,
            ),
            stays o (a_summary x.party x.symbol) refl was.1,
          )

      sums : x.kind ≡ kind_summary → SummaryRight (left o) x
      sums k =
          let here = of_off o kind_summary refl x m k in
          let was = ((book o).s8 x here).1 k in
          let p = lot_of x.party x.symbol in
          let same =
          off_count o kind_lot refl p (λ y n. rw (ne_eqb y.kind kind_lot n))
          in
          let f = shares_of x.party x.symbol in (
            omega (arith, same, was.0),
            grown_sum f (added o) rs refl (each_added o (λ h. f h ≡ pos 0) refl refl (λ e. refl)) ∙ was.1,
          )

  -- ---- S9
  abbrev Settled : Row → Type 0
  Settled t = t.kind ≡ kind_trade → count (has_key (a_settlement t.id)) (left o) ≡ bit (eqb t.status completed)

  settled : (i : ℕ) → count (has_key (a_settlement i)) (left o) ≡ count (has_key (a_settlement i)) rs
  settled i =
      off_count o kind_settlement refl (has_key (a_settlement i)) (key_of_holds (a_settlement i))

  trades_settled : All Settled (left o)
  trades_settled =
      grown_each rs (added o) o.space Settled (λ t m k. settled t.id ∙ ((book o).s9 t m).0.0 k)
      (each_added o Settled
      (λ k. settled number ∙ none_numbered o (a_settlement number) refl refl
      ∙ ap bit (sym (not_done (leb input.form tms))))
      (λ k. absurd (omega arith)) (λ e k. absurd (omega arith)))

  pub settlements_left : S9 (left o)
  settlements_left x m = ((trades_settled x m, of_settlement), of_cash)
    where
      of_settlement : x.kind ≡ kind_settlement
          → (x.flags ≡ bit (cash (found (a_trade x.id) (left o)).flags))
          × (count (has_key (a_cash x.id)) (left o) ≡ x.flags)
      of_settlement k =
          let here = of_off o kind_settlement refl x m k in
          let was = ((book o).s9 x here).0.1 k in
          let t = trade_same x.id (other o x here (rw k)) in (
            was.0 ∙ ap (λ (r : Row). bit (cash r.flags)) (sym t),
            off_count o kind_cash refl (has_key (a_cash x.id)) (key_of_holds (a_cash x.id))
                ∙ was.1,
          )

      of_cash : x.kind ≡ kind_cash
          → ((found (a_settlement x.id) (left o)).flags ≡ 1) × ((found (a_settlement x.id) (left o)).m1 ≡ x.m1)
      of_cash k =
          let here = of_off o kind_cash refl x m k in
          let was = ((book o).s9 x here).1 k in
          let s = off_found o (a_settlement x.id) refl in
          (ap (λ (r : Row). r.flags) s ∙ was.0, ap (λ (r : Row). r.m1) s ∙ was.1)

  -- ---- S10
  pub done_left : S10 (left o)
  done_left x m k =
      let was = (book o).s10 x (of_off o kind_lot_history refl x m k) k in (
        ap (λ (r : Row). r.status) (done_same x.id was.0) ∙ was.0,
        ap (λ (r : Row). r.status) (done_same x.m2 was.1) ∙ was.1,
      )
