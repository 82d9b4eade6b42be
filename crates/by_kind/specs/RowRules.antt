-- S3 to S10 of a row, by its kind: what the row names, and what is left of the rules; and where one of these tells that
-- what the row names is there. Assumes nothing.
use Rattle.std.specs.Prelude.{◌≡◌, Bool, ◌&&◌, List}
use Rattle.std.proofs.Math.Path.{refl, sym}
use Rattle.std.proofs.Common.{◌∙◌}
use Rattle.std.proofs.Math.Bool.{true}
use Rattle.std.proofs.Math.Dec.{eqb}
use Rattle.laws.specs.Tests.{and_both, and_left, and_right, and_true, one_truth}
use Rattle.record.specs.Codes.{completed, kind_lot_history}
use Rattle.record.specs.declared.row.Row.{Row}
use Rattle.model.specs.Names.{a_trade, named}
use Rattle.model.specs.Rows.{found, there}
use Rattle.model.specs.Sound.{names_known, trades_done}
use Rattle.by_kind.specs.ByRow.{kind_right, of_lot_history, row_right}
use Rattle.by_kind.specs.Once.{done_there}
use Rattle.by_group.specs.Rules.{names_two}

-- a test that a later one implies
implied : (t z : Bool) → (z ≡ true → t ≡ true) → z ≡ (t && z)
implied t z i = one_truth z (t && z) (λ e. and_both t z (i e) e) (and_right t z)

module _ (rs : List Row) (r : Row) where
  pub row_both : {x y : Bool} → x ≡ names_known rs r → y ≡ kind_right rs r → (x && y) ≡ row_right rs r
  unfolding row_right
  row_both h k = rw (h, k)

  pub row_names : {x : Bool} → x ≡ names_known rs r → true ≡ kind_right rs r → x ≡ row_right rs r
  unfolding row_right
  row_names h k = h ∙ rw (← k) (sym (and_true (names_known rs r)))

  pub row_kind : {y : Bool} → true ≡ names_known rs r → y ≡ kind_right rs r → y ≡ row_right rs r
  unfolding row_right
  row_kind h k = k ∙ rw (← h)

  pub lot_history_row_holds : {z : Bool} → r.kind ≡ kind_lot_history → z ≡ trades_done rs r → z ≡ row_right rs r
  unfolding row_right named
  lot_history_row_holds {z} e l =
      let s = eqb (found (a_trade r.id) rs).status completed in
      let q = eqb (found (a_trade r.m2) rs).status completed in
      let n : (there (a_trade r.id) rs && there (a_trade r.m2) rs) ≡ names_known rs r =
      names_two rs r (a_trade r.id) (a_trade r.m2) (rw e) refl refl
      in
      let i : z ≡ true → names_known rs r ≡ true =
      λ u. sym n ∙ and_both (there (a_trade r.id) rs) (there (a_trade r.m2) rs)
      (done_there (a_trade r.id) rs (and_left s q (sym l ∙ u)))
      (done_there (a_trade r.m2) rs (and_right s q (sym l ∙ u)))
      in
      implied (names_known rs r) z i ∙ rw (of_lot_history rs r e l)
