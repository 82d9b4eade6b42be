-- S3 to S10 row by row: the rules of one row, and that a book is sound where every row keeps them. Assumes nothing.
use Rattle.std.specs.Prelude.{◌≡◌, refl, Bool, true, false, not, ◌&&◌, List, [], ◌∷◌}
use Rattle.std.proofs.Common.{sym, ◌∙◌}
use Rattle.laws.specs.Search.{every}
use Rattle.laws.specs.Tests.{and_true}
use Rattle.record.specs.Codes.{kind_band, kind_cash, kind_customer, kind_lot, kind_lot_history, kind_settlement, kind_summary}
use Rattle.record.specs.Codes.{kind_trade}
use Rattle.record.specs.declared.row.Row.{Row}
use Rattle.model.specs.Sound.{band_apart, cash_right, each, history_right, names_known, rates_fit, request_right, s1, s2}
use Rattle.model.specs.Sound.{s3, s4, s5, s6, s7, s9, s10, settled, settlement_right, sound, trades_done}
use Rattle.by_kind.specs.OneSide.{holding_kept, holdings_kept}
use Rattle.by_group.specs.Kept.{lot_kept, summary_kept}

-- S4 to S10 of a row, each for the rows of its kind; S8 as `OneSide` has it
unfoldable pub kind_right : List Row → Row → Bool
kind_right rs r =
    each kind_band (band_apart rs) r && each kind_customer (rates_fit rs) r && each kind_trade (request_right rs) r
    && each kind_trade (history_right rs) r && holding_kept rs r
    && (each kind_trade (settled rs) r && each kind_settlement (settlement_right rs) r && each kind_cash (cash_right rs) r)
    && each kind_lot_history (trades_done rs) r

unfoldable pub row_right : List Row → Row → Bool
row_right rs r = names_known rs r && kind_right rs r

-- what is left of the rules at a row of each kind
module _ (rs : List Row) (r : Row) where
  pub of_band : {x : Bool} → r.kind ≡ kind_band → x ≡ band_apart rs r → x ≡ kind_right rs r
  unfolding kind_right
  of_band e h = rw e (simp and_true h)

  pub of_customer : {x : Bool} → r.kind ≡ kind_customer → x ≡ rates_fit rs r → x ≡ kind_right rs r
  unfolding kind_right
  of_customer e h = rw e (simp and_true h)

  pub of_trade : {x y z : Bool} → r.kind ≡ kind_trade → x ≡ request_right rs r → y ≡ history_right rs r → z ≡ settled rs r
      → (x && y && z) ≡ kind_right rs r
  unfolding kind_right
  of_trade e h k l = rw e (simp and_true (rw (h, k, l)))

  pub of_lot_holds : {x : Bool} → r.kind ≡ kind_lot → x ≡ lot_kept rs r → x ≡ kind_right rs r
  unfolding kind_right
  of_lot_holds e h = rw e (simp and_true h)

  pub of_summary : {x : Bool} → r.kind ≡ kind_summary → x ≡ summary_kept rs r → x ≡ kind_right rs r
  unfolding kind_right
  of_summary e h = rw e (simp and_true h)

  pub of_settlement : {x : Bool} → r.kind ≡ kind_settlement → x ≡ settlement_right rs r → x ≡ kind_right rs r
  unfolding kind_right
  of_settlement e h = rw e (simp and_true h)

  pub of_cash : {x : Bool} → r.kind ≡ kind_cash → x ≡ cash_right rs r → x ≡ kind_right rs r
  unfolding kind_right
  of_cash e h = rw e (simp and_true h)

  pub of_lot_history : {x : Bool} → r.kind ≡ kind_lot_history → x ≡ trades_done rs r → x ≡ kind_right rs r
  unfolding kind_right
  of_lot_history e h = rw e h

shuffle : (a b c d : Bool) → (a && b && (c && d)) ≡ (a && c && (b && d))
shuffle true true c d = refl
shuffle true false true d = refl
shuffle true false false d = refl
shuffle false b c d = refl

every_and : {A : Type 0} (p q : A → Bool) (l : List A) → every (λ x. p x && q x) l ≡ (every p l && every q l)
unfolding every
every_and p q [] = refl
every_and p q (x ∷ l) = rw (every_and p q l) (shuffle (p x) (q x) (every p l) (every q l))

split : {A : Type 0} (p q : A → Bool) (l : List A) {a b : Bool} → every p l ≡ a → every q l ≡ b
    → every (λ x. p x && q x) l ≡ (a && b)
split p q l e f = every_and p q l ∙ rw (e, f)

-- what the rows keep, rule by rule
rows_right : (rs : List Row)
    → every (row_right rs) rs
    ≡ (s3 rs && (s4 rs && s5 rs && s6 rs && s7 rs && every (holding_kept rs) rs && s9 rs && s10 rs))
unfolding row_right kind_right s3 s4 s5 s6 s7 s9 s10
rows_right rs =
    let b = each kind_band (band_apart rs) in
    let c = each kind_customer (rates_fit rs) in
    let q = each kind_trade (request_right rs) in
    let h = each kind_trade (history_right rs) in
    let l = holding_kept rs in
    let p : Row → Bool =
    λ r. each kind_trade (settled rs) r && each kind_settlement (settlement_right rs) r && each kind_cash (cash_right rs) r
    in
    let bc : Row → Bool = λ r. b r && c r in
    let bcq : Row → Bool = λ r. bc r && q r in
    let bcqh : Row → Bool = λ r. bcq r && h r in
    let bcqhl : Row → Bool = λ r. bcqh r && l r in
    let bcqhlp : Row → Bool = λ r. bcqhl r && p r in
    split (names_known rs) (kind_right rs) rs refl
    (split bcqhlp (each kind_lot_history (trades_done rs)) rs (split bcqhl p rs (split bcqh l rs (split bcq h rs
    (split bc q rs (split b c rs refl refl) refl) refl) refl) refl) refl)

pub sound_by_row : (rs : List Row) → (s1 rs && s2 rs && every (row_right rs) rs) ≡ sound rs
unfolding sound
sound_by_row rs = go (s1 rs) (s2 rs) (s3 rs) refl refl refl
  where
    go : (a b c : Bool) → s1 rs ≡ a → s2 rs ≡ b → s3 rs ≡ c → (s1 rs && s2 rs && every (row_right rs) rs) ≡ sound rs
    go false b c e f g = rw e
    go true false c e f g = rw (e, f)
    go true true false e f g = rw (e, f, rows_right rs, g)
    go true true true e f g = rw (e, f, rows_right rs, holdings_kept rs e, g)

-- ---- the same as the code comes to it
kept : (x : Bool) → not x ≡ false → x ≡ true
kept true e = refl
kept false e = sym e

lost : (x : Bool) → not x ≡ true → x ≡ false
lost true e = sym e
lost false e = refl

pub rule_kept : {x t : Bool} → x ≡ t → not x ≡ false → t ≡ true
rule_kept {x} h e = sym h ∙ kept x e

pub rule_lost : {x t : Bool} → x ≡ t → not x ≡ true → t ≡ false
rule_lost {x} h e = sym h ∙ lost x e
