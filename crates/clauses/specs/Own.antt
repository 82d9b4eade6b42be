-- The own rule of a row by its kind: all that S3 to S10 ask of it, but for the rows that hang on a trade.
-- Assumes nothing.
use Rattle.std.specs.Prelude.{◌≡◌, Bool, true, ◌&&◌, List, [], ◌∷◌, ℕ, zero, suc, get_or}
use Rattle.std.proofs.Math.Path.{refl, sym}
use Rattle.std.proofs.Common.{ap, ◌∙◌}
use Rattle.record.specs.declared.row.Row.{Row}
use Rattle.record.specs.Codes.{kind_account, kind_band, kind_customer, kind_customer_rate, kind_lot_history, kind_summary}
use Rattle.record.specs.Codes.{kind_permission, kind_trade}
use Rattle.model.specs.Rows.{there}
use Rattle.model.specs.Sound.{band_apart, names_known, rates_fit, trades_done}
use Rattle.model.specs.Names.{a_broker, a_customer, a_tax_rate, an_account, named}
use Rattle.by_group.specs.Kept.{summary_kept}
use Rattle.by_group.specs.Rules.{names_one, names_two}

-- the rules of the other rows, and of a trade beside what hangs on it, by the kind's number
abbrev pub no_rule : List Row → Row → Bool
no_rule rs r = true

abbrev summary_well : List Row → Row → Bool
summary_well rs r = names_known rs r && summary_kept rs r

abbrev pub own_rules : List (List Row → Row → Bool)
own_rules =
    no_rule
    ∷ no_rule
    ∷ rates_fit
    ∷ no_rule
    ∷ names_known
    ∷ names_known
    ∷ no_rule
    ∷ band_apart
    ∷ no_rule
    ∷ names_known
    ∷ no_rule
    ∷ no_rule
    ∷ no_rule
    ∷ summary_well
    ∷ trades_done
    ∷ no_rule
    ∷ no_rule
    ∷ names_known
    ∷ []

unfoldable pub own_well : List Row → Row → Bool
own_well rs r = get_or own_rules r.kind no_rule rs r

pub own_rule : (k : ℕ) (rs : List Row) (r : Row) → r.kind ≡ k → own_well rs r ≡ get_or own_rules k no_rule rs r
unfolding own_well
own_rule k rs r e = ap (λ (x : ℕ). get_or own_rules x no_rule rs r) e

-- a row of any other kind has no rule of its own
pub own_none : (rs : List Row) (r : Row) → (r.kind ≡ kind_customer → ⊥) → (r.kind ≡ kind_customer_rate → ⊥)
    → (r.kind ≡ kind_account → ⊥) → (r.kind ≡ kind_band → ⊥) → (r.kind ≡ kind_lot_history → ⊥)
    → (r.kind ≡ kind_permission → ⊥) → (r.kind ≡ kind_trade → ⊥) → (r.kind ≡ kind_summary → ⊥)
    → true ≡ own_well rs r
unfolding own_well
own_none rs r customer rate account band done permission trade summary = go r.kind refl
  where
    -- by the number of the kind
    go : (k : ℕ) → r.kind ≡ k → true ≡ get_or own_rules k no_rule rs r
    go zero e = refl
    go (suc zero) e = refl
    go (suc (suc zero)) e = absurd (customer e)
    go (suc (suc (suc zero))) e = refl
    go (suc (suc (suc (suc zero)))) e = absurd (rate e)
    go (suc (suc (suc (suc (suc zero))))) e = absurd (account e)
    go (suc (suc (suc (suc (suc (suc zero)))))) e = refl
    go (suc (suc (suc (suc (suc (suc (suc zero))))))) e = absurd (band e)
    go (suc (suc (suc (suc (suc (suc (suc (suc zero)))))))) e = refl
    go (suc (suc (suc (suc (suc (suc (suc (suc (suc zero))))))))) e = absurd (trade e)
    go (suc (suc (suc (suc (suc (suc (suc (suc (suc (suc zero)))))))))) e = refl
    go (suc (suc (suc (suc (suc (suc (suc (suc (suc (suc (suc zero))))))))))) e = refl
    go (suc (suc (suc (suc (suc (suc (suc (suc (suc (suc (suc (suc zero)))))))))))) e = refl
    go (suc (suc (suc (suc (suc (suc (suc (suc (suc (suc (suc (suc (suc zero))))))))))))) e = absurd (summary e)
    go (suc (suc (suc (suc (suc (suc (suc (suc (suc (suc (suc (suc (suc (suc zero)))))))))))))) e = absurd (done e)
    go (suc (suc (suc (suc (suc (suc (suc (suc (suc (suc (suc (suc (suc (suc (suc zero))))))))))))))) e = refl
    go (suc (suc (suc (suc (suc (suc (suc (suc (suc (suc (suc (suc (suc (suc (suc (suc zero)))))))))))))))) e = refl
    go (suc (suc (suc (suc (suc (suc (suc (suc (suc (suc (suc (suc (suc (suc (suc (suc (suc zero))))))))))))))))) e =
        absurd (permission e)
    go (suc (suc (suc (suc (suc (suc (suc (suc (suc (suc (suc (suc (suc (suc (suc (suc (suc (suc k)))))))))))))))))) e =
        refl

module _ (rs : List Row) (r : Row) {x : Bool} where
  pub rate_told : r.kind ≡ kind_customer_rate → x ≡ (there (a_customer r.party) rs && there (a_tax_rate r.n1) rs)
      → x ≡ own_well rs r
  unfolding named
  rate_told e h =
      h ∙ names_two rs r (a_customer r.party) (a_tax_rate r.n1) (rw e) refl refl
      ∙ sym (own_rule kind_customer_rate rs r e)

  pub account_told : r.kind ≡ kind_account → x ≡ (there (a_broker r.n1) rs && there (a_customer r.n2) rs)
      → x ≡ own_well rs r
  unfolding named
  account_told e h =
      h ∙ names_two rs r (a_broker r.n1) (a_customer r.n2) (rw e) refl refl ∙ sym (own_rule kind_account rs r e)

  pub permission_told : r.kind ≡ kind_permission → x ≡ there (an_account r.party) rs → x ≡ own_well rs r
  unfolding named
  permission_told e h =
      names_one rs r (an_account r.party) (rw e) h ∙ sym (own_rule kind_permission rs r e)
