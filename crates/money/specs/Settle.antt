-- The settlement in signed numbers is the one of the rules, where no part of it is below zero; and shares on the side
-- of a trade. Assumes nothing.
use Rattle.std.specs.Prelude.{◌≡◌, Bool, true, false, cond, ℕ, ◌+◌, eqb, ℤ, ◌+ℤ◌, ◌-ℤ◌}
use Rattle.std.proofs.Common.{sym, ◌∙◌, eq-eqb, ne_eqb}
use Rattle.std.proofs.Math.IntN.{pos, neg_ℤ}
use Rattle.record.specs.Signed.{dn, up}
use Rattle.model.specs.Money.{buys, settlement_of}
use Rattle.money.specs.Amounts.{above_is}

-- the tax that is taken
abbrev pub kept : ℕ → ℕ → ℕ
kept status tax = cond (eqb status 1) tax 0

pub kept_all : (status tax : ℕ) → status ≡ 1 → tax ≡ kept status tax
kept_all status tax h = rw (eq-eqb status 1 h)

pub kept_none : (status tax : ℕ) → (status ≡ 1 → ⊥) → 0 ≡ kept status tax
kept_none status tax h = rw (ne_eqb status 1 h)

module _ (form status : ℕ) (v c m : ℤ) (tax : ℕ) (p : dn v ≡ 0) (q : dn c ≡ 0) (r : dn m ≡ 0) {x : Bool}
    (e : x ≡ buys form) where
  pub bought_is : x ≡ true
      → neg_ℤ (v +ℤ c +ℤ m) -ℤ pos (kept status tax) ≡ settlement_of form status (up v) (up c) (up m) tax
  unfolding settlement_of
  bought_is t =
      let all : neg_ℤ (v +ℤ c +ℤ m) -ℤ pos (kept status tax)
      ≡ neg_ℤ (pos (up v + up c + up m)) -ℤ pos (kept status tax) =
      λ i. neg_ℤ (above_is v p i +ℤ above_is c q i +ℤ above_is m r i) -ℤ pos (kept status tax)
      in
      all ∙ rw (sym e ∙ t)

  pub sold_is : x ≡ false
      → v -ℤ c -ℤ m -ℤ pos (kept status tax) ≡ settlement_of form status (up v) (up c) (up m) tax
  unfolding settlement_of
  sold_is t =
      let all : v -ℤ c -ℤ m -ℤ pos (kept status tax)
      ≡ pos (up v) -ℤ pos (up c) -ℤ pos (up m) -ℤ pos (kept status tax) =
      λ i. above_is v p i -ℤ above_is c q i -ℤ above_is m r i -ℤ pos (kept status tax)
      in
      all ∙ rw (sym e ∙ t)
