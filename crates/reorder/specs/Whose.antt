-- Whose a row is: an account's, its lots and its holdings, its trades and all that was written for them; nobody's, as
-- no result changes it; or a broker's, which stands apart. Trades are told by a fixed function of their numbers, which
-- is that of the opening book. Assumes nothing.
use Rattle.std.specs.Prelude.{◌≡◌, Bool, true, false, cond, not, ◌&&◌, ◌||◌, List, [], ◌∷◌, ℕ, eqb}
use Rattle.std.proofs.Math.Path.{refl}
use borrow.Author.Tests.{eq-eqb, ne_eqb}
use Rattle.laws.specs.Tests.{and_false, or_true}
use Rattle.record.specs.Codes.{kind_account, kind_broker, kind_cash, kind_free, kind_lot, kind_lot_history, kind_settlement}
use Rattle.record.specs.Codes.{kind_summary, kind_trade, kind_trade_history}
use Rattle.keys.specs.Key.{among}
use Rattle.record.specs.declared.row.Row.{Row}
use Rattle.model.specs.Rows.{is}

abbrev pub by_party : List ℕ
by_party = kind_account ∷ kind_lot ∷ kind_summary ∷ []

abbrev pub by_trade : List ℕ
by_trade = kind_trade ∷ kind_trade_history ∷ kind_settlement ∷ kind_cash ∷ []

-- free places and brokers: results of other accounts change them
abbrev pub aside : List ℕ
aside = kind_free ∷ kind_broker ∷ []

module _ (own : ℕ → ℕ) where
  -- 0 where it is nobody's
  unfoldable pub whose : Row → ℕ
  whose r =
      cond (among r.kind by_party) r.party
      (cond (among r.kind by_trade) (own r.id) (cond (is kind_lot_history r) (own r.m2) 0))

  pub whose_party : (r : Row) (k : ℕ) → r.kind ≡ k → among k by_party ≡ true → whose r ≡ r.party
  unfolding whose
  whose_party r k e h = rw (e, h)

  pub whose_trade : (r : Row) (k : ℕ) → r.kind ≡ k → among k by_party ≡ false → among k by_trade ≡ true
      → whose r ≡ own r.id
  unfolding whose
  whose_trade r k e g h = rw (e, g, h)

  pub whose_history : (r : Row) → r.kind ≡ kind_lot_history → whose r ≡ own r.m2
  unfolding whose
  whose_history r e = rw e

  -- a kind that no result changes
  pub whose_none : (r : Row) (k : ℕ) → r.kind ≡ k → among k by_party ≡ false → among k by_trade ≡ false
      → eqb k kind_lot_history ≡ false → whose r ≡ 0
  unfolding whose
  whose_none r k e f g h = rw (e, f, g, h)

  -- what a result of the account a may see and change: its own rows, and those that no result changes
  unfoldable pub mine : ℕ → Row → Bool
  mine a r = not (among r.kind aside) && (eqb (whose r) 0 || eqb (whose r) a)

  module _ (a : ℕ) (r : Row) where
    pub mine_own : (k : ℕ) → r.kind ≡ k → not (among k aside) ≡ true → whose r ≡ a
        → mine a r ≡ true
    unfolding mine
    mine_own k e h w = rw (w, eq-eqb a a refl, or_true (eqb a 0), e, h)

    pub mine_none : (k : ℕ) → r.kind ≡ k → not (among k aside) ≡ true → whose r ≡ 0
        → mine a r ≡ true
    unfolding mine
    mine_none k e h w = rw (w, e, h)

    -- the broker's, a free place, and another account's
    pub not_broker : r.kind ≡ kind_broker → mine a r ≡ false
    unfolding mine
    not_broker e = rw e

    pub not_free : r.kind ≡ kind_free → mine a r ≡ false
    unfolding mine
    not_free e = rw e

    pub not_other : (c : ℕ) → whose r ≡ c → (c ≡ 0 → ⊥) → (c ≡ a → ⊥) → mine a r ≡ false
    unfolding mine
    not_other c w z d =
        rw (w, ne_eqb c 0 z, ne_eqb c a d) (and_false (not (among r.kind aside)))
