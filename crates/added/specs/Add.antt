-- Rows that a result adds in the places that are free, lowest first. Assumes nothing.
use Rattle.std.specs.Prelude.{◌≡◌, Bool, true, false, cond, List, [], ◌∷◌, ◌++◌, ℕ, ℤ, pos}
use Rattle.std.proofs.Common.{sym, ◌∙◌, eq-eqb, ne_eqb}
use Rattle.record.specs.Codes.{completed}
use Rattle.record.specs.Signed.{up}
use Rattle.record.specs.declared.row.Row.{Row}
use Rattle.units.specs.Units.{shares}
use Rattle.kinds.specs.Written.{trade_row}
use Rattle.kinds.specs.declared.inputs.ResultInput.{ResultInput}
use Rattle.kinds.specs.declared.rows.Trade.{Trade}
use Rattle.units.specs.declared.Shares.{Shares}
use Rattle.model.specs.Flags.{cash}
use Rattle.model.specs.History.{history_row}
use Rattle.model.specs.Result.{cash_row, final_rows, lot_history, new_lot, new_summary, opening_rows, settlement_row, signed}
use Rattle.upkeep.specs.Added.{Added, Room, added_then, room_first, room_next}
use Rattle.directory.specs.declared.totals.Totals.{Totals}
use Rattle.reading.specs.declared.terms.Terms.{Terms}
use Rattle.figures.specs.declared.Figures.{Figures}

-- a summary where there is none
abbrev pub new_holding : Trade → Bool → Shares → List Row
new_holding t held z = cond held [] (new_summary (trade_row t) z.0 ∷ [])

abbrev pub own_added : ResultInput → Terms → Figures → List Row
own_added i t f =
    opening_rows (trade_row t.trade) i.price.0 (up f.walk.need.0) i.time.0
    ++ new_holding t.trade t.held f.shares
    ++ final_rows (trade_row t.trade) f.settlement.0 i.time.0

-- ---- shares left over
module _ (x : Trade) (price left time : ℕ) where
  pub opening_none : left ≡ 0 → opening_rows (trade_row x) price left time ≡ []
  opening_none e = rw (eq-eqb left 0 e)

  pub opening_some : {z : Shares} → (left ≡ 0 → ⊥) → z ≡ shares (signed x.trade_type left)
      → opening_rows (trade_row x) price left time
      ≡ lot_history x.no.0 x.no.0 (pos 0) z.0 ∷ new_lot (trade_row x) price z.0 time ∷ []
  unfolding trade_row
  opening_some e q = rw (ne_eqb left 0 e, q)

-- ---- a summary where there is none
pub holding_none : (x : Trade) (z : Shares) {held : Bool} → held ≡ true → new_holding x held z ≡ []
holding_none x z e = rw e

pub holding_some : (x : Trade) (z : Shares) {held : Bool} → held ≡ false
    → new_holding x held z ≡ new_summary (trade_row x) z.0 ∷ []
holding_some x z e = rw e

-- ---- cash for a cash trade
module _ (x : Trade) (amount : ℤ) (time : ℕ) {f : Bool} (q : f ≡ cash x.flags) where
  abbrev first : Row
  first = history_row completed (trade_row x).id time

  abbrev second : Row
  second = settlement_row (trade_row x) amount time

  pub final_cash : f ≡ true
      → final_rows (trade_row x) amount time ≡ first ∷ second ∷ cash_row (trade_row x) amount time ∷ []
  unfolding trade_row
  final_cash e = rw (sym q ∙ e)

  pub final_plain : f ≡ false → final_rows (trade_row x) amount time ≡ first ∷ second ∷ []
  unfolding trade_row
  final_plain e = rw (sym q ∙ e)

-- ---- all of them
module _ (i : ResultInput) (x : Terms) (f : Figures) where
  abbrev opened : List Row
  opened = opening_rows (trade_row x.trade) i.price.0 (up f.walk.need.0) i.time.0

  abbrev held : List Row
  held = new_holding x.trade x.held f.shares

  abbrev final : List Row
  final = final_rows (trade_row x.trade) f.settlement.0 i.time.0

  module _ {b d : List ℕ} {t : Totals} (s : Room (own_added i x f) b d t) where
    pub own_first : Room opened b d t
    own_first = room_first opened held (room_first (opened ++ held) final s)

    pub own_second : {b₁ d₁ : List ℕ} {t₁ : Totals} → Added opened b t b₁ d₁ t₁ → Room held b₁ d₁ t₁
    own_second a = room_next opened held (room_first (opened ++ held) final s) a

    pub own_third : {b₁ d₁ b₂ d₂ : List ℕ} {t₁ t₂ : Totals} → Added opened b t b₁ d₁ t₁
        → Added held b₁ t₁ b₂ d₂ t₂ → Room final b₂ d₂ t₂
    own_third a h = room_next (opened ++ held) final s (added_then opened held a h)

  pub own_added_holds : {b b₁ d₁ b₂ d₂ b₃ d₃ : List ℕ} {t t₁ t₂ t₃ : Totals} → Added opened b t b₁ d₁ t₁
      → Added held b₁ t₁ b₂ d₂ t₂ → Added final b₂ t₂ b₃ d₃ t₃ → Added (own_added i x f) b t b₃ d₃ t₃
  own_added_holds a h l = added_then (opened ++ held) final (added_then opened held a h) l
