-- A symbol that is spelled right: that of a security or of a trade that fits, and so one whose security or trade is
-- there. Assumes nothing.
use Rattle.std.specs.Prelude.{◌≡◌, true, List, ℕ, ◌/◌, ◌<◌, eqb, length}
use Rattle.std.proofs.Math.Path.{refl, sym, ap}
use Rattle.std.proofs.Common.{◌∙◌}
use borrow.Author.Tests.{eqb-true}
use Rattle.laws.specs.Search.{place}
use Rattle.laws.specs.Tests.{and_left, and_right}
use Rattle.laws.specs.Walk.{from_holds}
use Rattle.record.specs.Codes.{kind_security, kind_trade}
use Rattle.record.specs.Spelling.{means_symbol, symbol_ok}
use Rattle.record.specs.Symbol.{same_symbol_holds, same_symbol}
use Rattle.record.specs.declared.row.Row.{Row}
use Rattle.record.specs.declared.symbol.Symbol.{Symbol}
use Rattle.kinds.specs.Kinds.{trade_of}
use Rattle.kinds.specs.declared.rows.Trade.{Trade}
use Rattle.keys.specs.declared.Key.{Key}
use Rattle.rules.specs.Meaning.{means_security, means_trade}
use Rattle.rules.specs.Rules.{as_kind, fits}
use Rattle.model.specs.Names.{a_security, a_trade}
use Rattle.model.specs.Rows.{has_key, is, nothing, rows}
use Rattle.facts.specs.Names.{by_id_holds, by_symbol_holds}
use Rattle.facts.specs.Rows.{length_rows}
use Rattle.places.specs.Rows.{row_at}
use Rattle.by_kind.specs.Kinds.{KindFits}

security_spelt : (r : Row) → fits r ≡ true → r.kind ≡ kind_security → symbol_ok r.symbol ≡ true
security_spelt r f e = (means_symbol r.symbol).holds ((means_security r).shows (as_kind kind_security r e ∙ f)).1

trade_spelt : (r : Row) → fits r ≡ true → r.kind ≡ kind_trade → symbol_ok r.symbol ≡ true
trade_spelt r f e = (means_symbol r.symbol).holds ((means_trade r).shows (as_kind kind_trade r e ∙ f)).1

module _ (b : List ℕ) {p : ℕ} (low : p < length b / 64) where
  has_key_holds : (k : Key) → p ≡ place (has_key k) (rows b) → has_key k (row_at b p) ≡ true
  has_key_holds k at =
      let n = length_rows b in
      rw at (from_holds (has_key k) (rows b) 0 nothing (rw (← at, length_rows) low))

  -- the security of a symbol is there
  pub symbol_known : KindFits b kind_security → (y : Symbol) → p ≡ place (has_key (a_security y)) (rows b)
      → symbol_ok y ≡ true
  symbol_known s y at =
      let r = row_at b p in
      let both = sym (by_symbol_holds y r) ∙ has_key_holds (a_security y) at in
      let kind = eqb-true r.kind kind_security (and_left (is kind_security r) (same_symbol r.symbol y) both) in
      let same = same_symbol_holds r.symbol y (and_right (is kind_security r) (same_symbol r.symbol y) both) in
      ap symbol_ok (sym same) ∙ security_spelt r (s.all p low kind) kind

  -- a trade is there
  pub trade_known : KindFits b kind_trade → (x : ℕ) {t : Trade} → p ≡ place (has_key (a_trade x)) (rows b)
      → t ≡ trade_of (row_at b p) → symbol_ok t.symbol ≡ true
  unfolding trade_of
  trade_known s x at row =
      let r = row_at b p in
      let both = sym (by_id_holds kind_trade refl x r) ∙ has_key_holds (a_trade x) at in
      let kind = eqb-true r.kind kind_trade (and_left (is kind_trade r) (eqb r.id x) both) in
      ap (λ (u : Trade). symbol_ok u.symbol) row ∙ trade_spelt r (s.all p low kind) kind
