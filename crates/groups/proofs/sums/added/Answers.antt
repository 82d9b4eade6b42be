-- A lot of the account and symbol has shares on one side, in their range since the row fits.
use Rattle.std.proofs.Common.{false, true, sym, ap, ◌∙◌, arith, rules, SFits, w64}
use Rattle.std.proofs.lemmas.Int.{to_z-of_z}
use Rattle.kinds.specs.Kinds.{lot_of}
use Rattle.units.specs.declared.Shares.{Shares}
use Rattle.places.specs.Rows.{row_at}
use Rattle.groups.specs.Sums.{adds_long, adds_none, adds_owed, adds_size, bit_no, bit_yes, kind_byte}
use Rattle.groups.specs.Sums.{lot_amount, lot_told}
use Rattle.groups.proofs.sums.added.Goals as goal

pub negated-requires : goal.negated-requires
negated-requires c =
    let row = c.part-record.ensures.1 in
    let lot = c.from_bytes-lot.ensures ∙ ap lot_of row in
    let told = lot_told _ _ _ (kind_byte _ row) lot c.in_holding.ensures in
    let mine = sym told ∙ c.if-record-in_holding.true in
    let size = adds_size _ _ _ c.requires.1 mine (lot_amount _ lot) in
    omega arith

pub returns-then-shares-lt0 : goal.returns-then-shares-lt0
returns-then-shares-lt0 c =
    let row = c.part-record.ensures.1 in
    let lot = c.from_bytes-lot.ensures ∙ ap lot_of row in
    let told = lot_told _ _ _ (kind_byte _ row) lot c.in_holding.ensures in
    let mine = sym told ∙ c.if-record-in_holding.true in
    let fits : SFits w64 c.from_bytes-lot.result.shares.0 = search rules in
    let both = adds_owed _ _ _ c.requires.1 mine (lot_amount _ lot)
    (rw to_z-of_z at c.if-shares-lt0.true)
    (ap (λ (x : Shares). x.0) c.negated.ensures.value) c.negated.ensures.result_value in
    record { lots_value = (bit_yes _ mine, omega arith); adds_side = both.0; adds_side_2 = both.1 }

pub returns-then-record-in_holding : goal.returns-then-record-in_holding
returns-then-record-in_holding c =
    let row = c.part-record.ensures.1 in
    let lot = c.from_bytes-lot.ensures ∙ ap lot_of row in
    let told = lot_told _ _ _ (kind_byte _ row) lot c.in_holding.ensures in
    let mine = sym told ∙ c.if-record-in_holding.true in
    let fits : SFits w64 c.from_bytes-lot.result.shares.0 = search rules in
    let both = adds_long _ _ _ c.requires.1 mine (lot_amount _ lot)
    (rw to_z-of_z at c.if-shares-lt0.false) in
    record { lots_value = (bit_yes _ mine, omega arith); adds_side = both.0; adds_side_2 = both.1 }

pub returns : goal.returns
returns c =
    let row = c.part-record.ensures.1 in
    let lot = c.from_bytes-lot.ensures ∙ ap lot_of row in
    let told = lot_told _ _ _ (kind_byte _ row) lot c.in_holding.ensures in
    let other = sym told ∙ c.if-record-in_holding.false in
    let a = c.args in
    let none = adds_none a.account.0 a.symbol (row_at a.book.now a.at) in
    record {
      lots_value = (bit_no _ other, omega arith);
      adds_side = none false other;
      adds_side_2 = none true other;
    }
