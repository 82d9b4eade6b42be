-- The figures of a result whose lots are gathered are those of the rules, and in their ranges. Assumes nothing.
use Rattle.std.specs.Prelude.{◌≡◌, Bool, true, false, cond, List, [], ◌∷◌, map, ℕ, ◌+◌, ◌-◌, ◌≤◌, eqb, take}
use Rattle.std.proofs.Math.Path.{ap₂}
use Rattle.std.proofs.Common.{◌∙◌, arith}
use Rattle.std.proofs.Math.ListN.{length, get_or, length-take}
use Rattle.std.proofs.lemmas.List.{length-map}
use Rattle.laws.specs.Place.{every_at}
use Rattle.record.specs.Codes.{kind_lot}
use Rattle.record.specs.declared.row.Row.{Row}
use Rattle.kinds.specs.Inputs.{result_input_of}
use Rattle.kinds.specs.Kinds.{trade_of}
use Rattle.kinds.specs.declared.inputs.ResultInput.{ResultInput}
use Rattle.rules.specs.Meaning.{means_lot}
use Rattle.rules.specs.Ranges.{fee, price_most, shares_most}
use Rattle.rules.specs.Rules.{as_kind, fits, result_input}
use Rattle.model.specs.Lots.{closings, taken}
use Rattle.model.specs.Result.{view}
use Rattle.model.specs.Rows.{most_records, nothing, rows}
use Rattle.model.specs.Sound.{s1, sound}
use Rattle.facts.specs.Found.{sound_s1}
use Rattle.facts.specs.Most.{price_fits, shares_near}
use Rattle.facts.specs.Rows.{few_rows, length_rows}
use Rattle.places.specs.Rows.{row_at}
use Rattle.directory.specs.Listed.{places}
use Rattle.money.specs.Amounts.{UpTo, up_to, value_most}
use Rattle.walk.specs.Walk.{Within, begun, need_held, through, walked}
use Rattle.walk.specs.declared.Walk.{Walk}
use Rattle.closing.specs.Closing.{Priced}
use Rattle.reading.specs.declared.terms.Terms.{Terms}
use Rattle.reading.specs.Lots.{Held}
use Rattle.reading.specs.Terms.{input_row, terms_of}
use Rattle.figures.specs.declared.Figures.{Figures}
use Rattle.figures.specs.Figures.{Ranged, figures_by, figures_of, ranged, walk_of}

pub record Reckoned (rs : List Row) (input : Row) (f : Figures) : Type 0 where
  pub same : f ≡ figures_of rs input
  pub commission : UpTo fee.high f.commission.0
  pub tax : UpTo fee.high f.tax.0
  pub need : UpTo shares_most f.walk.need.0
  pub few : f.walk.closed ≤ most_records

-- no more lots are closed than there are
closings_few : (need : ℕ) (ls : List Row) → length (closings need ls) ≤ length ls
unfolding closings
closings_few need [] = omega arith
closings_few need (l ∷ ls) = go (eqb need 0) (closings_few (need - taken need l) ls)
  where
    go : (t : Bool) → length (closings (need - taken need l) ls) ≤ length ls
        → length (cond t [] (record { lot = l; shares = taken need l } ∷ closings (need - taken need l) ls))
        ≤ length (l ∷ ls)
    go true ih = omega arith
    go false ih = omega arith

module _ {b at : List ℕ} {n : ℕ} (i : ResultInput) {t : Terms} (good : sound (rows b) ≡ true)
    (right : result_input (input_row i) ≡ true) (e : t ≡ terms_of (rows b) (input_row i)) (small : places b ≤ most_records)
    (h : Held t b at n) where
  abbrev x : Row
  x = input_row i

  pub lots_priced : Priced b at n
  unfolding s1
  lots_priced = record {
    each = λ k m.
        let a = h.each k m in
        let p = get_or at k 0 in
        let fit = every_at fits nothing (rows b) p (sound_s1 (rows b) good) (rw length_rows a.0) in
        ((means_lot (row_at b p)).shows (as_kind kind_lot (row_at b p) a.1 ∙ fit)).0.0.0.2.2.2.2.2.2.2.1;
  }

  lots_are : map (row_at b) (take n at) ≡ (view (rows b) x).lots
  unfolding terms_of view trade_of
  lots_are = h.rows ∙ rw e

  pub start_asks : UpTo shares_most t.trade.shares.0 × (i.price.0 ≤ price_most)
  unfolding terms_of trade_of
  start_asks = (rw e (up_to shares_most (view (rows b) x).trade.n1 (shares_near (rows b) x good)), price_fits x right)

  module _ {w₀ : Walk} (s : w₀ ≡ begun t.trade.trade_type i.price t.trade.shares) where
    pub walk_asks : Within value_most w₀ → Within value_most w₀ × (w₀.closed + n ≤ most_records)
    walk_asks k = let f = h.few in (k, rw s (omega arith))

    module _ {w : Walk} (q : w ≡ through w₀ (map (row_at b) (take n at))) (k : Within value_most w) where
      walk_is : w ≡ walk_of (rows b) x
      unfolding walk_of terms_of view trade_of
      walk_is =
          let v = view (rows b) x in
          q ∙ ap₂ through (s ∙ rw e) lots_are ∙ walked v.trade.form i.price v.trade.n1 v.lots

      pub figured_asks : Ranged i t w
      unfolding result_input_of
      figured_asks = ranged (rows b) x good right (few_rows b small) e k

      closed_few : w.closed ≤ most_records
      unfolding walk_of
      closed_few =
          let v = view (rows b) x in
          let lots = lots_are in
          let a = closings_few v.trade.n1 v.lots in
          let m : length v.lots ≤ n =
          rw (← lots, length-map) (rw length-take (omega arith))
          in
          let f = h.few in
          rw walk_is (omega arith)

      pub reckoned : {f : Figures} → f ≡ figures_by i t w
          → UpTo fee.high f.commission.0 × UpTo fee.high f.tax.0 → Reckoned (rows b) x f
      unfolding figures_of figures_by result_input_of
      reckoned g u = record {
        same = g ∙ rw (e, walk_is);
        commission = u.0;
        tax = u.1;
        need = rw g (need_held w k);
        few = rw g closed_few;
      }
