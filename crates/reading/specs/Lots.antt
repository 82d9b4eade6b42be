-- The places of the lots that a result closes. Assumes nothing.
use Rattle.std.specs.Prelude.{◌≡◌, true, false, not, List, map, ℕ, ◌≤◌, ◌<◌, take, get_or}
use Rattle.std.proofs.Common.{sym, ◌∙◌, arith, eqb-true}
use Rattle.std.proofs.lemmas.Bool.{not-false}
use Rattle.record.specs.Codes.{kind_free, kind_lot}
use Rattle.record.specs.declared.row.Row.{Row}
use Rattle.kinds.specs.Kinds.{trade_of}
use Rattle.model.specs.Lots.{lots_for}
use Rattle.model.specs.Names.{a_summary}
use Rattle.model.specs.Result.{view}
use Rattle.model.specs.Rows.{found, is, rows}
use Rattle.model.specs.Sound.{sound}
use Rattle.places.specs.Rows.{row_at}
use Rattle.directory.specs.Listed.{places}
use Rattle.closing.specs.Closing.{Gathered, closed_lot, sought_of}
use Rattle.closing.specs.Walked.{are_lots}
use Rattle.closing.specs.declared.Sought.{Sought}
use Rattle.reading.specs.declared.terms.Terms.{Terms}
use Rattle.reading.specs.NoLots.{no_lots}
use Rattle.reading.specs.Terms.{terms_of}

-- it is known whether there is a summary
abbrev pub Holds : List Row → Terms → Type 0
Holds rs t = t.held ≡ not (is kind_free (found (a_summary t.trade.account.0 t.trade.symbol) rs))

-- the first n places are those of the lots, in the order of closing
pub record Held (t : Terms) (b at : List ℕ) (n : ℕ) : Type 0 where
  pub rows : map (row_at b) (take n at)
      ≡ lots_for (rows b) t.trade.trade_type t.trade.flags t.trade.account.0 t.trade.symbol
  pub few : n ≤ places b
  pub each : (k : ℕ) → k < n → (get_or at k 0 < places b) × ((row_at b (get_or at k 0)).kind ≡ kind_lot)

pub holds : (rs : List Row) (input : Row) {t : Terms} → t ≡ terms_of rs input → Holds rs t
unfolding terms_of view trade_of
holds rs input e = rw e

pub none_held : (b at : List ℕ) (t : Terms) → sound (rows b) ≡ true → Holds (rows b) t → t.held ≡ false → Held t b at 0
none_held b at t good h e =
    let x = t.trade in
    let s = found (a_summary x.account.0 x.symbol) (rows b) in
    let free = eqb-true s.kind kind_free (not-false (is kind_free s) (sym h ∙ e)) in
    record {
      rows = sym (no_lots (rows b) good x.trade_type x.flags x.account.0 x.symbol free);
      few = omega arith;
      each = λ k m. absurd (omega arith);
    }

pub all_held : (t : Terms) {b at : List ℕ} {n : ℕ} {s : Sought}
    → s ≡ sought_of t.trade.trade_type t.trade.flags t.trade.account t.trade.symbol
    → Gathered s b at n → Held t b at n
all_held t {b} {at} {s = s} e g =
    let x = t.trade in
    record {
      rows = are_lots x.trade_type x.flags x.account x.symbol e g;
      few = g.few;
      each = λ k m.
          let a = g.each k m in
          (a.inside, closed_lot s (row_at b (get_or at k 0)) a.closed);
    }
