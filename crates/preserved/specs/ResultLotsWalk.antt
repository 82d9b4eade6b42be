-- What a walk over a trade's lots closes: lots of its account and symbol and of the other sign; and where shares are
-- left over, all of them in whole. Assumes nothing.
use Rattle.std.specs.Prelude.{◌≡◌, refl, Bool, true, ◌&&◌, ℕ, ◌+◌, ◌-◌, ◌≤◌, eqb, length}
use Rattle.std.proofs.Math.Path.{sym}
use Rattle.std.proofs.Common.{◌∙◌}
use Rattle.std.proofs.Math.Bool.{false}
use mathlib.Core.List.{List, [], ◌∷◌, Memᴰ}
use native.Mathlib.Omega.{arith}
use borrow.Author.Tests.{eqb-false, le-ltb}
use Rattle.laws.specs.All.{All, all_cond, all_more, all_none}
use Rattle.laws.specs.Keep.{count_kept, keep_from}
use Rattle.laws.specs.Search.{count, keep, run, total}
use Rattle.laws.specs.Sort.{count_sort, of_sort}
use Rattle.laws.specs.Tests.{◌⇔◌, and_left, and_right}
use Rattle.record.specs.Codes.{kind_free, kind_lot, kind_trade, submitted}
use Rattle.record.specs.declared.row.Row.{Row}
use Rattle.record.specs.declared.symbol.Symbol.{Symbol}
use Rattle.rules.specs.Meaning.{Lot, Trade, means_lot, means_trade}
use Rattle.rules.proofs.Fits.{means_fits}
use Rattle.rules.specs.Ranges.{shares_most}
use Rattle.rules.specs.Rules.{as_kind}
use Rattle.model.specs.Flags.{lifo}
use Rattle.model.specs.Lots.{Closing, Walk, all_shares, before, closes, closings, lots_for, size, start, step, taken}
use Rattle.model.specs.Lots.{walk}
use Rattle.model.specs.Money.{buys}
use Rattle.model.specs.Result.{figures, view, sums_of, reduced}
use Rattle.model.specs.Rows.{is, most_records}
use Rattle.model.specs.Sound.{lot_of, short, sound}
use Rattle.model.specs.SoundMeans.{means_sound}
use Rattle.facts.specs.Lots.{closings_next, all_closings}
use Rattle.facts.proofs.Result.{reads}
use Rattle.facts.specs.Most.{summary_near}
use Rattle.preserved.specs.ResultLots.{some_size}
use Rattle.preserved.specs.ResultLotsSides.{iff_one}
use Rattle.preserved.specs.ResultLotsSigns.{lot_kind}
use Rattle.preserved.specs.ResultLotsSum.{Closed, Walked}

-- ---- of each lot that is closed some shares are taken
abbrev Taken : Closing → Type 0
Taken c = (1 ≤ c.shares) × (c.shares ≤ size c.lot)

all_taken : (need : ℕ) (ls : List Row) → All (λ (l : Row). 1 ≤ size l) ls → All Taken (closings need ls)
unfolding closings
all_taken need [] h = all_none Taken
all_taken need (l ∷ ls) h =
    all_cond Taken (eqb need 0) [] (record { lot = l; shares = taken need l } ∷ closings (need - taken need l) ls)
    (λ e. all_none Taken)
    (λ e.
    let z = eqb-false need 0 e in
    let s = h l (Memᴰ.head refl) in
    all_more Taken (record { lot = l; shares = taken need l }) (closings (need - taken need l) ls)
    (omega arith, omega arith)
    (all_taken (need - taken need l) ls (λ x m. h x (Memᴰ.tail m))))

-- ---- where shares are left over, every lot was closed in whole
module _ (form price : ℕ) where
  all_whole : (w : Walk) (ls : List Row) → 1 ≤ (run (step form price) w ls).need
      → (keep reduced (closings w.need ls) ≡ [])
      × ((p : Row → Bool) → count (λ (c : Closing). p c.lot) (closings w.need ls) ≡ count p ls)
  unfolding run closings keep count total
  all_whole w [] h = (refl, λ p. refl)
  all_whole w (l ∷ ls) h =
      let next = step form price w l in
      let ih = all_whole next ls h in
      let a = all_shares form price next ls in
      let more : 1 ≤ next.need = omega arith in
      let q = closings_next w.need l ls (λ z. omega arith) in
      let whole : reduced (record { lot = l; shares = taken w.need l }) ≡ false =
      le-ltb (taken w.need l) (size l) (omega arith)
      in
      (rw (q, whole) ih.0, λ p. let k = ih.1 p in rw q (omega arith))

-- ---- the lots of a trade
module _ (rs : List Row) (good : sound rs ≡ true) (form flags account : ℕ) (symbol : Symbol) where
  abbrev lots : List Row
  lots = lots_for rs form flags account symbol

  lot_closes : (l : Row) → Memᴰ l lots → Memᴰ l rs × (closes form account symbol l ≡ true)
  unfolding lots_for
  lot_closes l m =
      keep_from (closes form account symbol) l rs
      (of_sort (before (lifo flags)) (keep (closes form account symbol) rs) l m)

  pub lot_fits_holds : (l : Row) → Memᴰ l lots → Lot l
  lot_fits_holds l m =
      let h = lot_closes l m in
      let k = lot_kind account symbol l (and_left (lot_of account symbol l) (buys form ⇔ short l) h.1) in
      (means_lot l).shows (as_kind kind_lot l k ∙ (means_fits l).holds (((means_sound rs).shows good).s1 l h.0))

  lots_all : count (closes form account symbol) lots ≡ count (closes form account symbol) rs
  unfolding lots_for
  lots_all =
      count_sort (closes form account symbol) (before (lifo flags)) (keep (closes form account symbol) rs)
      ∙ sym (count_kept (closes form account symbol) rs)

  module _ (price need : ℕ) where
    walk_all : total (λ (c : Closing). c.shares) (closings need lots) + (walk form price need lots).need ≡ need
    unfolding walk
    walk_all = all_shares form price (start need) lots

    walk_spent : 1 ≤ (walk form price need lots).need
        → (keep reduced (closings need lots) ≡ [])
        × (count (λ (c : Closing). closes form account symbol c.lot) (closings need lots)
        ≡ count (closes form account symbol) rs)
    unfolding walk
    walk_spent h =
        let w = all_whole form price (start need) lots h in
        (w.0, w.1 (closes form account symbol) ∙ lots_all)

-- ---- what a result's walk leaves
module _ (rs : List Row) (good : sound rs ≡ true) (t : Row) where
  lot_closed : (c : Closing)
      → Memᴰ c (closings t.n1 (lots_for rs t.form t.flags t.party t.symbol)) → Closed t c
  lot_closed c m =
      let ls = lots_for rs t.form t.flags t.party t.symbol in
      let fit = lot_fits_holds rs good t.form t.flags t.party t.symbol in
      let sized : All (λ (l : Row). 1 ≤ size l) ls = λ l k. some_size l.m1 (fit l k).0.0.1 in
      let part = all_taken t.n1 ls sized c m in
      let held : lot_of t.party t.symbol c.lot && (buys t.form ⇔ short c.lot) ≡ true =
      all_closings (λ (l : Row). closes t.form t.party t.symbol l ≡ true) t.n1 ls
      (λ l k. (lot_closes rs good t.form t.flags t.party t.symbol l k).1) c m
      in
      record {
        held = and_left (lot_of t.party t.symbol c.lot) (buys t.form ⇔ short c.lot) held;
        other =
            iff_one (buys t.form) (short c.lot)
            (and_right (lot_of t.party t.symbol c.lot) (buys t.form ⇔ short c.lot) held);
        some = part.0;
        within = part.1;
        most =
            all_closings (λ (l : Row). size l ≤ shares_most) t.n1 ls (λ l k. (fit l k).0.1) c m;
      }

module _ (rs : List Row) (input : Row) (good : sound rs ≡ true) (few : length rs ≤ most_records)
    (live : is kind_free (view rs input).trade ≡ false) (sent : (view rs input).trade.status ≡ submitted) where
  pub trade_fits : Trade (view rs input).trade
  trade_fits =
      let t = (view rs input).trade in
      let r = reads rs input good live sent in
      (means_trade t).shows
      (as_kind kind_trade t r.t_kind ∙ (means_fits t).holds (((means_sound rs).shows good).s1 t r.t_held))

  pub walked : let v = view rs input in
      Walked rs v.trade v.summary (closings v.trade.n1 v.lots) (sums_of input (figures input v))
  unfolding view figures
  walked =
      let t = (view rs input).trade in
      let fit = trade_fits.0.0.0 in
      record {
        own = refl;
        closed = lot_closed rs good t;
        all = walk_all rs good t.form t.flags t.party t.symbol input.n1 t.n1;
        spent = walk_spent rs good t.form t.flags t.party t.symbol input.n1 t.n1;
        some = fit.2.2.2.2.2.2.2.0;
        most = fit.2.2.2.2.2.2.2.1;
        near = summary_near rs input good few;
      }
