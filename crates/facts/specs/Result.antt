-- What a result writes. Each row that it changes or frees is one of the book with a key of its own, which no row has that
-- it adds, and none of them is there twice. Assumes nothing.
use Rattle.std.specs.Prelude.{◌≡◌, true, false, not, ◌&&◌, cond, ℕ, ◌≤◌, ◌+◌, eqb, ℤ}
use Rattle.std.proofs.Math.Path.{refl, sym, ap}
use Rattle.std.proofs.Common.{◌∙◌, subst, arith, to_z}
use Rattle.std.proofs.lemmas.Bool.{false≢true}
use Rattle.std.proofs.Math.Bool.{Bool}
use mathlib.Core.List.{List, ◌∷◌, Memᴰ, [], ◌++◌, map-append}
use borrow.Author.Tests.{eqb-false, not-false, eqb-true}
use Rattle.std.specs.Int.{w64}
use Rattle.laws.specs.All.{All, all_append, all_cond, all_keep, all_map, all_more, all_none, all_one}
use Rattle.laws.specs.Keep.{count_append, count_cond, count_map, count_none, count_on, count_parts, count_single}
use Rattle.laws.specs.Search.{bit, count, keep, total}
use Rattle.laws.specs.Tests.{and_right}
use Rattle.record.specs.Codes.{completed, kind_account, kind_broker, kind_cash, kind_free, kind_lot, kind_lot_history}
use Rattle.record.specs.Codes.{kind_settlement, kind_summary, kind_trade, kind_trade_history, submitted}
use Rattle.keys.specs.Key.{key_of}
use Rattle.keys.specs.KeyLaws.{keys_tell, same_keys}
use Rattle.keys.specs.declared.Key.{Key}
use Rattle.record.specs.declared.row.Row.{Row}
use Rattle.model.specs.Flags.{cash}
use Rattle.model.specs.Lots.{Closing, closings, lots_for}
use Rattle.model.specs.Names.{a_broker, a_summary, a_trade, an_account}
use Rattle.model.specs.Result.{Sums, account_changes, added, broker_after, broker_write, closed_lots, closing_rows}
use Rattle.model.specs.Result.{final_rows, gone, holding, left_of, lot_changes, lot_history, new_lot, new_summary}
use Rattle.model.specs.Result.{opening_rows, reduced, signed, summary_changes, summary_gone, summary_rows, summed_shares}
use Rattle.model.specs.Result.{trade_after, trade_write, view}
use Rattle.model.specs.Rows.{found, has_key, is, nothing}
use Rattle.model.specs.Sound.{sound}
use Rattle.model.specs.SoundMeans.{means_sound}
use Rattle.facts.specs.Found.{found_has, found_kind, found_live, found_member}
use Rattle.facts.specs.Keys.{key_kind, not_nothing, of_kind, of_live, same_key_holds}
use Rattle.facts.specs.Lots.{all_closings, count_closings, count_lots, lots_held}
use Rattle.facts.specs.Names.{by_id_holds, other_kind}
use Rattle.facts.specs.Sound.{named_there, names_account, names_broker}
use Rattle.facts.specs.Posted.{frees}

-- ---- keys that a change keeps
pub trade_key : (t : Row) (price commission tax time : ℕ) → t.kind ≡ kind_trade
    → key_of (trade_after t price commission tax time) ≡ key_of t
unfolding key_of
trade_key t price commission tax time e = rw e

pub broker_key : (b : Row) (commission : ℕ) → b.kind ≡ kind_broker → key_of (broker_after b commission) ≡ key_of b
unfolding key_of
broker_key b commission e = rw e

pub holding_key : (r : Row) (z : ℤ) → key_of (holding r z) ≡ key_of r
unfolding key_of
holding_key r z = refl

-- ---- what a row that is changed or freed needs, where the rows hs are added
pub record Turned (rs hs : List Row) (w : Row × Row) : Type 0 where
  pub held : Memᴰ w.0 rs
  pub live : is kind_free w.0 ≡ false
  pub key : (o : Row) → is kind_free o ≡ false → has_key (key_of o) w.1 ≡ true → has_key (key_of o) w.0 ≡ true
  pub alone : All (λ (h : Row). has_key (key_of w.0) h ≡ false) hs

-- ---- what a result reads of the book, and the figures that it writes
pub record Read (rs : List Row) (t summary account broker : Row) (cs : List Closing) : Type 0 where
  pub good : sound rs ≡ true
  -- the trade is there and submitted
  pub t_held : Memᴰ t rs
  pub t_kind : t.kind ≡ kind_trade
  pub t_own : found (a_trade t.id) rs ≡ t
  pub t_status : t.status ≡ submitted
  -- its account and the broker are there
  pub a_held : Memᴰ account rs
  pub a_kind : account.kind ≡ kind_account
  pub b_held : Memᴰ broker rs
  pub b_kind : broker.kind ≡ kind_broker
  -- so is the summary, where it is not nothing
  pub s_held : is kind_free summary ≡ false → Memᴰ summary rs × (summary.kind ≡ kind_summary)
  -- and the lots, each once
  pub c_held : All (λ (c : Closing). Memᴰ c.lot rs × (c.lot.kind ≡ kind_lot)) cs
  pub c_once : (k : Key) → count (λ (c : Closing). has_key k c.lot) cs ≤ count (has_key k) rs

abbrev pub writes : Row → Row → Row → Row → List Closing → Sums → List (Row × Row)
writes t summary account broker cs n =
    lot_changes t cs ++ summary_changes t summary ++ account_changes t account n.balance
    ++ trade_write t n ∷ []
    ++ broker_write broker n ∷ []
    ++ frees (closed_lots cs ++ summary_gone t summary)
