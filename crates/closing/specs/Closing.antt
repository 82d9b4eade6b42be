-- The lots that a trade closes, by their places: collected in the order of the book, and put in the order of closing.
-- Assumes nothing.
use Rattle.std.specs.Prelude.{◌≡◌, refl, Bool, true, false, ◌&&◌, List, map, ℕ, ◌+◌, ◌≤◌, ◌<◌, eqb, take, drop, get_or, set}
use Rattle.std.proofs.Common.{◌∙◌, eqb-true}
use Rattle.laws.specs.Search.{bit, keep, seek}
use Rattle.laws.specs.Sort.{sort}
use Rattle.laws.specs.Tests.{◌⇔◌, and_left}
use Rattle.laws.specs.Place.{every_at}
use Rattle.record.specs.Codes.{kind_lot}
use Rattle.record.specs.Symbol.{same_symbol}
use Rattle.record.specs.declared.row.Row.{Row}
use Rattle.record.specs.declared.symbol.Symbol.{Symbol}
use Rattle.units.specs.declared.AccountNo.{AccountNo}
use Rattle.rules.specs.Meaning.{means_lot}
use Rattle.rules.specs.Ranges.{price_most}
use Rattle.rules.specs.Rules.{as_kind, fits}
use Rattle.model.specs.Flags.{lifo}
use Rattle.model.specs.Lots.{before, lots_for}
use Rattle.model.specs.Money.{buys}
use Rattle.model.specs.Rows.{is, most_records, nothing, rows}
use Rattle.model.specs.Sound.{lot_of, s1, short}
use Rattle.facts.specs.Rows.{length_rows}
use Rattle.places.specs.Rows.{row_at}
use Rattle.sorted.specs.Order.{InOrder, each_still, goes}
use Rattle.sorted.specs.declared.By.{By}
use Rattle.sorted.specs.declared.By.TheVariants.{Falling, Rising}
use Rattle.directory.specs.Listed.{places}
use Rattle.groups.specs.Collect.{Collected, Collecting, collect_more}
use Rattle.closing.specs.declared.Sought.{Sought}

-- of a trade's type and flags
abbrev pub sought_of : ℕ → ℕ → AccountNo → Symbol → Sought
sought_of form flags account symbol = record {
  buying = buys form;
  falling = lifo flags;
  account = account;
  symbol = symbol;
}

-- a lot of the account and symbol, on the side that is closed
unfoldable pub closed_by : Sought → Row → Bool
closed_by s r = lot_of s.account.0 s.symbol r && (s.buying ⇔ short r)

-- all of them, in the order of closing
unfoldable pub lots_of : List Row → Sought → List Row
lots_of rs s = sort (before s.falling) (keep (closed_by s) rs)

-- they are those of the rules
pub lots_for_holds : (rs : List Row) (form flags : ℕ) (account : AccountNo) (symbol : Symbol)
    → lots_of rs (sought_of form flags account symbol) ≡ lots_for rs form flags account.0 symbol
unfolding lots_of lots_for closed_by
lots_for_holds rs form flags account symbol = refl

-- what the places tell of one: it is inside the book, and a lot to close stands there
pub record At (s : Sought) (b : List ℕ) (p : ℕ) : Type 0 where
  pub inside : p < places b
  pub closed : closed_by s (row_at b p) ≡ true

-- the first n places are those of the lots, in the order of closing
pub record Gathered (s : Sought) (b at : List ℕ) (n : ℕ) : Type 0 where
  pub rows : map (row_at b) (take n at) ≡ lots_of (rows b) s
  pub few : n ≤ places b
  pub each : (k : ℕ) → k < n → At s b (get_or at k 0)

-- ---- the lots are collected along those of the account and symbol
abbrev pub mine : Sought → Row → Bool
mine s = lot_of s.account.0 s.symbol

pub others : (s : Sought) (r : Row) → mine s r ≡ false → closed_by s r ≡ false
unfolding closed_by
others s r e = rw e

pub lot_more : (s : Sought) {b at at' : List ℕ} {n n' c c' : ℕ} → Collecting (mine s) (closed_by s) b at n c
    → n < most_records → c < places b → n' ≡ n + bit (s.buying ⇔ short (row_at b c)) → at' ≡ set at n c
    → c' ≡ seek (mine s) (c + 1) (drop (c + 1) (rows b)) → Collecting (mine s) (closed_by s) b at' n' c'
unfolding closed_by
lot_more s h few i e f g = collect_more h few i (e ∙ rw (h.here i)) f g

-- ---- in the order of closing
unfoldable pub by_time : Bool → By
by_time true = Falling
by_time false = Rising

same_order : (t : Bool) (l : List Row) → sort (goes (by_time t)) l ≡ sort (before t) l
unfolding goes by_time
same_order true l = refl
same_order false l = refl

pub gathered : {s : Sought} {b at at' : List ℕ} {n : ℕ} {by : By} → Collected (closed_by s) b at n
    → by ≡ by_time s.falling → InOrder by b n at at' → Gathered s b at' n
unfolding lots_of
gathered {s} {b} h e o =
    record {
      rows = o.rows ∙ rw (h.rows, e) (same_order s.falling (keep (closed_by s) (rows b)));
      few = h.few;
      each = each_still o (At s b) (λ k m.
          let a = h.each k m in
          record { inside = a.inside; closed = a.holds });
    }

-- ---- a lot's price is in its range
pub record Priced (b at : List ℕ) (n : ℕ) : Type 0 where
  pub each : (k : ℕ) → k < n → (row_at b (get_or at k 0)).n1 ≤ price_most

pub closed_lot : (s : Sought) (r : Row) → closed_by s r ≡ true → r.kind ≡ kind_lot
unfolding closed_by
closed_lot s r e =
    eqb-true r.kind kind_lot
    (and_left (is kind_lot r) (eqb r.party s.account.0)
    (and_left (is kind_lot r && eqb r.party s.account.0) (same_symbol r.symbol s.symbol)
    (and_left (lot_of s.account.0 s.symbol r) (s.buying ⇔ short r) e)))

pub priced : {s : Sought} {b at : List ℕ} {n : ℕ} → Gathered s b at n → s1 (rows b) ≡ true → Priced b at n
unfolding s1
priced {s} {b} {at} g f = record {
  each = λ k m.
      let a = g.each k m in
      let p = get_or at k 0 in
      let l = closed_lot s (row_at b p) a.closed in
      let fit = every_at fits nothing (rows b) p f (rw length_rows a.inside) in
      ((means_lot (row_at b p)).shows (as_kind kind_lot (row_at b p) l ∙ fit)).0.0.0.2.2.2.2.2.2.2.1;
}
