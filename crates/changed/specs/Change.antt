-- The rows that a result changes or frees, by the places where they stood at entry; and how the code comes to them.
-- Assumes nothing.
use Rattle.std.specs.Prelude.{◌≡◌, refl, Bool, true, false, cond, not, ◌&&◌, List, [], ◌∷◌, ◌++◌, ℕ, ◌-◌, ◌≤◌, set}
use Rattle.record.specs.Codes.{kind_free}
use Rattle.record.specs.Signed.{up}
use Rattle.record.specs.declared.row.Row.{Row}
use Rattle.kinds.specs.Written.{account_row, broker_row, summary_row, trade_row}
use Rattle.kinds.specs.declared.inputs.ResultInput.{ResultInput}
use Rattle.units.specs.declared.Cents.{Cents}
use Rattle.units.specs.declared.Shares.{Shares}
use Rattle.model.specs.Flags.{cash}
use Rattle.model.specs.Order.{trade_id}
use Rattle.model.specs.Result.{broker_after, gone, holding, trade_after}
use Rattle.model.specs.Rows.{is, nothing, rows}
use Rattle.places.specs.Rows.{put_at, row_at}
use Rattle.chains.specs.Group.{group_of}
use Rattle.directory.specs.Directory.{Directory}
use Rattle.directory.specs.declared.totals.Totals.{Totals}
use Rattle.reading.specs.declared.terms.Terms.{Terms}
use Rattle.figures.specs.declared.Figures.{Figures}
use Rattle.written.specs.Turned.{Ready, Turned, may_go, may_stay, ready_first, ready_next, turned_none}
use Rattle.written.specs.Turned.{turned_one, turned_then}

abbrev pub summary_put : Terms → Shares → List (ℕ × Row)
summary_put t z =
    cond (t.held && not (gone z.0)) ((t.at.summary, holding (summary_row t.summary) z.0) ∷ []) []

abbrev pub summary_free : Terms → Shares → List (ℕ × Row)
summary_free t z = cond (t.held && gone z.0) ((t.at.summary, nothing) ∷ []) []

abbrev pub account_put : Terms → Cents → List (ℕ × Row)
account_put t z = cond (cash t.trade.flags) ((t.at.account, holding (account_row t.account) z.0) ∷ []) []

abbrev pub trade_put : ResultInput → Terms → Figures → ℕ × Row
trade_put i t f = (
  t.at.trade,
  trade_after (trade_row t.trade) i.price.0 (up f.commission.0) (up f.tax.0) i.time.0,
)

abbrev pub broker_put : Terms → Figures → ℕ × Row
broker_put t f = (t.at.broker, broker_after (broker_row t.broker) (up f.commission.0))

abbrev pub change_puts : ResultInput → Terms → Figures → List (ℕ × Row)
change_puts i t f =
    summary_put t f.shares ++ account_put t f.balance ++ trade_put i t f ∷ [] ++ broker_put t f ∷ []

-- ---- one row or none
module _ (x : Bool) (p : ℕ) (n : Row) {b d : List ℕ} {t : Totals}
    (s : Ready (cond x ((p, n) ∷ []) []) b d t) where
  pub unturned : x ≡ false → Turned (cond x ((p, n) ∷ []) []) b b d t
  unturned e =
      let h : Ready [] b d t = rw e at s in
      rw e (turned_none h)

  pub one_stays : x ≡ true → is kind_free n ≡ false → {r : Row} → r ≡ n → group_of r ≡ group_of (row_at b p)
  one_stays e l f =
      let h : Ready ((p, n) ∷ []) b d t = rw e at s in
      rw f (may_stay h l)

  pub one_turned : x ≡ true → {b' d' : List ℕ} {t' : Totals} {r : Row} → r ≡ n
      → (b' ≡ put_at b p r) × (rows b' ≡ set (rows b) p r) → Directory b' d' t'
      → Turned (cond x ((p, n) ∷ []) []) b b' d' t'
  one_turned e f q k = rw e (turned_one f q k)

pub one_goes : (x : Bool) (p : ℕ) {b d : List ℕ} {t : Totals} → Ready (cond x ((p, nothing) ∷ []) []) b d t → x ≡ true
    → (is kind_free (row_at b p) ≡ false) × (trade_id (row_at b p) ≤ t.largest.0 - 1)
one_goes x p {b} {d} {t} s e =
    let h : Ready ((p, nothing) ∷ []) b d t = rw e at s in
    may_go h refl

-- ---- all changes in turn
-- what `change` promises
abbrev Changes : ℕ → Row → List ℕ → List ℕ → List ℕ → Totals → Type 0
Changes p r b b' d t = ((b' ≡ put_at b p r) × (rows b' ≡ set (rows b) p r)) × Directory b' d t

module _ (i : ResultInput) (x : Terms) (f : Figures) where
  abbrev one : List (ℕ × Row)
  one = summary_put x f.shares

  abbrev two : List (ℕ × Row)
  two = account_put x f.balance

  abbrev three : List (ℕ × Row)
  three = trade_put i x f ∷ []

  abbrev four : List (ℕ × Row)
  four = broker_put x f ∷ []

  module _ {b d : List ℕ} {t : Totals} (s : Ready (change_puts i x f) b d t) where
    pub first_change : Ready one b d t
    first_change = ready_first one two (ready_first (one ++ two) three (ready_first (one ++ two ++ three) four s))

    module _ {b₁ : List ℕ} (a : Turned one b b₁ d t) where
      pub second_change : Ready two b₁ d t
      second_change =
          ready_next one two (ready_first (one ++ two) three (ready_first (one ++ two ++ three) four s)) a

      module _ {b₂ : List ℕ} (c : Turned two b₁ b₂ d t) {r : Row} (e : r ≡ (trade_put i x f).1) where
        ready : Ready three b₂ d t
        ready =
            ready_next (one ++ two) three (ready_first (one ++ two ++ three) four s) (turned_then one two a c)

        pub third_change : Directory b₂ d t × (group_of r ≡ group_of (row_at b₂ x.at.trade))
        unfolding trade_row
        third_change = (ready.directory, rw e (may_stay ready refl))

        pub fourth_change : {b₃ : List ℕ} → Changes x.at.trade r b₂ b₃ d t → {q : Row} → q ≡ (broker_put x f).1
            → Directory b₃ d t × (group_of q ≡ group_of (row_at b₃ x.at.broker))
        unfolding broker_row
        fourth_change k g =
            let h =
            ready_next (one ++ two ++ three) four s
            (turned_then (one ++ two) three (turned_then one two a c) (turned_one e k.0 k.1))
            in
            (h.directory, rw g (may_stay h refl))

  pub all_changed : {b b₁ b₂ b₃ b₄ d : List ℕ} {t : Totals} {r q : Row} → Turned one b b₁ d t → Turned two b₁ b₂ d t
      → r ≡ (trade_put i x f).1 → Changes x.at.trade r b₂ b₃ d t → q ≡ (broker_put x f).1
      → Changes x.at.broker q b₃ b₄ d t → Turned (change_puts i x f) b b₄ d t
  all_changed a c e k g l =
      turned_then (one ++ two ++ three) four
      (turned_then (one ++ two) three (turned_then one two a c) (turned_one e k.0 k.1))
      (turned_one g l.0 l.1)
