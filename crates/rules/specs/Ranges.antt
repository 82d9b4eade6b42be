-- A range for each of a row's fields, and the numbers of the rules, each under its name: "Prices are 1..99,999,999,
-- shares 1..999,999 .., times 0..4,000,000,000 seconds from 2000-01-01, trade numbers 1..999,999,999,999,999, other
-- numbers that name a party or rate 1..999,999,999." "Unused fields are zero." Assumes nothing.
use Rattle.std.specs.Prelude.{◌≡◌, refl, Bool, true, ◌&&◌, List, [], ◌∷◌, ℕ, ◌+◌, ◌≤◌, replicate, set, leb}
use Rattle.laws.specs.Tests.{Means, means_le, means_and, and_left, and_right}
use Rattle.record.specs.Symbol.{symbol_number}
use Rattle.record.specs.declared.row.Row.{Row}
use Rattle.kinds.specs.declared.limits.Limits.{Limits}

pub record Range : Type 0 where
  pub low : ℕ
  pub high : ℕ

infix 80 ◌⋯◌
abbrev pub ◌⋯◌ : ℕ → ℕ → Range
a ⋯ b = record { low = a; high = b }

-- ---- the numbers of the rules
abbrev pub unused : Range
unused = 0 ⋯ 0

-- a field whose rule is no range, in four bytes and in eight
abbrev pub any32 : Range
any32 = 0 ⋯ 0xffff_ffff

abbrev pub any64 : Range
any64 = 0 ⋯ 0xffff_ffff_ffff_ffff

abbrev pub number_most : ℕ
number_most = 999_999_999

abbrev pub number : Range
number = 1 ⋯ number_most

abbrev pub trade_number : Range
trade_number = 1 ⋯ 999_999_999_999_999

abbrev pub price_most : ℕ
price_most = 99_999_999

abbrev pub price : Range
price = 1 ⋯ price_most

abbrev pub shares_most : ℕ
shares_most = 999_999

abbrev pub shares : Range
shares = 1 ⋯ shares_most

abbrev time_most : ℕ
time_most = 4_000_000_000

abbrev pub time : Range
time = 0 ⋯ time_most

-- "Due time is time + 172,800."
abbrev pub settlement_seconds : ℕ
settlement_seconds = 172_800

abbrev pub trade_type : Range
trade_type = 1 ⋯ 5

abbrev pub trade_status : Range
trade_status = 1 ⋯ 3

abbrev pub tier : Range
tier = 1 ⋯ 3

abbrev pub exchange : Range
exchange = 1 ⋯ 4

abbrev pub charged : Range
charged = 0 ⋯ 999_999

-- a trade's commission, and its tax
abbrev pub fee : Range
fee = 0 ⋯ 100_000_000_000_000

-- a broker's trades and its commission total, a security's volume
abbrev pub broker_trades : Range
broker_trades = 0 ⋯ 999_999_999

abbrev pub commission_total : Range
commission_total = 0 ⋯ 999_999_999_999_999

abbrev pub volume : Range
volume = 0 ⋯ 999_999_999_999

-- the whole of which a tax rate and a commission rate are parts, and what is divided by: hundred-thousandths, and
-- hundredths of a percent
abbrev pub tax_whole : ℕ
tax_whole = 100_000

abbrev pub commission_whole : ℕ
commission_whole = 10_000

abbrev pub tax_part : Range
tax_part = 0 ⋯ tax_whole

abbrev pub commission_part : Range
commission_part = 0 ⋯ commission_whole

abbrev pub tax_status : Range
tax_status = 0 ⋯ 2

-- cash 1, LIFO 2, roll back 4
abbrev pub cash_flag : Range
cash_flag = 0 ⋯ 1

abbrev pub trade_flags : Range
trade_flags = 0 ⋯ 3

abbrev pub order_flags : Range
order_flags = 0 ⋯ 7

abbrev pub due_time : Range
due_time = 0 ⋯ (time_most + settlement_seconds)

-- a balance, a settlement and a cash row's amount, either way from zero
abbrev pub money_most : ℕ
money_most = 999_999_999_999_999

-- ---- a row's fields by their order in the grid
abbrev pub values : Row → List ℕ
values r =
    r.kind ∷ r.form ∷ r.status ∷ r.flags ∷ r.party ∷ r.id ∷ symbol_number r.symbol ∷ r.n1 ∷ r.n2 ∷ r.n3
    ∷ r.n4 ∷ r.m1
    ∷ r.m2
    ∷ r.time ∷ r.n5 ∷ []

-- and a range for each, the fields that are not named unused
pub record Entry : Type 0 where
  pub field : ℕ
  pub range : Range

infix 75 ◌∈◌
abbrev pub ◌∈◌ : ℕ → Range → Entry
i ∈ g = record { field = i; range = g }

abbrev entered : List Range → List Entry → List Range
entered gs [] = gs
entered gs (e ∷ es) = entered (set gs e.field e.range) es

abbrev pub only : List Entry → List Range
only es = entered (replicate 15 unused) es

abbrev pub kind : ℕ
kind = 0

abbrev pub form : ℕ
form = 1

abbrev pub status : ℕ
status = 2

abbrev pub flags : ℕ
flags = 3

abbrev pub party : ℕ
party = 4

abbrev pub id : ℕ
id = 5

abbrev pub symbol : ℕ
symbol = 6

abbrev pub n1 : ℕ
n1 = 7

abbrev pub n2 : ℕ
n2 = 8

abbrev pub n3 : ℕ
n3 = 9

abbrev pub n4 : ℕ
n4 = 10

abbrev pub m1 : ℕ
m1 = 11

abbrev pub m2 : ℕ
m2 = 12

abbrev pub when : ℕ
when = 13

abbrev pub n5 : ℕ
n5 = 14

-- the ranges that a constant of the code gives
abbrev pub ranges : Limits → List Range
ranges l =
    (l.kind.0 ⋯ l.kind.1)
    ∷ (l.form.0 ⋯ l.form.1)
    ∷ (l.status.0 ⋯ l.status.1)
    ∷ (l.flags.0 ⋯ l.flags.1)
    ∷ (l.party.0 ⋯ l.party.1)
    ∷ (l.id.0 ⋯ l.id.1)
    ∷ (l.symbol.0 ⋯ l.symbol.1)
    ∷ (l.n1.0 ⋯ l.n1.1)
    ∷ (l.n2.0 ⋯ l.n2.1)
    ∷ (l.n3.0 ⋯ l.n3.1)
    ∷ (l.n4.0 ⋯ l.n4.1)
    ∷ (l.m1.0 ⋯ l.m1.1)
    ∷ (l.m2.0 ⋯ l.m2.1)
    ∷ (l.time.0 ⋯ l.time.1)
    ∷ (l.n5.0 ⋯ l.n5.1)
    ∷ []

-- ---- every value lies in its range
abbrev within : Range → ℕ → Bool
within g x = leb g.low x && leb x g.high

abbrev inside_from : Bool → List ℕ → List Range → Bool
inside_from t [] gs = t
inside_from t (x ∷ xs) [] = t
inside_from t (x ∷ xs) (g ∷ gs) = inside_from (t && within g x) xs gs

abbrev inside : List ℕ → List Range → Bool
inside [] gs = true
inside (x ∷ xs) [] = true
inside (x ∷ xs) (g ∷ gs) = inside_from (within g x) xs gs

-- shut: a chain of thirty comparisons, that nobody wants to see twice
unfoldable pub limited : Row → List Range → Bool
limited r gs = inside (values r) gs

-- the same as a proposition; at a row's fields and written-out ranges it computes to the bounds of each field
abbrev Inside : List ℕ → List Range → Type 0
Inside [] gs = Unit {0}
Inside (x ∷ xs) [] = Unit {0}
Inside (x ∷ xs) (g ∷ gs) = (g.low ≤ x) × (x ≤ g.high) × Inside xs gs

abbrev pub Limited : Row → List Range → Type 0
Limited r gs = Inside (values r) gs

means_within : (g : Range) (x : ℕ) → Means (within g x) ((g.low ≤ x) × (x ≤ g.high))
means_within g x = means_and (means_le g.low x) (means_le x g.high)

from_first : (t : Bool) (xs : List ℕ) (gs : List Range) → inside_from t xs gs ≡ true → t ≡ true
from_first t [] gs e = e
from_first t (x ∷ xs) [] e = e
from_first t (x ∷ xs) (g ∷ gs) e = and_left t (within g x) (from_first (t && within g x) xs gs e)

from_shows : (t : Bool) (xs : List ℕ) (gs : List Range) → inside_from t xs gs ≡ true → Inside xs gs
from_shows t [] gs e = tt
from_shows t (x ∷ xs) [] e = tt
from_shows t (x ∷ xs) (g ∷ gs) e =
    let here = (means_within g x).shows (and_right t (within g x) (from_first (t && within g x) xs gs e)) in
    (here.0, here.1, from_shows (t && within g x) xs gs e)

from_holds : (t : Bool) (xs : List ℕ) (gs : List Range) → t ≡ true → Inside xs gs → inside_from t xs gs ≡ true
from_holds t [] gs e h = e
from_holds t (x ∷ xs) [] e h = e
from_holds t (x ∷ xs) (g ∷ gs) e h =
    from_holds (t && within g x) xs gs (rw (e, (means_within g x).holds (h.0, h.1))) h.2

means_inside : (xs : List ℕ) (gs : List Range) → Means (inside xs gs) (Inside xs gs)
means_inside [] gs = record { shows = λ e. tt; holds = λ h. refl }
means_inside (x ∷ xs) [] = record { shows = λ e. tt; holds = λ h. refl }
means_inside (x ∷ xs) (g ∷ gs) =
    let here = means_within g x in
    record {
      shows = λ e.
          let at = here.shows (from_first (within g x) xs gs e) in
          (at.0, at.1, from_shows (within g x) xs gs e);
      holds = λ h. from_holds (within g x) xs gs (here.holds (h.0, h.1)) h.2;
    }

pub means_limited : (r : Row) (gs : List Range) → Means (limited r gs) (Limited r gs)
unfolding limited
means_limited r gs = means_inside (values r) gs
