-- "Status numbers, in order of checking": cases in which two refusals or more are due, and the one that is given. One
-- table and one claim, which the checker computes. Assumes nothing.
use Rattle.std.specs.Prelude.{◌≡◌, refl, List, [], ◌∷◌, ◌++◌, map, ℕ, ℤ, pos, neg_ℤ, drop, replicate}
use Rattle.laws.specs.Search.{keep}
use Rattle.record.specs.Codes.{kind_band, kind_charge}
use Rattle.record.specs.Grid.{encode}
use Rattle.record.specs.Symbol.{spelling, symbol_number}
use Rattle.record.specs.declared.row.Row.{Row}
use Rattle.record.specs.declared.symbol.Symbol.{Symbol}
use Rattle.rules.specs.Ranges.{id, n1, party, symbol}
use Rattle.model.specs.Call.{feed_call, lookup_call, order_call, result_call}
use Rattle.model.specs.Edit.{◌≔◌, changed}
use Rattle.model.specs.Evaluate.{feed_opened, lookup_opened, order_opened, result_opened}
use Rattle.model.specs.Rows.{bytes}
use Rattle.model.specs.Sample.{abc, at_limits, by_executor, day, entry_at, gaining_by, last_number, lookup_of, order_for}
use Rattle.model.specs.Sample.{order_of, permission, result_at, selling, unrated, without}
use Rattle.model.specs.Status.{number}

pub data Case : Type 0 where
  an_order a_result a_feed a_lookup : List ℕ → List ℕ → Case

abbrev area : List ℕ
area = replicate 64 7

unfoldable pub given : Case → ℤ
unfolding keep order_opened result_opened feed_opened lookup_opened
given (an_order b i) = number (order_call b i area).status
given (a_result b i) = number (result_call b i area).status
given (a_feed b i) = number (feed_call b i area).status
given (a_lookup b i) = number (lookup_call b i (replicate 128 7)).status

pub record Refusal : Type 0 where
  pub case : Case
  pub status : ℕ

infix 50 ◌gives◌
abbrev ◌gives◌ : Case → ℕ → Refusal
c gives n = record { case = c; status = n }

abbrev order : List Row → Row → Case
order rs i = an_order (bytes rs) (encode i)

abbrev result : List Row → Row → Case
result rs i = a_result (bytes rs) (encode i)

abbrev feed : List Row → List Row → Case
feed rs is = a_feed (bytes rs) (bytes is)

abbrev lookup : List Row → Row → Case
lookup rs i = a_lookup (bytes rs) (encode i)

-- not sound: its first row is twice there
abbrev twice : List Row → List Row
twice [] = []
twice (r ∷ rs) = r ∷ r ∷ rs

abbrev unknown : Symbol
unknown = spelling (0x5a ∷ [])

abbrev bare : List Row → List Row
bare rs = without kind_charge (without kind_band rs)

abbrev pub table : List Refusal
table =
    -- the shell: length, book length, soundness, fields
    (a_result [] [] gives 100)
    ∷ (a_result (drop 1 (bytes (twice day))) (encode (result_at 0)) gives 101)
    ∷ (result (twice day) (result_at 0) gives 102)
    ∷ (result day (changed (result_at 0) (id ≔ 77 ∷ [])) gives 103)
    ∷ (order day (by_executor 1_000_000_000 (order_for abc 5)) gives 103)
    ∷ (order (changed permission (party ≔ 9 ∷ []) ∷ day) (order_for abc 5) gives 102)
    ∷ (order (changed permission (n1 ≔ 0 ∷ []) ∷ day) (order_for abc 5) gives 102)
    -- order: account, permission, security, tax, band or its rate, charge, number, room
    ∷ (order (permission ∷ day) (by_executor 7 (order_of 1 9 unknown 5)) gives 711)
    ∷ (order (bare day) (by_executor 7 (order_for unknown 5)) gives 721)
    ∷ (order (permission ∷ bare day) (by_executor 8 (order_for unknown 5)) gives 721)
    ∷ (order (permission ∷ selling 1 120 0) (by_executor 1 (order_for abc 5)) gives 721)
    ∷ (order (permission ∷ bare day) (by_executor 7 (order_for unknown 5)) gives 712)
    ∷ (order (bare day) (order_for unknown 5) gives 712)
    ∷ (order (bare (gaining_by 0 2_998)) (order_of 2 1 abc 1) gives 731)
    ∷ (order (without kind_charge (unrated day)) (order_for abc 5) gives 732)
    ∷ (order (bare day) (order_for abc 5) gives 735)
    ∷ (order (without kind_charge (unrated day)) (order_for abc 1_001) gives 735)
    ∷ (order (without kind_charge (last_number ++ day)) (order_for abc 5) gives 733)
    ∷ (order (last_number ++ selling 1 120 0) (order_for abc 5) gives 104)
    ∷ (order (selling 1 120 1) (order_for abc 5) gives 105)
    -- result: trade, its status, tax, band or its rate, limits, room
    ∷ (result day (changed (result_at 3_000) (id ≔ 77 ∷ [])) gives 811)
    ∷ (result (bare day) (changed (result_at 3_000) (id ≔ 20 ∷ [])) gives 812)
    ∷ (result (bare (gaining_by 0 2_998)) (result_at 3_000) gives 831)
    ∷ (result (unrated (at_limits (selling 1 120 0))) (result_at 3_000) gives 841)
    ∷ (result (bare (at_limits (selling 1 120 0))) (result_at 3_000) gives 842)
    ∷ (result (unrated (at_limits (selling 1 1_001 0))) (result_at 3_000) gives 842)
    ∷ (result (at_limits (selling 1 120 0)) (result_at 3_000) gives 104)
    ∷ (result (selling 1 120 0) (result_at 3_000) gives 105)
    -- feed: security, volume, room
    ∷ (feed (at_limits day) (entry_at 500 ∷ changed (entry_at 500) (symbol ≔ symbol_number unknown ∷ []) ∷ []) gives 311)
    ∷ (feed (at_limits (last_number ++ without 0 day)) (entry_at 400 ∷ []) gives 104)
    ∷ (feed (last_number ++ without 0 day) (entry_at 400 ∷ []) gives 105)
    -- lookup
    ∷ (lookup day (lookup_of 0) gives 103)
    ∷ (lookup day (lookup_of 77) gives 611)
    ∷ []

-- the first of the table's conditions that holds gives the status
pub refusals_in_order :
    map (λ (f : Refusal). given f.case) table ≡ map (λ (f : Refusal). neg_ℤ (pos f.status)) table
unfolding given
refusals_in_order = refl
