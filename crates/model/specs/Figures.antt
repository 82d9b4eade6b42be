-- "Figures to check against": one table of cases, and one claim about the rules, which the checker computes. Each
-- case goes through the call on its byte areas, so its book is found sound on the way. Assumes nothing.
use Rattle.std.specs.Prelude.{◌≡◌, refl, List, [], ◌∷◌, map, ℕ, ℤ, pos, neg_ℤ, replicate}
use Rattle.std.specs.Int.{w64}
use Rattle.std.proofs.Common.{to_z}
use Rattle.laws.specs.Search.{count}
use Rattle.record.specs.Bytes.{le}
use Rattle.record.specs.Codes.{kind_lot, kind_request, kind_summary, tms}
use Rattle.record.specs.Grid.{encode}
use Rattle.record.specs.declared.row.Row.{Row}
use Rattle.model.specs.Call.{Reply, feed_call, order_call, result_call}
use Rattle.model.specs.Evaluate.{feed_opened, order_opened, result_opened, tally_opened}
use Rattle.model.specs.Names.{a_lot, a_summary, a_trade}
use Rattle.model.specs.Rows.{bytes, found, is, rows}
use Rattle.model.specs.Sample.{abc, buying, by_executor, eight, entry_at, gaining, gaining_by, last_at, order_for}
use Rattle.model.specs.Sample.{order_of, permission, result_at, selling, seven, waiting}
use Rattle.model.specs.Status.{number}
use Rattle.model.specs.Tally.{tally}

pub data Case : Type 0 where
  a_result : List Row → Row → Case
  a_feed : List Row → Row → Case
  an_order : List Row → Row → Case

-- an answer area that was not clean
abbrev area : List ℕ
area = replicate 64 7

-- status, tax, commission, settlement, balance, the shares of lots 10, 11 and 12, and the summary; then how many lots
-- and summaries there are
abbrev after_result : Reply → List ℤ
after_result r =
    let rs = rows r.book in
    number r.status
    ∷ pos (le 8 r.answer 16)
    ∷ pos (found (a_trade 12) rs).m1
    ∷ to_z w64 (le 8 r.answer 48)
    ∷ to_z w64 (le 8 r.answer 40)
    ∷ to_z w64 (found (a_lot 10) rs).m1
    ∷ to_z w64 (found (a_lot 11) rs).m1
    ∷ to_z w64 (found (a_lot 12) rs).m1
    ∷ to_z w64 (found (a_summary 1 abc) rs).m1
    ∷ pos (count (is kind_lot) rs)
    ∷ pos (count (is kind_summary) rs)
    ∷ []

-- status, trades submitted, the status of trade 20, and how many requests there are
abbrev after_feed : Reply → List ℤ
after_feed r =
    let rs = rows r.book in
    number r.status ∷ pos (le 4 r.answer 28) ∷ pos (found (a_trade 20) rs).status
    ∷ pos (count (is kind_request) rs) ∷ []

-- status, and the commission of the trade that was added
abbrev after_order : Reply → List ℤ
after_order r = number r.status ∷ pos (found (a_trade (le 8 r.answer 8)) (rows r.book)).m1 ∷ []

unfoldable pub seen : Case → List ℤ
unfolding result_opened feed_opened order_opened
seen (a_result rs input) = after_result (result_call (bytes rs) (encode input) area)
seen (a_feed rs input) = after_feed (feed_call (bytes rs) (encode input) area)
seen (an_order rs input) = after_order (order_call (bytes rs) (encode input) area)

pub record Figure : Type 0 where
  pub case : Case
  pub outcome : List ℤ

infix 50 ◌gives◌
abbrev ◌gives◌ : Case → List ℤ → Figure
c gives o = record { case = c; outcome = o }

abbrev minus : ℕ → ℤ
minus n = neg_ℤ (pos n)

-- P1 to P9; beside P7 a row on rates of zero, and an order with a gain of 2 (2026-02); beside P9 orders on the book of
-- P1, with a permission for executor 7: by 7, by 8 and by the owner (2026-01); the two rows on free places
abbrev pub table : List Figure
table =
    (a_result (selling 1 120 6) (result_at 3_000) gives
    (pos 0 ∷ pos 22_000 ∷ pos 1_800 ∷ pos 335_700 ∷ pos 1_335_700 ∷ pos 0 ∷ pos 30 ∷ pos 0 ∷ pos 30 ∷ pos 1 ∷ pos 1
    ∷ []))
    ∷ (a_result (selling 3 120 6) (result_at 3_000) gives
    (pos 0 ∷ pos 19_000 ∷ pos 1_800 ∷ pos 338_700 ∷ pos 1_338_700 ∷ pos 30 ∷ pos 0 ∷ pos 0 ∷ pos 30 ∷ pos 1 ∷ pos 1
    ∷ []))
    ∷ (a_result (selling 1 150 6) (result_at 3_000) gives
    (pos 0 ∷ pos 25_000 ∷ pos 2_250 ∷ pos 422_250 ∷ pos 1_422_250 ∷ pos 0 ∷ pos 0 ∷ pos 0 ∷ pos 0
    ∷ pos 0 ∷ pos 0 ∷ []))
    ∷ (a_result (selling 1 200 8) (result_at 3_000) gives
    (pos 0 ∷ pos 25_000 ∷ pos 3_000 ∷ pos 571_500 ∷ pos 1_571_500 ∷ pos 0 ∷ pos 0 ∷ minus 50 ∷ minus 50 ∷ pos 1
    ∷ pos 1 ∷ []))
    ∷ (a_result (buying 80) (result_at 2_900) gives
    (pos 0 ∷ pos 1_000 ∷ pos 1_160 ∷ minus 234_660 ∷ pos 765_340 ∷ pos 0 ∷ pos 0 ∷ pos 30 ∷ pos 30 ∷ pos 1 ∷ pos 1
    ∷ []))
    ∷ (an_order (last_at 100) (order_for abc 1) gives (pos 0 ∷ pos 1 ∷ []))
    ∷ (an_order (last_at 99) (order_for abc 1) gives (pos 0 ∷ pos 0 ∷ []))
    ∷ (a_result (gaining 2_997) (result_at 3_000) gives
    (pos 0 ∷ pos 1 ∷ pos 15 ∷ pos 2_484 ∷ pos 1_002_484 ∷ pos 0 ∷ pos 0 ∷ pos 0 ∷ pos 0 ∷ pos 0 ∷ pos 0 ∷ []))
    ∷ (a_result (gaining 2_998) (result_at 3_000) gives
    (pos 0 ∷ pos 0 ∷ pos 15 ∷ pos 2_485 ∷ pos 1_002_485 ∷ pos 0 ∷ pos 0 ∷ pos 0 ∷ pos 0 ∷ pos 0 ∷ pos 0 ∷ []))
    ∷ (a_result (gaining_by 0 2_998) (result_at 3_000) gives
    (minus 831 ∷ pos 0 ∷ pos 0 ∷ pos 0 ∷ pos 0 ∷ pos 1 ∷ pos 0 ∷ pos 0 ∷ pos 1 ∷ pos 1 ∷ pos 1 ∷ []))
    ∷ (an_order (gaining 2_998) (order_of tms 1 abc 1) gives (pos 0 ∷ pos 15 ∷ []))
    ∷ (a_feed waiting (entry_at 500) gives (pos 0 ∷ pos 1 ∷ pos 2 ∷ pos 0 ∷ []))
    ∷ (a_feed waiting (entry_at 501) gives (pos 0 ∷ pos 0 ∷ pos 1 ∷ pos 1 ∷ []))
    ∷ (an_order waiting (order_for seven 5) gives (pos 0 ∷ pos 3 ∷ []))
    ∷ (an_order waiting (order_for eight 5) gives (minus 103 ∷ pos 0 ∷ []))
    ∷ (an_order (permission ∷ selling 1 120 6) (by_executor 7 (order_for abc 1)) gives (pos 0 ∷ pos 15 ∷ []))
    ∷ (an_order (permission ∷ selling 1 120 6) (by_executor 8 (order_for abc 1)) gives (minus 721 ∷ pos 0 ∷ []))
    ∷ (an_order (permission ∷ selling 1 120 6) (order_for abc 1) gives (pos 0 ∷ pos 15 ∷ []))
    ∷ (a_result (selling 1 120 5) (result_at 3_000) gives
    (pos 0 ∷ pos 22_000 ∷ pos 1_800 ∷ pos 335_700 ∷ pos 1_335_700 ∷ pos 0 ∷ pos 30 ∷ pos 0 ∷ pos 30 ∷ pos 1 ∷ pos 1
    ∷ []))
    ∷ (a_result (selling 1 120 4) (result_at 3_000) gives
    (minus 105 ∷ pos 0 ∷ pos 0 ∷ pos 0 ∷ pos 0 ∷ pos 100 ∷ pos 50 ∷ pos 0 ∷ pos 150 ∷ pos 2 ∷ pos 1 ∷ []))
    ∷ []

-- the rules give the figures
pub figures_hold : map (λ (f : Figure). seen f.case) table ≡ map (λ (f : Figure). f.outcome) table
unfolding seen
figures_hold = refl

-- the tally picture
pub tally_picture : tally (selling 1 120 6)
    ≡ (0 ∷ 0 ∷ 2 ∷ []) ∷ (0 ∷ 1 ∷ 0 ∷ []) ∷ (0 ∷ 0 ∷ 0 ∷ []) ∷ (0 ∷ 0 ∷ 0 ∷ [])
    ∷ (0 ∷ 0 ∷ 0 ∷ []) ∷ []
unfolding tally_opened
tally_picture = refl
