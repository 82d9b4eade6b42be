-- The rows that a result leaves where it is done, and S2 to S7, S9 and S10 of them. Assumes nothing.
use Rattle.std.specs.Prelude.{◌≡◌, true, List, ◌≤◌, length}
use Rattle.std.proofs.Math.Path.{refl}
use Rattle.std.proofs.Common.{arith}
use Rattle.laws.specs.Change.{puts}
use Rattle.laws.specs.Search.{count}
use Rattle.record.specs.declared.row.Row.{Row}
use Rattle.model.specs.Lots.{closings}
use Rattle.model.specs.Names.{a_broker, a_summary}
use Rattle.model.specs.Result.{figures, posting, sums_of, view}
use Rattle.model.specs.Rows.{found, nothing, same_row}
use Rattle.model.specs.Sound.{sound}
use Rattle.model.specs.SoundMeans.{S10, S2, S3, S4, S5, S6, S7, S9}
use Rattle.facts.specs.Result.{Read}
use Rattle.facts.proofs.Result.{reads}
use Rattle.facts.specs.Posted.{writes}
use Rattle.preserved.specs.ResultBase.{Accepted, posting_of, room_is}
use Rattle.preserved.specs.ResultKeys.{keys_left}
use Rattle.preserved.specs.ResultNames.{bands_left, names_left, rates_left}
use Rattle.preserved.specs.ResultSettled.{settlements_left}
use Rattle.preserved.specs.ResultStatus.{histories_left, lot_histories_left, requests_left}

module _ (rs : List Row) (input : Row) (good : sound rs ≡ true) (ok : Accepted rs input) where
  -- what the result read, and that there is room
  abbrev pub read : let v = view rs input in
      Read rs v.trade v.summary v.account (found (a_broker v.account.n1) rs)
      (closings v.trade.n1 v.lots)
  read = reads rs input good ok.live ok.sent

  summary_own : let v = view rs input in
      v.summary ≡ found (a_summary v.trade.party v.trade.symbol) rs
  unfolding view
  summary_own = refl

  pub space : length (posting_of rs input).added ≤ count (same_row nothing) rs
  space = let e = room_is rs good in let s = ok.space in omega arith

  abbrev pub result_leaves : List Row
  result_leaves = puts same_row (writes (posting_of rs input)) rs

  pub s2_result : S2 result_leaves
  unfolding posting
  s2_result = keys_left read (sums_of input (figures input (view rs input))) summary_own space

  pub s3_result : S3 result_leaves
  unfolding posting
  s3_result = names_left read (sums_of input (figures input (view rs input))) space

  pub s4_result : S4 result_leaves
  unfolding posting
  s4_result = bands_left read (sums_of input (figures input (view rs input))) space

  pub s5_result : S5 result_leaves
  unfolding posting
  s5_result = rates_left read (sums_of input (figures input (view rs input))) space

  pub s6_result : S6 result_leaves
  unfolding posting
  s6_result = requests_left read (sums_of input (figures input (view rs input))) summary_own space

  pub s7_result : S7 result_leaves
  unfolding posting
  s7_result = histories_left read (sums_of input (figures input (view rs input))) summary_own space

  pub s9_result : S9 result_leaves
  unfolding posting
  s9_result = settlements_left read (sums_of input (figures input (view rs input))) summary_own space

  pub s10_result : S10 result_leaves
  unfolding posting
  s10_result = lot_histories_left read (sums_of input (figures input (view rs input))) summary_own space
