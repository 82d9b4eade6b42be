-- An accepted result leaves a sound book: S1 to S10 together. Assumes nothing.
use Rattle.std.specs.Prelude.{◌≡◌, true, List, ◌≤◌, length}
use Rattle.record.specs.declared.row.Row.{Row}
use Rattle.rules.specs.Rules.{result_input}
use Rattle.model.specs.Status.{is_done}
use Rattle.model.specs.Result.{result}
use Rattle.model.specs.Rows.{most_records}
use Rattle.model.specs.Sound.{sound}
use Rattle.model.specs.SoundMeans.{means_sound}
use Rattle.preserved.specs.ResultBase.{accepted_all, result_writes}
use Rattle.preserved.specs.ResultFitsWhole.{s1_result, s8_result}
use Rattle.preserved.specs.ResultLeft.{result_leaves, s10_result, s2_result, s3_result, s4_result, s5_result}
use Rattle.preserved.specs.ResultLeft.{s6_result, s7_result, s9_result}

pub result_sound : (rs : List Row) (input : Row) → length rs ≤ most_records → sound rs ≡ true → result_input input ≡ true
    → is_done (result rs input).status ≡ true → sound (result rs input).rows ≡ true
result_sound rs input few good right done =
    let ok = accepted_all rs input done in
    rw (result_writes rs input good ok)
    ((means_sound (result_leaves rs input good ok)).holds
    (record {
      s1 = s1_result rs input good right few ok;
      s2 = s2_result rs input good ok;
      s3 = s3_result rs input good ok;
      s4 = s4_result rs input good ok;
      s5 = s5_result rs input good ok;
      s6 = s6_result rs input good ok;
      s7 = s7_result rs input good ok;
      s8 = s8_result rs input good right few ok;
      s9 = s9_result rs input good ok;
      s10 = s10_result rs input good ok;
    }))
