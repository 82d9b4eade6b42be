-- An accepted feed leaves a sound book: S1 to S10 together. Assumes nothing.
use Rattle.std.specs.Prelude.{◌≡◌, true, List}
use Rattle.laws.specs.Search.{every}
use Rattle.record.specs.declared.row.Row.{Row}
use Rattle.rules.specs.Rules.{feed_input}
use Rattle.model.specs.Status.{is_done}
use Rattle.model.specs.Feed.{fed, feed, swept}
use Rattle.model.specs.Sound.{sound}
use Rattle.model.specs.SoundMeans.{means_sound}
use Rattle.preserved.specs.FeedDone.{feed_done, feed_leads}
use Rattle.preserved.specs.FeedFits.{s1_feed}
use Rattle.preserved.specs.FeedKeys.{s2_feed, s7_feed}
use Rattle.preserved.specs.FeedRequests.{s6_feed}
use Rattle.preserved.specs.FeedRest.{s10_feed, s3_feed, s4_feed, s5_feed, s8_feed, s9_feed}

pub feed_sound : (rs es : List Row) → sound rs ≡ true → every feed_input es ≡ true
    → is_done (feed rs es).status ≡ true → sound (feed rs es).rows ≡ true
feed_sound rs es good inputs done =
    let book = (means_sound rs).shows good in
    let d = feed_done rs es done in
    let lead = feed_leads rs es good inputs d in
    rw d.rows
    ((means_sound (swept (fed rs es).rows)).holds
    (record {
      s1 = s1_feed book lead;
      s2 = s2_feed book lead;
      s3 = s3_feed book lead;
      s4 = s4_feed book lead;
      s5 = s5_feed book lead;
      s6 = s6_feed book lead;
      s7 = s7_feed book lead;
      s8 = s8_feed book lead;
      s9 = s9_feed book lead;
      s10 = s10_feed book lead;
    }))
