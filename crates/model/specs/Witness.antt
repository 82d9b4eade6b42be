-- Nothing here is vacuous: a sound book, found sound by computation, on which each call is accepted. Assumes nothing.
use Rattle.std.specs.Prelude.{◌≡◌, refl, true, replicate}
use Rattle.record.specs.Grid.{encode}
use Rattle.model.specs.declared.Status.TheVariants.{Done}
use Rattle.model.specs.Call.{feed_call, lookup_call, order_call, result_call}
use Rattle.model.specs.Evaluate.{feed_opened, lookup_opened, order_opened, result_opened, sound_opened}
use Rattle.model.specs.Rows.{bytes}
use Rattle.model.specs.Sample.{day, entry_at, lookup_of, order_for, result_at, seven}
use Rattle.model.specs.Sound.{sound}
use Rattle.model.specs.SoundMeans.{SoundBook, means_sound}

pub day_sound : sound day ≡ true
unfolding sound_opened
day_sound = refl

-- so every rule holds of it, as a proposition
pub day_is_sound : SoundBook day
day_is_sound = (means_sound day).shows day_sound

pub order_accepted : (order_call (bytes day) (encode (order_for seven 5)) (replicate 64 7)).status ≡ Done
unfolding order_opened
order_accepted = refl

pub result_accepted : (result_call (bytes day) (encode (result_at 3_000)) (replicate 64 7)).status ≡ Done
unfolding result_opened
result_accepted = refl

pub feed_accepted : (feed_call (bytes day) (encode (entry_at 500)) (replicate 64 7)).status ≡ Done
unfolding feed_opened
feed_accepted = refl

pub lookup_accepted : (lookup_call (bytes day) (encode (lookup_of 11)) (replicate 128 7)).status ≡ Done
unfolding lookup_opened
lookup_accepted = refl
