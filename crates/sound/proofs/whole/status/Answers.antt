-- The length, and then the rules.
use Rattle.std.proofs.Common.{ap, not}
use Rattle.sound.specs.Status.{bad_book, few_records, sound_book, unsound_book}
use Rattle.sound.proofs.whole.status.Goals as goal

pub returns-then-not-whole : goal.returns-then-not-whole
returns-then-not-whole c = bad_book _ _ c.whole.ensures (ap not c.if-not-whole.true)

pub sound-requires : goal.sound-requires
sound-requires c = few_records _ _ c.requires c.whole.ensures (ap not c.if-not-whole.false)

pub returns-then-sound : goal.returns-then-sound
returns-then-sound c =
    sound_book _ _ c.whole.ensures (ap not c.if-not-whole.false) c.sound.ensures c.if-sound.true

pub returns : goal.returns
returns c =
    unsound_book _ _ c.whole.ensures (ap not c.if-not-whole.false) c.sound.ensures c.if-sound.false
