-- The area is large enough for the directory, and blank.
use Rattle.std.proofs.Common.{refl, arith}
use Rattle.directory.specs.Directory.{blank_of}
use Rattle.sound.proofs.whole.sound_in.Goals as goal

pub build-requires-clause-blank : goal.build-requires-clause-blank
build-requires-clause-blank g c = blank_of _ _ _ refl (omega arith) (omega arith)
