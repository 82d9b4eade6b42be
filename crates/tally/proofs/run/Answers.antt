-- The book is what was read, and what is written is the answer to it.
use Rattle.std.proofs.Common.{◌≡◌, ℕ, List, Option, OnOk, Result, Ok, Err, subst}
use Rattle.std.specs.Io.KnownBytes.{Appends, Consumes}
use Rattle.tally.specs.Text.{answer}
use Rattle.tally.specs.Told.{IsTold}
use Rattle.tally.proofs.run.Goals as goal

told : {A E : Type 0} (r : Result A E) (i j o p : Option (List ℕ)) (b t : List ℕ)
    → Consumes i j b → t ≡ answer b → OnOk r (Appends o p t) → OnOk r (IsTold i j o p)
told (Ok x) i j o p b t c e h = (b, c, subst (Appends o p) e h)
told (Err x) i j o p b t c e h = h

pub returns : goal.returns
returns g c =
    told c.write_all.result _ _ _ _ _ _ c.read_full-n.ensures.taken c.answer-k.ensures.page_after c.write_all.ensures.bytes
