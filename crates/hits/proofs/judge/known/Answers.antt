-- The place of a security that is there is inside the book.
use Rattle.hits.specs.Judge.{known_is}
use Rattle.hits.proofs.judge.known.Goals as goal

pub returns : goal.returns
returns c = known_is _ _ _ c.typed_at.ensures c.security.ensures c.places.ensures
