-- The two statuses.
use Rattle.std.proofs.Common.{ap, ◌∙◌}
use Rattle.kinds.specs.Kinds.{trade_of}
use Rattle.clauses.proofs.hung.reached.Goals as goal

pub returns : goal.returns
unfolding trade_of
returns c = rw (c.past.ensures, c.from_bytes-t.ensures ∙ ap trade_of c.part.ensures.1)
