-- By what is named, and the sum.
use Rattle.std.proofs.Common.{ap, ◌∙◌}
use Rattle.kinds.specs.Kinds.{summary_of}
use Rattle.clauses.proofs.own.kept.Goals as goal

pub returns : goal.returns
unfolding summary_of
returns c =
    let summary = c.from_bytes-s.ensures ∙ ap summary_of c.part.ensures.1 in
    rw (c.traded.ensures, c.summed.ensures, summary)
