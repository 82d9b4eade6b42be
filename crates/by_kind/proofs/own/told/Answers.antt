-- By the kind.
use Rattle.std.proofs.Common.{◌∙◌}
use Rattle.by_kind.specs.Told.{summary_told}
use Rattle.by_kind.proofs.own.told.Goals as goal

pub returns-then-kind-eq-SUMMARY : goal.returns-then-kind-eq-SUMMARY
returns-then-kind-eq-SUMMARY c =
    let summary = c.if-kind-eq-SUMMARY.true in
    summary_told _ _ c.requires.i_bound.0 (c.requires.i_bound.1 ∙ summary) (c.requires.book_value summary) c.kept.ensures
