-- A test of each place of the kind.
use Rattle.std.proofs.Common.{rules}
use Rattle.by_kind.specs.Tested.{fit_tested}
use Rattle.by_kind.proofs.own.fit.Goals as goal

pub returns : goal.returns
returns c = fit_tested c.every.ensures (λ j x told. search rules)
