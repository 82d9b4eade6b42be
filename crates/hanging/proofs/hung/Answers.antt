-- A test of each trade.
use Rattle.std.proofs.Common.{rules}
use Rattle.by_kind.specs.Tested.{hung_tested}
use Rattle.hanging.proofs.hung.Goals as goal

pub returns : goal.returns
returns c = hung_tested c.every.ensures (λ j x told. search rules)
