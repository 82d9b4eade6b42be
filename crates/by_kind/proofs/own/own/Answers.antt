-- A test of each place of the kind.
use Rattle.std.proofs.Common.{rules}
use Rattle.by_kind.specs.Tested.{own_tested}
use Rattle.by_kind.proofs.own.own.Goals as goal

pub returns : goal.returns
returns c = own_tested c.every.ensures c.requires.kind_le_last_kind.1 (λ j x told. search rules)
