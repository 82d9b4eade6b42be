-- By the account that is found.
use Rattle.std.proofs.Common.{ap, refl, ◌∙◌}
use Rattle.record.specs.declared.row.Row.{Row}
use Rattle.kinds.specs.Kinds.{account_of}
use Rattle.kinds.specs.declared.rows.Account.{Account}
use Rattle.directory.specs.Found.{key_row}
use Rattle.by_name.proofs.trade.broker_of.Goals as goal

pub returns : goal.returns
unfolding account_of
returns c =
    ap (λ (a : Account). a.broker.0) c.typed_at.ensures
    ∙ ap (λ (r : Row). r.n1) (key_row _ _ c.account.ensures refl)
