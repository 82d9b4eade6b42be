-- The row of the account with another balance.
use Rattle.kinds.specs.Written.{account_row}
use Rattle.written.proofs.account_after.Goals as goal

pub returns : goal.returns
unfolding account_row
returns c = rw c.from.ensures
