-- The balance is changed exactly where the trade is cash.
use Rattle.std.proofs.Common.{refl, sym, ◌∙◌}
use Rattle.kinds.specs.Written.{account_row}
use Rattle.changed.specs.Change.{one_stays, one_turned, unturned}
use Rattle.changed.proofs.change_account.Goals as goal

pub change-requires-clause-row_value : goal.change-requires-clause-row_value
unfolding account_row
change-requires-clause-row_value c =
    one_stays _ _ _ c.requires (sym c.is_cash.ensures ∙ c.if-is_cash.true) refl c.account_after.ensures

pub returns-then-is_cash : goal.returns-then-is_cash
returns-then-is_cash c =
    one_turned _ _ _ c.requires (sym c.is_cash.ensures ∙ c.if-is_cash.true) c.account_after.ensures
    c.change.ensures.book_after c.change.ensures.directory_2

pub returns-else-is_cash : goal.returns-else-is_cash
returns-else-is_cash c = unturned _ _ _ c.requires (sym c.is_cash.ensures ∙ c.if-is_cash.false)
