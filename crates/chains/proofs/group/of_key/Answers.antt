-- Field by field; the status counts but for a history.
use Rattle.std.proofs.Common.{◌∙◌, eq-eqb, ne_eqb}
use Rattle.chains.specs.Group.{key_group}
use Rattle.chains.proofs.group.of_key.Goals as goal

pub returns-then-key-eq-TRADE_HISTORY : goal.returns-then-key-eq-TRADE_HISTORY
unfolding key_group
returns-then-key-eq-TRADE_HISTORY c = c.of_fields.ensures ∙ rw (eq-eqb _ _ c.if-key-eq-TRADE_HISTORY.true)

pub returns : goal.returns
unfolding key_group
returns c = c.of_fields-2.ensures ∙ rw (ne_eqb _ _ c.if-key-eq-TRADE_HISTORY.false)
