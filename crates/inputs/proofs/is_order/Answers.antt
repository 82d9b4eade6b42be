-- The rule of the input is the table's by computation.
use Rattle.std.proofs.Common.{ap, ◌∙◌}
use Rattle.rules.specs.Rules.{order_input, order_input_shape}
use Rattle.inputs.proofs.is_order.Goals as goal

pub returns : goal.returns
unfolding order_input_shape
returns c = c.obeys.ensures ∙ ap order_input c.read.ensures
