-- The rule of the input is the table's by computation.
use Rattle.std.proofs.Common.{ap, ◌∙◌}
use Rattle.rules.specs.Rules.{result_input, result_input_shape}
use Rattle.inputs.proofs.is_result.Goals as goal

pub returns : goal.returns
unfolding result_input_shape
returns c = c.obeys.ensures ∙ ap result_input c.read.ensures
