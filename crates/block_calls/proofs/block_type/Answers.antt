use mathlib.Core.Path.{ap, ◌∙◌}
use Rattle.block_calls.specs.Blocks.{type_result}
use Rattle.block_calls.proofs.block_type.Goals as goal

pub returns-in-Ok : goal.returns-in-Ok
returns-in-Ok c = ap type_result c.in-Ok.ensures

pub returns-in-Err : goal.returns-in-Err
returns-in-Err c = c.number.ensures ∙ ap type_result c.in-Err.ensures
