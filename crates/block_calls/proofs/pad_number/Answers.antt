use mathlib.Core.Path.{sym, ap, ◌∙◌}
use Rattle.block_calls.specs.Blocks.{pad_number}
use Rattle.block_calls.proofs.pad_number.Goals as goal

pub returns-in-Err : goal.returns-in-Err
returns-in-Err c = c.number.ensures ∙ sym (ap pad_number c.in-Err.is)
