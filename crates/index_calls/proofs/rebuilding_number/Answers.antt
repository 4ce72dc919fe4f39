use mathlib.Core.Path.{sym, ap, ◌∙◌}
use Rattle.hint.specs.Rebuilt.{rebuilding_number}
use Rattle.index_calls.proofs.rebuilding_number.Goals as goal

pub returns-in-Err : goal.returns-in-Err
returns-in-Err c = c.number.ensures ∙ sym (ap rebuilding_number c.in-Err.is)
