use mathlib.Core.Path.{sym, ap, ◌∙◌}
use Rattle.difference.specs.Difference.{answer_of}
use Rattle.difference.proofs.number.Goals as goal

pub returns-in-Err : goal.returns-in-Err
returns-in-Err c = c.number.ensures ∙ sym (ap answer_of c.in-Err.is)

pub returns-in-Ok : goal.returns-in-Ok
returns-in-Ok c = sym (ap answer_of c.in-Ok.is)
