use mathlib.Core.Path.{sym, ap, ◌∙◌}
use Rattle.writer.specs.WriteFile.{end_number}
use Rattle.writer_calls.proofs.end_number.Goals as goal

pub returns-in-Err : goal.returns-in-Err
returns-in-Err c = c.number.ensures ∙ sym (ap end_number c.in-Err.is)
