use mathlib.Core.Path.{sym, ap, ◌∙◌}
use Rattle.walk_calls.specs.Walked.{end_sector}
use Rattle.walk_calls.proofs.end_sector.Goals as goal

pub returns-in-Ok : goal.returns-in-Ok
returns-in-Ok c = sym (ap end_sector c.in-Ok.is)

pub returns-in-Err : goal.returns-in-Err
returns-in-Err c = c.told_sector.ensures ∙ sym (ap end_sector c.in-Err.is)
