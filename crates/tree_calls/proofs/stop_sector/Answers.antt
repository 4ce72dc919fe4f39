use mathlib.Core.Path.{sym, ap, ◌∙◌}
use Rattle.tree_calls.specs.Tree.{stop_sector}
use Rattle.tree_calls.proofs.stop_sector.Goals as goal

pub returns-in-Ok : goal.returns-in-Ok
returns-in-Ok c = sym (ap stop_sector c.in-Ok.is)

pub returns-in-Err : goal.returns-in-Err
returns-in-Err c = c.told_sector.ensures ∙ sym (ap stop_sector c.in-Err.is)
