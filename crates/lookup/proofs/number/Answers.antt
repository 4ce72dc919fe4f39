use mathlib.Core.Path.{sym, ap, ◌∙◌}
use Rattle.sector_log.specs.LookUp.{look_number}
use Rattle.lookup.proofs.number.Goals as goal

pub returns-in-Ok : goal.returns-in-Ok
returns-in-Ok c =
    sym (ap look_number (c.in-Ok.is))

pub returns-in-Err : goal.returns-in-Err
returns-in-Err c =
    c.number.ensures ∙ sym (ap look_number (c.in-Err.is))
