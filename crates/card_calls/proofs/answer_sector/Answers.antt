use mathlib.Core.Path.{sym, ap, ◌∙◌}
use Rattle.card_calls.specs.Search.{answer_sector}
use Rattle.card_calls.proofs.answer_sector.Goals as goal

pub returns-in-Err : goal.returns-in-Err
returns-in-Err c = c.told_sector.ensures ∙ sym (ap answer_sector c.in-Err.is)
