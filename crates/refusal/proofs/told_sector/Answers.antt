use mathlib.Core.Path.{sym, ap, ◌∙◌}
use Rattle.refusal.specs.Number.{sector_at}
use Rattle.refusal.proofs.told_sector.Goals as goal

pub returns-in-Some : goal.returns-in-Some
returns-in-Some c = ap sector_at (sym c.in-Some.is ∙ c.doubt_of-doubt.ensures)

pub returns-in-None : goal.returns-in-None
returns-in-None c = ap sector_at (sym c.in-None.is ∙ c.doubt_of-doubt.ensures)
