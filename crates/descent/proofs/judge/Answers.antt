use mathlib.Core.Path.{sym, ◌∙◌}
use Rattle.descent.specs.Parts.{judged_of}
use Rattle.descent.proofs.judge.Goals as goal

-- `descent::judge` meets its contract, case by case.
pub returns-then-is_well_formed : goal.returns-then-is_well_formed
unfolding judged_of
returns-then-is_well_formed c = rw (sym c.is_well_formed.ensures ∙ c.if-is_well_formed.true, c.if-e.true)

pub returns-then-e : goal.returns-then-e
unfolding judged_of
returns-then-e c = rw (sym c.is_well_formed.ensures ∙ c.if-is_well_formed.false, c.if-e.true)

pub returns : goal.returns
unfolding judged_of
returns c = rw c.if-e.false
