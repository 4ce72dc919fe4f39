use mathlib.Core.Path.{sym, ◌∙◌}
use Rattle.verdict.proofs.judge_one.Goals as goal

-- `verdict::judge_one` meets its contract.
pub returns-then-is_well_formed : goal.returns-then-is_well_formed
returns-then-is_well_formed c = rw (sym c.is_well_formed.ensures ∙ c.if-is_well_formed.true)

pub returns : goal.returns
returns c = rw (sym c.is_well_formed.ensures ∙ c.if-is_well_formed.false)
