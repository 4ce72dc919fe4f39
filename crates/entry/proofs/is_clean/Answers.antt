use mathlib.Core.Path.{◌∙◌}
use Rattle.entry.proofs.Fields.{pad_part}
use Rattle.entry.proofs.is_clean.Goals as goal

pub returns : goal.returns
returns c = let a = c.args in c.is_zero.ensures ∙ pad_part a.s.now a.at
