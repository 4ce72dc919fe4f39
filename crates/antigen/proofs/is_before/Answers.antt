use mathlib.Core.Path.{◌∙◌}
use Rattle.antigen.proofs.Names.{before-less}
use Rattle.antigen.proofs.is_before.Goals as goal

-- `antigen::is_before` meets its contract: the library's order of slices is that of names.
pub returns : goal.returns
returns c = c.lt.ensures ∙ before-less c.args.a.now c.args.b.now
