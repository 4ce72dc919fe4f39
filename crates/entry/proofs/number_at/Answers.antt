use mathlib.Core.Path.{◌∙◌}
use Rattle.entry.proofs.Fields.{field_part}
use Rattle.entry.proofs.number_at.Goals as goal

pub returns : goal.returns
returns c =
    let a = c.args in
    c.be_number.ensures ∙ field_part a.s.now a.at a.width
