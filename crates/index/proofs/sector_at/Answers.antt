use mathlib.Core.Path.{◌∙◌}
use Rattle.index.proofs.Read.{sector_is}
use Rattle.index.proofs.sector_at.Goals as goal

pub returns : goal.returns
returns c =
    let a = c.args in
    c.be_number.ensures ∙ sector_is a.index.now a.p c.requires
