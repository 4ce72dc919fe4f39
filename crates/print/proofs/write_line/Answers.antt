use mathlib.Core.Path.{◌∙◌}
use lib.ListN.{length-set}
use Rattle.print.specs.Text.{decimal}
use Rattle.print.proofs.Lines.{line-written}
use Rattle.print.proofs.write_line.Goals as goal

pub shape_of-d : goal.shape_of-d
shape_of-d c = simp length-set (c.write_number-end.auto.d ∙ c.copy_at.auto.d)

pub returns : goal.returns
returns c =
    let w = c.write_number-end in
    line-written c.args.d.now _ _ c.args.name.now (decimal c.args.n) c.args.at w.result c.requires c.copy_at.ensures w.ensures
