use mathlib.Core.Path.{sym, ap, ◌∙◌, subst}
use Rattle.block.specs.Log.{addressable}
use Rattle.leaf.specs.Fetch.{LiesIn, run_in}
use Rattle.leaf.proofs.run_in.Goals as goal

pub leaf_run-requires : goal.leaf_run-requires
leaf_run-requires c =
    let p = c.requires in
    (p.0, p.1, subst (LiesIn addressable) c.in_ok-look.was p.2)

pub returns : goal.returns
returns c =
    let a = c.args in
    c.leaf_run.ensures ∙ sym (ap (run_in a.page a.e a.offset) c.in_ok-look.was)
