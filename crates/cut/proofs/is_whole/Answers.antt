use mathlib.Core.Path.{sym, ap, ◌∙◌}
use mathlib.Core.Bool.{not}
use Rattle.cut.proofs.Tests.{whole-scores, whole-bytes}
use Rattle.cut.proofs.is_whole.Goals as goal

pub returns-then-not-is_pointer : goal.returns-then-not-is_pointer
returns-then-not-is_pointer c =
    let a = c.args in
    ap not c.if-not-is_pointer.true ∙ whole-bytes a.kind a.n (sym c.is_pointer.ensures ∙ c.if-not-is_pointer.true)

pub returns-else-not-is_pointer : goal.returns-else-not-is_pointer
returns-else-not-is_pointer c =
    let a = c.args in
    whole-scores a.kind a.n (sym c.is_pointer.ensures ∙ c.if-not-is_pointer.false)
