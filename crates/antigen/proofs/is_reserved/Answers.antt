use mathlib.Core.Path.{sym, ◌∙◌}
use Rattle.antigen.proofs.Names.{either, neither, two-words, third-word}
use Rattle.antigen.proofs.is_reserved.Goals as goal
use Rattle.antigen.proofs.is_reserved.Goals.{then-equal, else-equal}

pub returns-then-equal-2 : goal.returns-then-equal-2
returns-then-equal-2 c =
    two-words _ _ (elim c.if-equal.branch [
      | then-equal w ↦ either _ _ _ (sym c.equal.ensures ∙ w.if-equal.true) (w.value-is ∙ w.if-equal.true)
      | else-equal w ↦ neither _ _ _ (sym c.equal.ensures ∙ w.if-equal.false) (w.value-is ∙ w.equal-else-equal.ensures)
    ]) c.if-equal-2.true

pub returns-else-equal-2 : goal.returns-else-equal-2
returns-else-equal-2 c =
    third-word _ _ (elim c.if-equal.branch [
      | then-equal w ↦ either _ _ _ (sym c.equal.ensures ∙ w.if-equal.true) (w.value-is ∙ w.if-equal.true)
      | else-equal w ↦ neither _ _ _ (sym c.equal.ensures ∙ w.if-equal.false) (w.value-is ∙ w.equal-else-equal.ensures)
    ]) c.if-equal-2.false _ c.equal-else-equal-2.ensures
