use borrow.Author.Tests.{not-true, not-false}
use mathlib.Core.Path.{sym, ◌∙◌}
use Rattle.copy.proofs.Tests.{parts-refused, parts-allowed}
use Rattle.copy.proofs.are_allowed.Goals as goal

-- `copy::are_allowed` meets its contract: by the first two lengths, then by the third.
pub returns-then-not-are_allowed : goal.returns-then-not-are_allowed
returns-then-not-are_allowed c = parts-refused _ _ _ (sym c.are_allowed.ensures ∙ c.if-not-are_allowed.true)

pub returns : goal.returns
returns c = parts-allowed _ _ _ _ (sym c.are_allowed.ensures ∙ c.if-not-are_allowed.false) c.is_allowed.ensures
