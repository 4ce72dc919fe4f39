use mathlib.Core.Path.{sym, ◌∙◌}
use native.Mathlib.Omega.{arith}
use Rattle.query.specs.Reading.{close_word}
use Rattle.query.proofs.Places.{next_known}
use Rattle.evaluate.proofs.closed.Goals as goal

pub overflow_add-result : goal.overflow_add-result
overflow_add-result c = omega (arith, (next_known c.args.text.now _ close_word (sym c.next_is.ensures ∙ c.if-not-next_is.false)).inside)
