use Rattle.std.specs.Prelude.{Err}
use Rattle.std.proofs.lemmas.Result.{err_from_is_err_and}
use mathlib.Core.Path.{sym, ap, ◌∙◌}
use Rattle.write.proofs.Level.{refused-not-done}
use Rattle.write.proofs.keep_score.Goals as goal

-- `write::keep_score` meets its contract: it goes on, or the store was refused.
pub returns-in_err-end_of : goal.returns-in_err-end_of
returns-in_err-end_of c =
    let back = err_from_is_err_and c.from_residual.result c.from_residual.ensures.1 in
    rw (back.1 ∙ ap Err back.2 ∙ sym c.in_err-end_of.was) (record { end = c.end_of.ensures; score = refused-not-done _ c.in_err-end_of.was })
