use mathlib.Core.Path.{ap, ◌∙◌}
use Rattle.index_calls.specs.Hints.{look_result}
use Rattle.index_calls.proofs.HintLaws.{asked-small}
use Rattle.index_calls.proofs.look_up_by.Goals as goal

pub look_result-requires : goal.look_result-requires
look_result-requires c =
    let a = c.args in
    rw c.ask_by.ensures (asked-small a.log.now a.waiting.now a.index.now a.kind a.score.now)

pub returns : goal.returns
returns c =
    c.look_result.ensures ∙ ap look_result c.ask_by.ensures
