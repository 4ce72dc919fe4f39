use Rattle.writer.proofs.Cutting.{cut_is, cut_never_refused}
use Rattle.write.proofs.cut_length.Goals as goal

pub returns-in-Ok : goal.returns-in-Ok
returns-in-Ok c = let a = c.args in
    let cut = c.cut-kept in
    let given = c.requires in
    cut_is a.kind a.block.now given.0 given.1 _ cut.ensures _ (c.in-Ok.is)

pub returns-in-Err : goal.returns-in-Err
returns-in-Err c = let a = c.args in
    let given = c.requires in
    cut_never_refused a.kind a.block.now given.0 given.1 _ (c.cut-kept.ensures) _ _ (c.in-Err.is)
