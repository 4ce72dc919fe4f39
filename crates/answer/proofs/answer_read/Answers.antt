use mathlib.Core.Path.{refl}
use Rattle.block.specs.Log.{joined}
use Rattle.answer.proofs.Returns.{outcome, head-block}
use Rattle.answer.proofs.answer_read.Goals as goal

pub returns : goal.returns
returns c = let a = c.args in
    let given = c.requires in
    let write-head = c.write_head in
    outcome _ _ _ _ _ _ _ refl
    (head-block a.reply.now _ _ (joined a.runs.end.0 a.runs.log.now a.runs.waiting.now) a.tag a.b given.1.1 write-head.ensures (c.copy_out.ensures))
