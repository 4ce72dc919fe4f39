use Rattle.reading.proofs.Returns.{settled-over, settled-told}
use Rattle.reading.proofs.answer_settled.Goals as goal

pub returns-then-count-b : goal.returns-then-count-b
returns-then-count-b c =
    let a = c.args in
    settled-over a.log.now a.b a.count a.tag a.reply.now _ _ c.if-count-b.true (c.refuse.ensures a.log.now)

pub returns : goal.returns
returns c =
    let a = c.args in
    settled-told a.log.now a.b a.count a.tag a.reply.now _ _ c.if-count-b.false c.answer_read.ensures
