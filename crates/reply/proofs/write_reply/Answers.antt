use mathlib.Core.Path.{ap, ◌∙◌}
use Rattle.buffer.specs.Bytes.{Bytes, put}
use Rattle.message.proofs.Replies.{head_body}
use Rattle.reply.proofs.write_reply.Goals as goal

pub returns : goal.returns
returns c =
    let a = c.args in
    c.copy_at.ensures
    ∙ ap (λ (b : Bytes). put b 4 a.body.now) c.write_head.ensures
    ∙ head_body a.buffer.now a.kind a.tag a.body.now
