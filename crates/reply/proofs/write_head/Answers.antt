use lib.ListN.{length-take}
use Rattle.message.proofs.Replies.{size_type_tag}
use native.Mathlib.Omega.{arith}
use Rattle.reply.proofs.write_head.Goals as goal

pub slice_bounds-put_be-end-2 : goal.slice_bounds-put_be-end-2
slice_bounds-put_be-end-2 c = simp length-take (omega arith)

pub returns : goal.returns
returns c =
    let a = c.args in
    size_type_tag a.buffer.now _ _ a.kind a.tag c.requires.0 c.put_be.ensures
