use Rattle.known_calls.proofs.Calls.{serve-refused, serve-done}
use Rattle.known_calls.proofs.serve_known.Goals as goal

pub returns-then-known-ne-KNOWN : goal.returns-then-known-ne-KNOWN
returns-then-known-ne-KNOWN c =
    let session-of = c.session_of-before in
    let if1 = c.if-known-ne-KNOWN in
    let packed = c.packed in
    let a = c.args in
    serve-refused a.session a.message.now a.date.now a.index.now a.log.now a.waiting.now a.reply.now a.known.now _ session-of.ensures _ if1.true
    packed.ensures

pub returns : goal.returns
returns c =
    let session-of = c.session_of-before in
    let if1 = c.if-known-ne-KNOWN in
    let serve = c.serve-answer in
    let packed2 = c.packed-2 in
    let a = c.args in
    serve-done a.session a.message.now a.date.now a.index.now a.log.now a.waiting.now a.reply.now a.known.now _ session-of.ensures _ if1.false
    serve.result _ _ _ _ _ serve.ensures.answered serve.ensures.told packed2.ensures
