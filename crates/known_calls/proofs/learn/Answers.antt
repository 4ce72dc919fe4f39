use Rattle.known_calls.proofs.Calls.{learn_refused, learn_done}
use Rattle.known_calls.proofs.learn.Goals as goal

-- `known_calls::learn` meets its contract.
pub returns-then-known-ne-KNOWN : goal.returns-then-known-ne-KNOWN
returns-then-known-ne-KNOWN c =
    let if1 = c.if-known-ne-KNOWN in
    let a = c.args in
    learn_refused a.log.now a.waiting.now a.index.now a.known.now if1.true

pub returns : goal.returns
returns c =
    let if1 = c.if-known-ne-KNOWN in
    let learn = c.learn-learned in
    let write_known = c.write_known in
    let a = c.args in
    learn_done a.log.now a.waiting.now a.index.now a.known.now if1.false _ _ learn.ensures write_known.ensures
