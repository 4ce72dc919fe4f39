use borrow.Author.Tests.{not-true, not-false}
use Rattle.rebuild.proofs.Turns.{rebuild_refused, rebuild_done}
use Rattle.rebuild.proofs.rebuild.Goals as goal

pub returns-then-not-is_allowed : goal.returns-then-not-is_allowed
returns-then-not-is_allowed c =
    let a = c.args in
    rebuild_refused a.log.now a.index.now _ c.is_allowed.ensures c.if-not-is_allowed.true

pub returns : goal.returns
returns c = let args = c.args in
    let clear = c.clear in
    let if1 = c.if-not-is_allowed in
    let is-allowed = c.is_allowed in
    let a = args in
    rebuild_done a.log.now a.index.now _ is-allowed.ensures _ _ if1.false clear.ensures c.enter_all.ensures
