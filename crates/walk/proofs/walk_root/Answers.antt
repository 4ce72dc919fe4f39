use mathlib.Core.Path.{◌∙◌}
use native.Mathlib.Omega.{arith}
use Rattle.block.specs.Log.{joined}
use Rattle.walk.proofs.FromRoot.{root-refused, ill-formed-root, root-found}
use Rattle.visit.proofs.Visits.{found-known, in_both}
use Rattle.walk.proofs.walk_root.Goals as goal

-- `walk::walk_root` meets its contract: refused, ill-formed, or the directory below.
pub returns-in_default : goal.returns-in_default
returns-in_default c =
    let a = c.args in
    root-refused (joined a.runs.end.0 a.runs.log.now a.runs.waiting.now) a.score.now a.left c.visit-m.ensures c.in_default.is c.answer.ensures

pub root_bytes-root-requires : goal.root_bytes-root-requires
root_bytes-root-requires c =
    let p = c.requires.0 in
    let K = found-known _ _ _ _ _ _ _ c.visit-m.ensures _ c.in-Ok.is in
    (p, in_both c.args.runs.end.0 c.args.runs.log.now c.args.runs.waiting.now p _ K.in_log)

pub returns-then-not-is_root : goal.returns-then-not-is_root
returns-then-not-is_root c =
    ill-formed-root (found-known _ _ _ _ _ _ _ c.visit-m.ensures _ c.in-Ok.is) c.root_bytes-root.ensures c.is_root.ensures c.if-not-is_root.true

pub overflow_sub-left : goal.overflow_sub-left
overflow_sub-left c =
    let K = found-known _ _ _ _ _ _ _ c.visit-m.ensures _ c.in-Ok.is in
    omega (arith, K.some_left)

pub returns : goal.returns
returns c =
    c.one_more.ensures
    ∙ root-found (found-known _ _ _ _ _ _ _ c.visit-m.ensures _ c.in-Ok.is) c.root_bytes-root.ensures c.is_root.ensures c.if-not-is_root.false _
    c.walk_top.ensures.exact
