use mathlib.Core.Path.{◌∙◌}
use native.Mathlib.Omega.{arith}
use Rattle.block.specs.Log.{joined}
use Rattle.walk.proofs.FromRoot.{top-refused, top-found}
use Rattle.visit.proofs.Visits.{found-known, in_both}
use Rattle.walk.proofs.walk_top.Goals as goal

-- `walk::walk_top` meets its contract: refused, or the directory below.
pub returns-in_default : goal.returns-in_default
returns-in_default c =
    let a = c.args in
    let r = top-refused (joined a.runs.end.0 a.runs.log.now a.runs.waiting.now) a.score.now a.left c.visit-m.ensures c.in_default.is c.answer.ensures in
    record { within = r.0; exact = r.1 }

pub overflow_sub-left : goal.overflow_sub-left
overflow_sub-left c =
    let K = found-known _ _ _ _ _ _ _ c.visit-m.ensures _ c.in-Ok.is in
    omega (arith, K.some_left)

pub visit_directory-requires : goal.visit_directory-requires
visit_directory-requires c =
    let K = found-known _ _ _ _ _ _ _ c.visit-m.ensures _ c.in-Ok.is in
    let p = c.requires.0 in
    (p, in_both c.args.runs.end.0 c.args.runs.log.now c.args.runs.waiting.now p _ K.in_log, K.not_many, K.not-deep)

pub returns : goal.returns
returns c =
    let K = found-known _ _ _ _ _ _ _ c.visit-m.ensures _ c.in-Ok.is in
    let v = c.visit_directory in
    let r = top-found K v.result (v.ensures.within, v.ensures.exact) in
    record { within = rw c.one_more.ensures r.0; exact = c.one_more.ensures ∙ r.1 }
