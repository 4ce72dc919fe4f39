use Prim.Native.Nat.{◌+◌, ◌<◌, ◌^◌}
use native.Mathlib.Omega.{arith}
use Rattle.block.specs.Log.{joined}
use Rattle.visit.proofs.Visits.{found-known, in_both}
use Rattle.copy_root.proofs.FromRoot.{root-refused, root_kept}
use Rattle.copy_root.proofs.copy_root.Goals as goal

-- `copy_root::copy_root` meets its contract: refused, or kept behind all that it reaches.
pub returns-in_default : goal.returns-in_default
returns-in_default c =
    let a = c.args in
    root-refused (joined a.runs.end.0 a.runs.log.now a.runs.waiting.now) a.date.now a.score.now a.left a.second.now _ c.visit-m.ensures _ c.in_default.is _
    c.answer.ensures

pub root_bytes-root-requires : goal.root_bytes-root-requires
root_bytes-root-requires c =
    let a = c.args in
    let K = found-known _ _ _ _ _ _ _ c.visit-m.ensures _ c.in-Ok.is in
    (c.requires.0, in_both a.runs.end.0 a.runs.log.now a.runs.waiting.now c.requires.0 _ K.in_log)

pub overflow_sub-left : goal.overflow_sub-left
overflow_sub-left c =
    let K = found-known _ _ _ _ _ _ _ c.visit-m.ensures _ c.in-Ok.is in
    omega (arith, K.some_left)

pub keep-requires : goal.keep-requires
keep-requires c =
    let a = c.args in
    let K = found-known _ _ _ _ _ _ _ c.visit-m.ensures _ c.in-Ok.is in
    let w = c.below_root-below in
    let h : w.result.visits + 1 < 2 ^ 64 = omega (arith, K.some_left, w.ensures.within, c.ranges.left.fits) in
    (c.requires.0, in_both a.runs.end.0 a.runs.log.now a.runs.waiting.now c.requires.0 _ K.in_log, K.not_many, c.requires.2, h)

pub returns : goal.returns
returns c =
    let a = c.args in
    root_kept (joined a.runs.end.0 a.runs.log.now a.runs.waiting.now) a.date.now a.score.now a.left a.second.now _ c.visit-m.ensures _ c.in-Ok.is _
    c.root_bytes-root.ensures _ _ c.below_root-below.ensures.exact _ _ c.keep.ensures.exact
