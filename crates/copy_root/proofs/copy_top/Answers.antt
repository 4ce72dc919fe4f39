use Prim.Native.Nat.{◌+◌, ◌<◌, ◌^◌}
use native.Mathlib.Omega.{arith}
use Rattle.block.specs.Log.{joined}
use Rattle.visit.proofs.Visits.{found-known, in_both}
use Rattle.copy_root.proofs.FromRoot.{top-refused, top_kept}
use Rattle.copy_root.proofs.copy_top.Goals as goal

-- `copy_root::copy_top` meets its contract: refused, or kept behind the directory's entries.
pub returns-in_default : goal.returns-in_default
returns-in_default c =
    let a = c.args in
    let r = top-refused (joined a.runs.end.0 a.runs.log.now a.runs.waiting.now) a.date.now a.score.now a.left a.second.now _ c.visit-m.ensures _ c.in_default.is _
    c.answer.ensures in
    record { within = r.0; exact = r.1 }

pub overflow_sub-left : goal.overflow_sub-left
overflow_sub-left c =
    let K = found-known _ _ _ _ _ _ _ c.visit-m.ensures _ c.in-Ok.is in
    omega (arith, K.some_left)

pub copy_directory-below-requires : goal.copy_directory-below-requires
copy_directory-below-requires c =
    let a = c.args in
    let K = found-known _ _ _ _ _ _ _ c.visit-m.ensures _ c.in-Ok.is in
    (c.requires.0, in_both a.runs.end.0 a.runs.log.now a.runs.waiting.now c.requires.0 _ K.in_log, K.not_many, omega arith, c.requires.2)

pub keep-requires : goal.keep-requires
keep-requires c =
    let a = c.args in
    let K = found-known _ _ _ _ _ _ _ c.visit-m.ensures _ c.in-Ok.is in
    let w = c.copy_directory-below in
    let h : w.result.visits + 1 < 2 ^ 64 = omega (arith, K.some_left, w.ensures.within, c.ranges.left.fits) in
    (c.requires.0, in_both a.runs.end.0 a.runs.log.now a.runs.waiting.now c.requires.0 _ K.in_log, K.not_many, c.requires.2, h)

pub returns : goal.returns
returns c =
    let a = c.args in
    let w = c.copy_directory-below in
    let k = c.keep in
    let r = top_kept (joined a.runs.end.0 a.runs.log.now a.runs.waiting.now) a.date.now a.score.now a.left a.second.now _ c.visit-m.ensures _ c.in-Ok.is _ _
    (w.ensures.within, w.ensures.exact) k.result _ k.ensures.count k.ensures.exact in
    record { within = r.0; exact = r.1 }
