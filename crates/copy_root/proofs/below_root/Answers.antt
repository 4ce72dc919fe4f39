use native.Mathlib.Omega.{arith}
use borrow.Author.Tests.{not-true, not-false}
use Rattle.block.specs.Log.{joined}
use Rattle.copy_root.proofs.FromRoot.{ill-formed-root, well_formed-root}
use Rattle.copy_root.proofs.below_root.Goals as goal

pub returns-then-not-is_root : goal.returns-then-not-is_root
returns-then-not-is_root c =
    let a = c.args in
    record { within = omega arith; exact = ill-formed-root (joined a.runs.end.0 a.runs.log.now a.runs.waiting.now) a.date.now a.left a.root.now a.second.now _ c.is_root.ensures c.if-not-is_root.true }

pub returns : goal.returns
returns c =
    let w = c.copy_top.ensures in
    let a = c.args in
    record { within = w.within; exact = well_formed-root (joined a.runs.end.0 a.runs.log.now a.runs.waiting.now) a.date.now a.left a.root.now a.second.now _ c.is_root.ensures c.if-not-is_root.false _ w.exact }
