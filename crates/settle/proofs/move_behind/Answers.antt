use mathlib.Core.Path.{sym}
use Prim.Native.Nat.{◌+◌, ◌*◌}
use native.Mathlib.Omega.{arith}
use borrow.Author.Tests.{le-leb, lt-leb}
use lib.ListN.{length, length-take}
use Rattle.block.specs.Log.{sectors}
use Rattle.settle.proofs.Moved.{nothing-moved, all_moved}
use Rattle.settle.proofs.move_behind.Goals as goal

pub returns-then-log-used : goal.returns-then-log-used
returns-then-log-used c =
    let a = c.args in
    let if1 = c.if-log-used in
    let u = a.used.0 in
    let n = a.waits.0 in
    record { fits = sym (lt-leb (u + n) (sectors (length a.log.now)) if1.true); lent = nothing-moved u n a.log.now a.waiting.now if1.true }

pub slice_bounds-copy_at-end-2 : goal.slice_bounds-copy_at-end-2
slice_bounds-copy_at-end-2 c =
    let q = c.requires in
    let a = c.args in
    omega (arith, q.1, length-take (512 * a.waits.0) a.waiting.now)

pub copy_at-requires : goal.copy_at-requires
copy_at-requires c =
    let a = c.args in
    let if1 = c.if-log-used in
    omega (arith, if1.false, length-take (512 * a.waits.0) a.waiting.now)

pub returns : goal.returns
returns c =
    let a = c.args in
    let if1 = c.if-log-used in
    let copy_at = c.copy_at in
    let clear = c.clear in
    let u = a.used.0 in
    let n = a.waits.0 in
    record { fits = sym (le-leb (u + n) (sectors (length a.log.now)) if1.false); lent = all_moved u n a.log.now a.waiting.now _ _ if1.false copy_at.ensures clear.ensures }
