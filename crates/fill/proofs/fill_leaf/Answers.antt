use mathlib.Core.Path.{sym, ap, ◌∙◌}
use Prim.Native.Nat.{ℕ, ◌%◌, ◌≤◌}
use native.Mathlib.Nat.{mod-lt}
use native.Mathlib.Omega.{arith}
use lib.ListN.{length, drop}
use lib.Seq.{length-take-le}
use Rattle.sector.specs.Sector.{filled}
use Rattle.block.specs.Log.{joined, bytes_of}
use Rattle.fill.proofs.Turn.{found_inside, inside_both, leaf-missing, leaf-written}
use Rattle.fill.proofs.fill_leaf.Goals as goal

pub overflow_sub-e : goal.overflow_sub-e
overflow_sub-e c =
    omega (arith, mod-lt c.args.offset c.requires.1.dsize-from)

pub slice_bounds-read_part-end-in-Ok : goal.slice_bounds-read_part-end-in-Ok
slice_bounds-read_part-end-in-Ok c =
    let n = c.lesser-n in
    let d = c.args.d.now in
    sym (length-take-le n.result d (omega (arith, n.ensures)))

pub read_part-requires : goal.read_part-requires
read_part-requires c =
    let n = c.lesser-n in
    let descend = c.descend-look in
    let short : n.result ≤ length c.args.d.now = omega (arith, n.ensures) in (
      c.requires.0,
      found_inside descend.result _ descend.ensures.room c.in-Ok.is,
      omega (arith, length-take-le n.result c.args.d.now short, n.ensures, mod-lt c.args.offset c.requires.1.dsize-from, c.requires.1.dsize-to),
    )

pub returns-in-Ok : goal.returns-in-Ok
returns-in-Ok c =
    let read-part = c.read_part in
    let n = c.lesser-n in
    let descend = c.descend-look in
    let a = c.args in
    let log = joined a.runs.end.0 a.runs.log.now a.runs.waiting.now in
    let b = c.in-Ok.b in
    let room = inside_both a.runs.end.0 a.runs.log.now a.runs.waiting.now c.requires.0 b (found_inside descend.result _ descend.ensures.room c.in-Ok.is) in
    let short : n.result ≤ length a.d.now = omega (arith, n.ensures) in
    leaf-written log a.e a.top.now a.offset a.d.now c.requires.1.dsize-from c.requires.3 descend.result descend.ensures.run b c.in-Ok.is room
    n.result n.ensures _
    (read-part.ensures ∙ ap (λ (x : ℕ). filled x (drop (a.offset % a.e.dsize) (bytes_of log b))) (length-take-le n.result a.d.now short))

pub returns-in-Err : goal.returns-in-Err
returns-in-Err c =
    let descend = c.descend-look in
    let a = c.args in
    leaf-missing (joined a.runs.end.0 a.runs.log.now a.runs.waiting.now) a.e a.top.now a.offset a.d.now c.requires.1.dsize-from c.requires.3
    descend.result descend.ensures.run _ c.in-Err.is
