use mathlib.Core.Path.{refl, ◌∙◌}
use Prim.Native.Nat.{◌-◌}
use native.Mathlib.Omega.{arith}
use Rattle.block.specs.Log.{joined, used}
use Rattle.block.proofs.Used.{used_le_sectors}
use Rattle.block.proofs.Joined.{sectors-joined}
use Rattle.sector_log.specs.LookUp.{outside}
use Rattle.sector_log.proofs.Doubt.{walked-zero}
use Rattle.reader.proofs.Placed.{block-bounds}
use Rattle.doubt.proofs.Walk.{Passed, walk_stops, walk-on, walk_ends}
use Rattle.doubt.proofs.first_doubtful.Goals as goal

pub loop-n-init : goal.loop-n-init
unfolding outside
loop-n-init c =
    (walked-zero (joined (c.args.runs.end.0) (c.args.runs.log.now) (c.args.runs.waiting.now)), refl)

pub sound_at-requires : goal.sound_at-requires
sound_at-requires c = let a = c.args in
    let given = c.requires in
    let log = joined a.runs.end.0 a.runs.log.now a.runs.waiting.now in
    (given.0, omega (arith, used_le_sectors log, sectors-joined a.runs.end.0 a.runs.log.now a.runs.waiting.now given.0, given.1, c.loop-n-test.true))

pub returns-in_default : goal.returns-in_default
returns-in_default c = let a = c.args in
    let if1 = c.loop-n-test in
    let l = c.loop-n in
    let given = c.requires in
    let sound-at = c.sound_at in
    walk_stops (joined a.runs.end.0 a.runs.log.now a.runs.waiting.now) l.n sound-at.result l.invariant (omega (arith, given.1, if1.true)) sound-at.ensures (c.in_default.is)

pub parts_of-n-requires : goal.parts_of-n-requires
parts_of-n-requires c = let a = c.args in
    let l = c.loop-n in
    let sound-at = c.sound_at in
    let b = block-bounds (joined a.runs.end.0 a.runs.log.now a.runs.waiting.now) l.n sound-at.result _ sound-at.ensures (c.in-Some.is) in
    (b.0, omega (arith, b.1))

pub overflow_add-n : goal.overflow_add-n
overflow_add-n c = let a = c.args in
    let l = c.loop-n in
    let given = c.requires in
    let sound-at = c.sound_at in
    let log = joined a.runs.end.0 a.runs.log.now a.runs.waiting.now in
    let on = walk-on log l.n (c.parts_of-n.result) sound-at.result _ l.invariant sound-at.ensures (c.in-Some.is) (c.parts_of-n.ensures) in
    omega (arith, used_le_sectors log, sectors-joined a.runs.end.0 a.runs.log.now a.runs.waiting.now given.0, on.0)

pub loop-n-smaller : goal.loop-n-smaller
loop-n-smaller c = let a = c.args in
    let l = c.loop-n in
    let sound-at = c.sound_at in
    let on = walk-on (joined a.runs.end.0 a.runs.log.now a.runs.waiting.now) l.n (c.parts_of-n.result) sound-at.result _ l.invariant sound-at.ensures (c.in-Some.is)
    (c.parts_of-n.ensures) in
    omega (arith, on.0, on.1)

pub loop-n-preserved : goal.loop-n-preserved
loop-n-preserved c = let a = c.args in
    let l = c.loop-n in
    let sound-at = c.sound_at in
    (walk-on (joined a.runs.end.0 a.runs.log.now a.runs.waiting.now) l.n (c.parts_of-n.result) sound-at.result _ l.invariant sound-at.ensures (c.in-Some.is)
    (c.parts_of-n.ensures)).2

pub returns : goal.returns
returns c = let a = c.args in
    let l = c.loop-n in
    let given = c.requires in
    given.1 ∙ walk_ends (joined a.runs.end.0 a.runs.log.now a.runs.waiting.now) l.n l.invariant (omega (arith, given.1, c.loop-n-test.false))
