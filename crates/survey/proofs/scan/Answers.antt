use mathlib.Core.Path.{◌∙◌}
use Prim.Native.Nat.{◌-◌}
use native.Mathlib.Omega.{arith}
use Rattle.block.specs.Log.{used}
use Rattle.block.proofs.Used.{used_le_sectors}
use Rattle.reader.proofs.Alone.{placed-alone}
use Rattle.lookup.proofs.Outcomes.{block-bounds}
use Rattle.survey.proofs.Counted.{Counted, counted-zero, counted_none, counted-some, counted-end, parts-some}
use Rattle.survey.proofs.scan.Goals as goal

pub loop-n-init : goal.loop-n-init
loop-n-init c =
    counted-zero (c.args.log.now)

pub sound_at-place-requires : goal.sound_at-place-requires
sound_at-place-requires c =
    (omega arith, omega (arith, used_le_sectors (c.args.log.now), c.requires, c.loop-n-test.true))

pub parts_of-parts-requires : goal.parts_of-parts-requires
parts_of-parts-requires c = let args = c.args in
    let l = c.loop-n in
    let sound-at = c.sound_at-place in
    let b = block-bounds args.log.now l.n sound-at.result _ (sound-at.ensures ∙ placed-alone args.log.now l.n) (c.in-Some.is) in
    (b.0, omega (arith, b.1))

pub overflow_add-records : goal.overflow_add-records
overflow_add-records c = let args = c.args in
    let l = c.loop-n in
    let sound-at = c.sound_at-place in
    let on = counted-some args.log.now l.n l.records l.doubtful sound-at.result _ l.invariant (sound-at.ensures ∙ placed-alone args.log.now l.n)
    (c.in-Some.is) _ c.parts_of-parts.ensures in
    omega (arith, l.invariant.few, l.invariant.inside, on.inside, c.parts_of-parts.ensures, used_le_sectors args.log.now)

pub overflow_add-n : goal.overflow_add-n
overflow_add-n c = let args = c.args in
    let l = c.loop-n in
    let sound-at = c.sound_at-place in
    let on = counted-some args.log.now l.n l.records l.doubtful sound-at.result _ l.invariant (sound-at.ensures ∙ placed-alone args.log.now l.n)
    (c.in-Some.is) _ c.parts_of-parts.ensures in
    omega (arith, l.invariant.inside, on.inside, used_le_sectors args.log.now)

pub loop-n-smaller-in-Some : goal.loop-n-smaller-in-Some
loop-n-smaller-in-Some c = let args = c.args in
    let l = c.loop-n in
    let given = c.requires in
    let sound-at = c.sound_at-place in
    let on = counted-some args.log.now l.n l.records l.doubtful sound-at.result _ l.invariant (sound-at.ensures ∙ placed-alone args.log.now l.n)
    c.in-Some.is _ c.parts_of-parts.ensures in
    let pos = parts-some args.log.now l.n sound-at.result _ (sound-at.ensures ∙ placed-alone args.log.now l.n) c.in-Some.is in
    omega (arith, on.inside, c.parts_of-parts.ensures, pos, given)

pub loop-n-preserved-in-Some : goal.loop-n-preserved-in-Some
loop-n-preserved-in-Some c = let args = c.args in
    let l = c.loop-n in
    let sound-at = c.sound_at-place in
    counted-some args.log.now l.n l.records l.doubtful sound-at.result _ l.invariant (sound-at.ensures ∙ placed-alone args.log.now l.n)
    (c.in-Some.is) _ c.parts_of-parts.ensures

pub overflow_add-doubtful : goal.overflow_add-doubtful
overflow_add-doubtful c = let args = c.args in
    let l = c.loop-n in
    omega (arith, l.invariant.few, l.invariant.inside, used_le_sectors args.log.now)

pub overflow_add-n-in-None : goal.overflow_add-n-in-None
overflow_add-n-in-None c =
    omega (arith, c.loop-n.invariant.inside, used_le_sectors (c.args.log.now))

pub loop-n-smaller : goal.loop-n-smaller
loop-n-smaller c =
    omega (arith, c.requires, c.loop-n-test.true)

pub loop-n-preserved : goal.loop-n-preserved
loop-n-preserved c = let args = c.args in
    let if1 = c.loop-n-test in
    let l = c.loop-n in
    let given = c.requires in
    let sound-at = c.sound_at-place in
    counted_none args.log.now l.n l.records l.doubtful sound-at.result l.invariant (omega (arith, given, if1.true)) (sound-at.ensures ∙ placed-alone args.log.now l.n)
    (c.in-None.is)

pub returns : goal.returns
returns c = let args = c.args in
    let l = c.loop-n in
    let given = c.requires in
    counted-end args.log.now l.n l.records l.doubtful l.invariant (omega (arith, given, c.loop-n-test.false))
