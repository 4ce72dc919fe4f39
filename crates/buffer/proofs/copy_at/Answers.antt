use mathlib.Core.Path.{◌≡◌, refl, ap, ◌∙◌}
use native.Mathlib.Omega.{arith}
use lib.ListN.{length, length-set}
use native.Mathlib.Numerals.{add-one}
use lib.Seq.{paste, paste-zero, paste-suc}
use Rattle.buffer.proofs.Steps.{put_all}
use Rattle.buffer.proofs.copy_at.Goals as goal

pub loop-i-init : goal.loop-i-init
loop-i-init c = (refl, paste-zero c.args.d.now c.args.at c.args.s.now)

pub loop-i-preserved : goal.loop-i-preserved
loop-i-preserved c =
    let l = c.loop-i in
    let a = c.args in
    (simp length-set l.invariant.0, rw (l.invariant.1, add-one) (paste-suc a.d.now a.at a.s.now l.i 0 (omega arith) (omega arith)))

pub returns : goal.returns
returns c =
    let l = c.loop-i in
    let a = c.args in
    let e : l.i ≡ length a.s.now = omega arith in
    l.invariant.1 ∙ ap (paste a.d.now a.at a.s.now) e ∙ put_all a.d.now a.at a.s.now
