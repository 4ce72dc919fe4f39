use mathlib.Core.Path.{refl, ◌∙◌}
use Rattle.utf8.specs.Scan.{due}
use Rattle.utf8.proofs.Returns.{ends, goes_on_lem, goes_ill}
use native.Mathlib.Omega.{arith}
use Rattle.utf8.proofs.is_well_formed.Goals as goal

pub loop-b-init : goal.loop-b-init
unfolding due
loop-b-init c = refl

pub returns-in_default : goal.returns-in_default
returns-in_default c =
    let l = c.loop-b in
    let a = c.after_byte in
    goes_ill a.result l.d c.args.s.now l.b-index (omega arith) a.ensures c.in_default.is ∙ l.invariant

pub loop-b-preserved : goal.loop-b-preserved
loop-b-preserved c =
    let l = c.loop-b in
    let a = c.after_byte in
    goes_on_lem a.result l.d c.args.s.now l.b-index (omega arith) a.ensures _ c.in-Some.is ∙ l.invariant

pub returns : goal.returns
returns c = let l = c.loop-b in ends l.d _ l.b-index (omega arith) ∙ l.invariant
