use mathlib.Core.Path.{◌≡◌, refl, ◌∙◌}
use Prim.Native.Nat.{◌-◌, ◌≤◌}
use native.Mathlib.Omega.{arith}
use lib.ListN.{length}
use Rattle.bedrock.specs.Places.{found_from}
use Rattle.block.specs.Log.{sectors, sound}
use Rattle.sector_log.specs.LookUp.{blocks}
use Rattle.hint.specs.Rebuilt.{entered_all}
use Rattle.rebuild.proofs.Turns.{pass_starts, pass_on, pass_ends}
use borrow.Author.Rules.{rules}
use Rattle.rebuild.proofs.enter_all.Goals as goal

pub loop-n-init : goal.loop-n-init
loop-n-init c =
    let a = c.args in
    (refl, refl, pass_starts a.log.now a.index.now)

pub loop-n-preserved : goal.loop-n-preserved
loop-n-preserved c =
    let a = c.args in
    let l = c.loop-n in
    let enter-at = c.enter_at in
    (l.invariant.0, search rules, pass_on a.log.now l.index _ l.n _ c.loop-n-test.true enter-at.ensures ∙ l.invariant.2)

pub shape_of-index : goal.shape_of-index
shape_of-index c = c.loop-n.invariant.1

pub returns : goal.returns
returns c =
    let a = c.args in
    let l = c.loop-n in
    pass_ends a.log.now l.index l.n _ c.loop-n-test.false ∙ l.invariant.2
