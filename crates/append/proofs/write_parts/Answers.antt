use mathlib.Core.Path.{◌≡◌, refl}
use Prim.Native.Nat.{◌-◌, ◌≤◌}
use native.Mathlib.Omega.{arith}
use lib.ListN.{length}
use Rattle.buffer.specs.Bytes.{Bytes, put}
use Rattle.sector.specs.Sector.{front_of}
use Rattle.block.specs.Block.{images}
use Rattle.append.specs.Append.{row_of}
use Rattle.append.proofs.Images.{sectors-more}
use borrow.Author.Rules.{rules}
use Rattle.append.proofs.write_parts.Goals as goal

pub loop-k-init : goal.loop-k-init
unfolding images
loop-k-init c =
    (refl, λ date f. refl)

pub loop-k-preserved : goal.loop-k-preserved
loop-k-preserved c = let a = c.args in
    let l = c.loop-k in
    let parts-of = c.parts_of-count in
    let given = c.requires in (
      search rules,
      λ date f. sectors-more (row_of a.kind a.score.now a.«data».now a.first.0 date) a.part.now a.front.now l.k f given.1 given.2 given.3
          (omega (arith, parts-of.ensures)) _ _ (l.invariant.1 date f) (c.write_part.ensures date f),
    )

pub returns : goal.returns
returns c =
    λ date f.
    let e : c.loop-k.k ≡ c.parts_of-count.result = omega arith in
    rw (← c.parts_of-count.ensures, ← e) (c.loop-k.invariant.1 date f)
