use mathlib.Core.Path.{ap, ap₂, ◌∙◌}
use Prim.Native.Nat.{ℕ, ◌-◌, ◌%◌, ◌<◌, min}
use native.Mathlib.Nat.{mod-lt}
use native.Mathlib.Omega.{arith}
use Rattle.block.specs.Log.{addressable}
use Rattle.leaf.specs.declared.Extent.TheVariants.{Stored}
use Rattle.leaf.proofs.Places.{place-before}
use Rattle.leaf.proofs.Steps.{leaf-past, leaf_in}
use Rattle.leaf.proofs.leaf_run.Goals as goal
use Rattle.std.specs.Prelude.{Ok}

pub returns-then-b-k : goal.returns-then-b-k
returns-then-b-k c =
    let a = c.args in
    c.zero_run.ensures ∙ leaf-past a.page a.e a.offset a.b c.if-b-k.true

pub place_in-requires : goal.place_in-requires
place_in-requires c =
    let p = c.requires in
    (omega (arith, place-before addressable c.args.b p.2 _ c.if-b-k.false), p.2.1)

pub overflow_sub-p : goal.overflow_sub-p
overflow_sub-p c =
    let a = c.args in
    let payload-of = c.payload_of-p in
    let pos : 0 < payload-of.result = omega (arith, payload-of.ensures, c.requires.2.1) in
    omega (arith, mod-lt (a.offset % a.e.dsize) pos, payload-of.ensures)

pub returns : goal.returns
returns c =
    let a = c.args in
    let if1 = c.if-b-k in
    let payload-of = c.payload_of-p in
    let IsPlace-in = c.place_in in
    let k = a.offset % a.e.dsize in
    ap₂ (λ (x y : ℕ). Ok (Stored x y)) IsPlace-in.ensures (c.least.ensures ∙ ap (λ (p : ℕ). min (p - k % p) (min (a.b.size - k) (a.e.size - a.offset))) payload-of.ensures)
    ∙ leaf_in a.page a.e a.offset a.b if1.false
