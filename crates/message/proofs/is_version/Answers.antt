use mathlib.Core.Path.{◌≡◌, ap, ◌∙◌}
use mathlib.Core.List.{[], ◌∷◌}
use Prim.Native.Nat.{◌-◌, min}
use lib.ListN.{length}
use Rattle.buffer.specs.Bytes.{Bytes, same}
use Rattle.message.proofs.Returns.{version-none, version-shown}
use native.Mathlib.Omega.{arith}
use Rattle.message.proofs.is_version.Goals as goal
use Rattle.message.proofs.is_version.Goals.{then-m-n, else-m-n}

-- `message::is_version` meets its contract: the part that is compared is the version.
pub returns-then-m-lt6 : goal.returns-then-m-lt6
returns-then-m-lt6 c = version-none c.args.m.now c.if-m-lt6.true

pub slice_bounds-equal-count : goal.slice_bounds-equal-count
slice_bounds-equal-count c = elim c.if-m-n.branch [ then-m-n w ↦ omega arith | else-m-n w ↦ omega arith ]

pub returns : goal.returns
returns c =
    let n = c.be_number-n.result in
    let m = c.args.m.now in
    let e = c.if-m-n.end in
    let h : e - 6 ≡ min n (length m - 6) = elim c.if-m-n.branch [ then-m-n w ↦ omega arith | else-m-n w ↦ omega arith ] in
    c.equal.ensures ∙ ap (λ (v : Bytes). same v (48 ∷ 50 ∷ [])) (version-shown m n e c.be_number-n.ensures h)
