use mathlib.Core.Path.{◌≡◌, ap, ◌∙◌}
use Prim.Native.Nat.{ℕ}
use native.Mathlib.Omega.{arith}
use Rattle.refusal.specs.Number.{doubt_of as told}
use Rattle.refusal.proofs.Nowhere.{nowhere}
use Rattle.learn.proofs.Learned.{doubt-at, doubt_clear}
use borrow.Enum.Refused.{opened}
use Rattle.learn.proofs.find_doubt.Goals as goal
use Rattle.std.specs.Prelude.{Some, None}

pub returns-in-NotKnown : goal.returns-in-NotKnown
returns-in-NotKnown c =
    doubt-at _ _ c.why_absent-why.ensures _ c.in-NotKnown.is

pub returns : goal.returns
returns c =
    doubt_clear _ c.why_absent-why.result c.why_absent-why.ensures
    (λ n q. let y : None ≡ Some n = nowhere c.why_absent-why.result (opened c.in_default.in_default-own.keys2) ∙ ap told q in let z : ◌≡◌ {A = ℕ} 0 1 = cc in absurd (omega arith))
