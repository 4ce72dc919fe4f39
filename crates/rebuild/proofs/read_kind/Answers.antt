use mathlib.Core.Path.{ap, ◌∙◌}
use Prim.Native.Nat.{ℕ}
use native.Mathlib.Omega.{arith}
use Rattle.std.specs.Prelude.{Option}
use Rattle.std.specs.Option.{unwrap_or}
use Rattle.rebuild.proofs.Turns.{kind-read, kind_lt}
use Rattle.rebuild.proofs.read_kind.Goals as goal

pub overflow_cast-result : goal.overflow_cast-result
overflow_cast-result c =
    let s = c.args.digits.now in
    let v = c.unwrap_or.ensures ∙ ap (λ (o : Option ℕ). unwrap_or o 0) c.read_hex.ensures ∙ kind-read s c.requires.1 in
    omega (arith, v, kind_lt s c.requires.0 c.requires.1)

pub returns : goal.returns
returns c =
    c.unwrap_or.ensures
    ∙ ap (λ (o : Option ℕ). unwrap_or o 0) c.read_hex.ensures
    ∙ kind-read c.args.digits.now c.requires.1
