-- `block_tests::number_at` meets its contract.
use mathlib.Core.Path.{ap, ◌∙◌}
use Prim.Native.Nat.{ℕ, ◌-◌}
use Rattle.std.specs.Prelude.{Option}
use Rattle.std.specs.Option.{unwrap_or}
use native.Mathlib.Omega.{arith}
use lib.ListN.{length, take, drop}
use Rattle.buffer.specs.Bytes.{Bytes}
use Rattle.block_tests.specs.Number.{number_of}
use Rattle.block.proofs.At.{length_at}
use Rattle.block_tests.proofs.Digits.{value-number}
use Rattle.block.specs.Log.{joined}
use Rattle.block_tests.proofs.number_at.Goals as goal

pub slice_bounds-read_hex-end : goal.slice_bounds-read_hex-end
slice_bounds-read_hex-end c =
    let a = c.args in
    let log = joined a.runs.end.0 a.runs.log.now a.runs.waiting.now in
    omega (arith, ap length c.sector_at-s.ensures ∙ length_at log a.n.0)

pub returns : goal.returns
returns c =
    let a = c.args in
    c.unwrap_or.ensures
    ∙ ap (λ (o : Option ℕ). unwrap_or o 0) c.read_hex.ensures
    ∙ value-number _
    ∙ ap (λ (s : Bytes). number_of (take (a.to - a.from) (drop a.from s))) c.sector_at-s.ensures
