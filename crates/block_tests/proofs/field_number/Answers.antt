use mathlib.Core.Path.{ap, ◌∙◌}
use Prim.Native.Nat.{ℕ}
use Rattle.std.specs.Prelude.{Option}
use Rattle.std.specs.Option.{unwrap_or}
use native.Mathlib.Omega.{arith}
use lib.ListN.{length}
use Rattle.sector.proofs.Dates.{front-most}
use Rattle.block.specs.Log.{joined, at}
use Rattle.block.proofs.At.{length_at}
use Rattle.block_tests.proofs.Digits.{value-number, digits-at}
use Rattle.block_tests.proofs.field_number.Goals as goal

pub overflow_add-from : goal.overflow_add-from
overflow_add-from c =
    let q = c.requires in
    let a = c.args in
    omega (arith, q.2, front-most (at (joined a.runs.end.0 a.runs.log.now a.runs.waiting.now) a.n.0))

pub overflow_add-to : goal.overflow_add-to
overflow_add-to c =
    let q = c.requires in
    let a = c.args in
    omega (arith, q.2, front-most (at (joined a.runs.end.0 a.runs.log.now a.runs.waiting.now) a.n.0))

pub slice_bounds-read_hex-end : goal.slice_bounds-read_hex-end
slice_bounds-read_hex-end c =
    let a = c.args in
    let q = c.requires in
    let sector-at = c.sector_at-s in
    let log = joined a.runs.end.0 a.runs.log.now a.runs.waiting.now in
    omega (arith, ap length sector-at.ensures ∙ length_at log a.n.0, q.2, front-most (at log a.n.0))

pub returns : goal.returns
returns c =
    let a = c.args in
    c.unwrap_or.ensures
    ∙ ap (λ (o : Option ℕ). unwrap_or o 0) c.read_hex.ensures
    ∙ value-number _
    ∙ digits-at (joined a.runs.end.0 a.runs.log.now a.runs.waiting.now) a.n.0 _ a.front a.field a.width c.sector_at-s.ensures c.requires.2
