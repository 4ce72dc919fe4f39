use mathlib.Core.Path.{ap, ap₂, ◌∙◌}
use Prim.Native.Nat.{ℕ}
use native.Mathlib.Omega.{arith}
use Rattle.buffer.specs.Bytes.{Bytes}
use Rattle.hexadecimal.specs.Hex.{is_hex, hex_value, read_bytes}
use Rattle.sector.proofs.Dates.{front-most}
use Rattle.index.specs.Index.{entered}
use Rattle.rebuild.proofs.Turns.{kind_part, kind_fits, score_part, score-read}
use Rattle.rebuild.proofs.enter_label.Goals as goal

pub overflow_add-at : goal.overflow_add-at
overflow_add-at c = omega (arith, c.front_length-k.ensures, front-most c.args.s.now)

pub overflow_add-end : goal.overflow_add-end
overflow_add-end c = omega (arith, c.front_length-k.ensures, front-most c.args.s.now)

pub slice_bounds-read_kind-end : goal.slice_bounds-read_kind-end
slice_bounds-read_kind-end c = omega (arith, c.front_length-k.ensures, front-most c.args.s.now)

pub read_kind-kind-requires : goal.read_kind-kind-requires
read_kind-kind-requires c =
    kind_fits c.args.s.now _ c.front_length-k.ensures c.requires.0 c.requires.1

pub overflow_add-from : goal.overflow_add-from
overflow_add-from c = omega (arith, c.front_length-k.ensures, front-most c.args.s.now)

pub overflow_add-to : goal.overflow_add-to
overflow_add-to c = omega (arith, c.front_length-k.ensures, front-most c.args.s.now)

pub slice_bounds-read_hex_bytes-end-2 : goal.slice_bounds-read_hex_bytes-end-2
slice_bounds-read_hex_bytes-end-2 c = omega (arith, c.front_length-k.ensures, front-most c.args.s.now)

pub returns : goal.returns
returns c =
    let a = c.args in
    let front = c.front_length-k in
    let digits = score_part a.s.now _ front.ensures in
    c.enter.ensures
    ∙ ap₂ (λ (x : Bytes) (k : ℕ). entered a.index.now x k a.first.0)
    (score-read _ _ _ _ (ap is_hex digits ∙ c.requires.2) c.read_hex_bytes.ensures ∙ ap read_bytes digits)
    (c.read_kind-kind.ensures ∙ ap hex_value (kind_part a.s.now _ front.ensures))
