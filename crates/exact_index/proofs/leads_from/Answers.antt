use mathlib.Core.Path.{ap, ◌∙◌}
use native.Mathlib.Omega.{arith}
use Rattle.hexadecimal.specs.Hex.{is_hex, hex_value, read_bytes}
use Rattle.sector.proofs.Dates.{front-most}
use Rattle.block.specs.Log.{joined}
use Rattle.rebuild.proofs.Turns.{kind_part, kind_fits, score_part, score-read}
use Rattle.exact_index.proofs.Turns.{found_nowhere, found_at}
use Rattle.exact_index.proofs.Tells.{told-leads}
use Rattle.exact_index.proofs.leads_from.Goals as goal

pub overflow_add-at : goal.overflow_add-at
overflow_add-at c =
    omega (arith, c.front_length-k.ensures, front-most c.args.s.now)

pub overflow_add-to : goal.overflow_add-to
overflow_add-to c =
    omega (arith, c.front_length-k.ensures, front-most c.args.s.now)

pub slice_bounds-read_kind-end : goal.slice_bounds-read_kind-end
slice_bounds-read_kind-end c =
    omega (arith, c.front_length-k.ensures, front-most c.args.s.now, c.requires.1)

pub read_kind-kind-requires : goal.read_kind-kind-requires
read_kind-kind-requires c = let args = c.args in
    let given = c.requires in
    kind_fits args.s.now _ c.front_length-k.ensures given.1 given.2

pub overflow_add-from : goal.overflow_add-from
overflow_add-from c =
    omega (arith, c.front_length-k.ensures, front-most c.args.s.now)

pub overflow_add-last : goal.overflow_add-last
overflow_add-last c =
    omega (arith, c.front_length-k.ensures, front-most c.args.s.now)

pub slice_bounds-read_hex_bytes-end-2 : goal.slice_bounds-read_hex_bytes-end-2
slice_bounds-read_hex_bytes-end-2 c = let args = c.args in
    let Front-length = c.front_length-k in
    let given = c.requires in
    omega (arith, Front-length.ensures, front-most args.s.now, given.1)

pub returns-then-tells_first : goal.returns-then-tells_first
returns-then-tells_first c =
    let a = c.args in
    let digits = score_part a.s.now _ c.front_length-k.ensures in
    let kind = c.read_kind-kind.ensures ∙ ap hex_value (kind_part a.s.now _ c.front_length-k.ensures) in
    let score = score-read _ _ _ _ (ap is_hex digits ∙ c.requires.3) c.read_hex_bytes.ensures ∙ ap read_bytes digits in
    told-leads (joined a.runs.end.0 a.runs.log.now a.runs.waiting.now) a.index.now _ _ a.n.0 c.requires.4 _ _ _
    c.tells_first.ensures kind score c.if-tells_first.true

pub returns-in_default : goal.returns-in_default
returns-in_default c =
    let a = c.args in
    let digits = score_part a.s.now _ c.front_length-k.ensures in
    let kind = c.read_kind-kind.ensures ∙ ap hex_value (kind_part a.s.now _ c.front_length-k.ensures) in
    let score = score-read _ _ _ _ (ap is_hex digits ∙ c.requires.3) c.read_hex_bytes.ensures ∙ ap read_bytes digits in
    found_nowhere (joined a.runs.end.0 a.runs.log.now a.runs.waiting.now) a.index.now a.n.0 _ _ _ _ _ c.find_hint.ensures kind score c.in_default.is

pub returns : goal.returns
returns c =
    let a = c.args in
    let digits = score_part a.s.now _ c.front_length-k.ensures in
    let kind = c.read_kind-kind.ensures ∙ ap hex_value (kind_part a.s.now _ c.front_length-k.ensures) in
    let score = score-read _ _ _ _ (ap is_hex digits ∙ c.requires.3) c.read_hex_bytes.ensures ∙ ap read_bytes digits in
    found_at (joined a.runs.end.0 a.runs.log.now a.runs.waiting.now) a.index.now a.n.0 _ _ _ _ _ c.find_hint.ensures kind score
    _ c.in-Some.is
