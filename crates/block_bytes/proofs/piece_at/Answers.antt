use mathlib.Core.Path.{ap, ◌∙◌}
use native.Mathlib.Omega.{arith}
use lib.ListN.{length}
use Rattle.block.proofs.At.{length_at}
use Rattle.block_bytes.proofs.Pieces.{piece-whole, piece_part}
use Rattle.block.specs.Log.{joined}
use Rattle.block_bytes.proofs.piece_at.Goals as goal

pub slice_bounds-result-end : goal.slice_bounds-result-end
slice_bounds-result-end c =
    let a = c.args in
    let log = joined a.runs.end.0 a.runs.log.now a.runs.waiting.now in
    omega (arith, c.payload_of.ensures, ap length c.sector_at-s.ensures ∙ length_at log a.n.0)

pub returns-then-payload_of-size : goal.returns-then-payload_of-size
returns-then-payload_of-size c =
    let a = c.args in
    let log = joined a.runs.end.0 a.runs.log.now a.runs.waiting.now in
    let sector-at = c.sector_at-s in
    piece-whole a.label log a.n.0 _ a.size sector-at.ensures (omega (arith, c.payload_of.ensures))

pub slice_bounds-result-end-2 : goal.slice_bounds-result-end-2
slice_bounds-result-end-2 c =
    let a = c.args in
    let log = joined a.runs.end.0 a.runs.log.now a.runs.waiting.now in
    omega (arith, c.payload_of.ensures, ap length c.sector_at-s.ensures ∙ length_at log a.n.0)

pub returns : goal.returns
returns c =
    let a = c.args in
    let log = joined a.runs.end.0 a.runs.log.now a.runs.waiting.now in
    let sector-at = c.sector_at-s in
    piece_part a.label log a.n.0 _ a.size sector-at.ensures (omega (arith, c.payload_of.ensures))
