use mathlib.Core.Path.{sym, ap, ◌∙◌}
use native.Mathlib.Omega.{arith}
use lib.ListN.{length}
use Rattle.block.specs.Log.{joined, bytes_of}
use Rattle.reader.proofs.Pieces.{length-bytes}
use Rattle.keep.proofs.Kept.{front-of-page, block-stored}
use Rattle.keep.proofs.store_block.Goals as goal

-- `keep::store_block` meets its contract: what is copied out and stored are the block's bytes.
pub slice_bounds-store_alone-end : goal.slice_bounds-store_alone-end
slice_bounds-store_alone-end c =
    let a = c.args in
    let log = joined a.runs.end.0 a.runs.log.now a.runs.waiting.now in
    let size = length-bytes log a.b c.requires.1.1 in
    let front = front-of-page _ (bytes_of log a.b) _ c.copy_out.ensures size in
    sym (ap length front ∙ size)

pub store_alone-receipt-requires : goal.store_alone-receipt-requires
store_alone-receipt-requires c =
    let a = c.args in
    let log = joined a.runs.end.0 a.runs.log.now a.runs.waiting.now in
    let size = length-bytes log a.b c.requires.1.1 in
    let front = front-of-page _ (bytes_of log a.b) _ c.copy_out.ensures size in
    (omega (arith, ap length front, size, c.requires.2), c.requires.3)

pub returns : goal.returns
returns c =
    let a = c.args in
    let log = joined a.runs.end.0 a.runs.log.now a.runs.waiting.now in
    let size = length-bytes log a.b c.requires.1.1 in
    let front = front-of-page _ (bytes_of log a.b) _ c.copy_out.ensures size in
    block-stored a.second.now a.date.now a.kind _ _ (bytes_of log a.b) _ _ c.store_alone-receipt.ensures front c.end_of.ensures
