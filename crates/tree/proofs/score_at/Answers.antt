use mathlib.Core.Path.{ap, ◌∙◌}
use Prim.Native.Nat.{◌%◌}
use native.Mathlib.Omega.{arith}
use Rattle.block.specs.Log.{joined, bytes_of}
use Rattle.reader.proofs.Pieces.{length-bytes}
use Rattle.tree.proofs.Pointers.{pointer-past, pointer-filled}
use Rattle.tree.proofs.score_at.Goals as goal

pub returns-then-b-from : goal.returns-then-b-from
returns-then-b-from c =
    let a = c.args in
    let if1 = c.if-b-from in
    let zero-score = c.zero_score in
    let pre = c.requires in
    let log = joined a.runs.end.0 a.runs.log.now a.runs.waiting.now in
    zero-score.ensures ∙ pointer-past (bytes_of log a.b) a.i (omega (arith, if1.true, length-bytes log a.b pre.1.1))

pub returns : goal.returns
returns c =
    let a = c.args in
    let pre = c.requires in
    let if1 = c.if-b-from in
    let read-part = c.read_part in
    let log = joined a.runs.end.0 a.runs.log.now a.runs.waiting.now in
    let size = length-bytes log a.b pre.1.1 in
    read-part.ensures ∙ pointer-filled (bytes_of log a.b) a.i (ap (λ n. n % 20) size ∙ pre.2) (omega (arith, if1.false, size))
