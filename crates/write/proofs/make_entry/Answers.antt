use mathlib.Core.Path.{ap, ◌∙◌}
use Prim.Native.Nat.{◌≤◌}
use native.Mathlib.Omega.{arith}
use lib.ListN.{length, length-take}
use lib.Seq.{length-take-le}
use Rattle.kind.proofs.ZeroScore.{length-zero-score}
use Rattle.entry.specs.Made.{made_entry}
use Rattle.write.proofs.EntryBytes.{entry-bytes, top-none, top-some}
use Rattle.write.proofs.make_entry.Goals as goal

pub returns-then-scores-eq0 : goal.returns-then-scores-eq0
returns-then-scores-eq0 c = let a = c.args in
    let if1 = c.if-scores-eq0 in
    let given = c.requires in
    let zero-score = c.zero_score-z in
    (c.copy_at.ensures) ∙ entry-bytes a.psize a.dsize a.depth a.size given.0 given.1 given.3 _ (ap length zero-score.ensures ∙ length-zero-score)
    ∙ ap (made_entry a.psize a.dsize a.depth a.size) (zero-score.ensures ∙ top-none a.scores.now if1.true)

pub slice_bounds-copy_at-end-3 : goal.slice_bounds-copy_at-end-3
slice_bounds-copy_at-end-3 c = let a = c.args in
    let given = c.requires in
    let some : 20 ≤ length a.scores.now = omega (arith, (c.if-scores-eq0.false), given.4) in simp length-take (omega (arith, some))

pub copy_at-requires-2 : goal.copy_at-requires-2
copy_at-requires-2 c = let a = c.args in
    let given = c.requires in
    let some : 20 ≤ length a.scores.now = omega (arith, (c.if-scores-eq0.false), given.4) in
    let l = length-take-le 20 a.scores.now some in omega (arith, l)

pub returns : goal.returns
returns c = let a = c.args in
    let if1 = c.if-scores-eq0 in
    let given = c.requires in
    let some : 20 ≤ length a.scores.now = omega (arith, if1.false, given.4) in
    (c.copy_at-2.ensures) ∙ entry-bytes a.psize a.dsize a.depth a.size given.0 given.1 given.3 _ (length-take-le 20 a.scores.now some)
    ∙ ap (made_entry a.psize a.dsize a.depth a.size) (top-some a.scores.now if1.false)
