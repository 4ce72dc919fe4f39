use Rattle.index.proofs.Turns.{entered-free, entered-full}
use Rattle.index.proofs.enter.Goals as goal

pub returns-then-p-b : goal.returns-then-p-b
returns-then-p-b c = let args = c.args in
    let bucket-of = c.bucket_of-b in
    let first-free = c.first_free-p in
    let if1 = c.if-p-b in
    let given = c.requires in
    let write-entry = c.write_entry in
    let a = args in
    let b = bucket-of in
    let w = write-entry in
    entered-free a.index.now a.score.now a.kind a.first.0 b.result b.ensures.places _ first-free.ensures _ b.ensures.within.1 if1.true given w.ensures

pub returns-else-p-b : goal.returns-else-p-b
returns-else-p-b c =
    let a = c.args in
    let b = c.bucket_of-b in
    entered-full a.index.now a.score.now a.kind a.first.0 b.result b.ensures.places _ c.first_free-p.ensures c.if-p-b.false
