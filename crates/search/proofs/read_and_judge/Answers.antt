use mathlib.Core.Path.{◌∙◌}
use native.Mathlib.Omega.{arith}
use lib.ListN.{length-take}
use Rattle.search.proofs.Reading.{unread, room, read-card}
use Rattle.search.proofs.read_and_judge.Goals as goal

pub returns-then-size-eq0 : goal.returns-then-size-eq0
returns-then-size-eq0 c =
    let a = c.args in
    let q = c.requires in
    let if1 = c.if-size-eq0 in
    let judge = c.judge in
    unread a.log.now a.waiting.now a.entry.now a.query.now a.d.now a.size _ q.2 if1.true judge.ensures

pub slice_bounds-once_read-end : goal.slice_bounds-once_read-end
slice_bounds-once_read-end c =
    let a = c.args in
    let q = c.requires in
    let if1 = c.if-size-eq0 in
    let fill = c.fill-filled in
    let d = c.d-1 in
    omega (arith, room a.log.now a.waiting.now a.entry.now a.d.now a.size q.0 q.1 q.2 q.3 if1.false _ _ fill.ensures)

pub slice_bounds-once_read-end-2 : goal.slice_bounds-once_read-end-2
slice_bounds-once_read-end-2 c =
    let a = c.args in
    let q = c.requires in
    let if1 = c.if-size-eq0 in
    let fill = c.fill-filled in
    let d = c.d-1 in
    let k = room a.log.now a.waiting.now a.entry.now a.d.now a.size q.0 q.1 q.2 q.3 if1.false _ _ fill.ensures in
    simp length-take (omega (arith, k))

pub returns : goal.returns
returns c =
    let a = c.args in
    let q = c.requires in
    let if1 = c.if-size-eq0 in
    let fill = c.fill-filled in
    let once-read = c.once_read in
    once-read.ensures
    ∙ read-card a.log.now a.waiting.now a.entry.now a.d.now a.size q.0 q.1 q.2 q.3 if1.false _ _ fill.ensures a.query.now
