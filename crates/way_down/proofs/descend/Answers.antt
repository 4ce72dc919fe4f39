use Rattle.leaf.specs.Fetch.{run_in}
use Rattle.std.proofs.lemmas.Result.{err_from_is_err_and}
use mathlib.Core.Path.{◌≡◌, refl, sym, ap, ◌∙◌}
use Prim.Native.Nat.{ℕ, suc, ◌-◌, ◌/◌, ◌%◌, ◌^◌, ◌<◌}
use native.Mathlib.Omega.{arith}
use lib.ListN.{length}
use Rattle.buffer.proofs.Put.{put_whole}
use Rattle.block.specs.Block.{parts_of}
use Rattle.block.specs.Log.{joined}
use Rattle.block.proofs.Joined.{sectors-joined}
use Rattle.entry.specs.Entry.{pointers}
use Rattle.leaf.specs.Leaf.{under}
use Rattle.way_down.proofs.Digits.{digit_small}
use Rattle.way_down.proofs.Steps.{look_room, under-empty, found-room, next-score, leaf_looked_up, level-refused, level-ragged, level-next}
use Rattle.way_down.proofs.descend.Goals as goal

pub nonzero_div-leaf : goal.nonzero_div-leaf
nonzero_div-leaf c = omega (arith, c.requires.1.dsize-from)

pub loop-level-init : goal.loop-level-init
loop-level-init c =
    let a = c.args in
    let p = c.requires in
    let copy_at = c.copy_at in
    let log = joined a.runs.end.0 a.runs.log.now a.runs.waiting.now in
    let t = copy_at.ensures ∙ put_whole _ a.top.now p.2 in
    (p.1.depth, ap length t ∙ p.2, λ page o q. ap (under log page a.e o a.e.depth) t)

pub returns-then-is_zero_score : goal.returns-then-is_zero_score
unfolding parts_of
returns-then-is_zero_score c =
    let a = c.args in
    let l = c.loop-level in
    let is-zero-score = c.is_zero_score in
    let if1 = c.if-is_zero_score in
    let log = joined a.runs.end.0 a.runs.log.now a.runs.waiting.now in
    record { room = (omega arith, omega arith); run = λ page o q. under-empty log page a.e o l.level l.score _ _ refl is-zero-score.ensures if1.true ∙ l.invariant.2 page o q }

pub type_at-kind-requires : goal.type_at-kind-requires
type_at-kind-requires c = omega (arith, c.loop-level.invariant.0)

pub fetch-requires : goal.fetch-requires
fetch-requires c =
    let p = c.requires in
    let loop = c.loop-level in
    (p.0, loop.invariant.1)

pub returns-in_err-b : goal.returns-in_err-b
returns-in_err-b c =
    let a = c.args in
    let l = c.loop-level in
    let fetch = c.fetch in
    let type_at = c.type_at-kind in
    let count_at = c.count_at in
    let loop-test = c.loop-level-test in
    let p = c.requires in
    let is-zero-score = c.is_zero_score in
    let if1 = c.if-is_zero_score in
    let log = joined a.runs.end.0 a.runs.log.now a.runs.waiting.now in
    let e : l.level ≡ suc (l.level - 1) = omega (arith, loop-test.true) in
    let back = err_from_is_err_and c.from_residual.result c.from_residual.ensures.1 in rw (back.1, back.2) (record {
      room = tt;
      run = λ page o q. ap (run_in page a.e o) (sym c.in_err-b.was) ∙ level-refused log page a.e o l.level (l.level - 1) e l.score _ is-zero-score.ensures if1.false
          _ type_at.ensures _ count_at.ensures fetch.result fetch.ensures _ c.in_err-b.was
          ∙ l.invariant.2 page o q;
    })

pub returns-then-b-ne0 : goal.returns-then-b-ne0
returns-then-b-ne0 c =
    let a = c.args in
    let l = c.loop-level in
    let fetch = c.fetch in
    let type_at = c.type_at-kind in
    let count_at = c.count_at in
    let loop-test = c.loop-level-test in
    let is-zero-score = c.is_zero_score in
    let if1 = c.if-is_zero_score in
    let if2 = c.if-b-ne0 in
    let log = joined a.runs.end.0 a.runs.log.now a.runs.waiting.now in
    let e : l.level ≡ suc (l.level - 1) = omega (arith, loop-test.true) in record {
      room = tt;
      run = λ page o q. level-ragged log page a.e o l.level (l.level - 1) e l.score _ is-zero-score.ensures if1.false
          _ type_at.ensures _ count_at.ensures fetch.result fetch.ensures _ c.in_ok-b.was if2.true
          ∙ l.invariant.2 page o q;
    }

pub overflow_sub-level : goal.overflow_sub-level
overflow_sub-level c = omega (arith, c.loop-level-test.true)

pub digit-index-requires : goal.digit-index-requires
digit-index-requires c =
    let given = c.requires in
    omega (arith, given.1.psize-from)

pub score_at-score-requires : goal.score_at-score-requires
score_at-score-requires c =
    let a = c.args in
    let p = c.requires in
    let l = c.loop-level in
    let fetch = c.fetch in
    let type_at = c.type_at-kind in
    let count_at = c.count_at in
    let digit = c.digit-index in
    let if2 = c.if-b-ne0 in
    let log = joined a.runs.end.0 a.runs.log.now a.runs.waiting.now in
    let room =
    found-room log type_at.result l.score count_at.result fetch.result fetch.ensures _ (sectors-joined a.runs.end.0 a.runs.log.now a.runs.waiting.now p.0) _ c.in_ok-b.was in
    let small = digit_small a.e.psize _ digit.result p.1.psize-from p.1.psize-to digit.ensures in
    (p.0, room, if2.false, omega (arith, small))

pub loop-level-smaller : goal.loop-level-smaller
loop-level-smaller c = omega (arith, c.loop-level-test.true)

pub loop-level-preserved : goal.loop-level-preserved
loop-level-preserved c =
    let a = c.args in
    let p = c.requires in
    let l = c.loop-level in
    let fetch = c.fetch in
    let type_at = c.type_at-kind in
    let count_at = c.count_at in
    let if2 = c.if-b-ne0 in
    let score-at = c.score_at-score in
    let loop-test = c.loop-level-test in
    let is-zero-score = c.is_zero_score in
    let if1 = c.if-is_zero_score in
    let digit = c.digit-index in
    let log = joined a.runs.end.0 a.runs.log.now a.runs.waiting.now in
    let room =
    found-room log type_at.result l.score count_at.result fetch.result fetch.ensures _ (sectors-joined a.runs.end.0 a.runs.log.now a.runs.waiting.now p.0) _ c.in_ok-b.was in
    let e : l.level ≡ suc (l.level - 1) = omega (arith, loop-test.true) in (
      omega (arith, l.invariant.0),
      next-score log _ _ _ room.1 score-at.ensures if2.false,
      λ page o q. level-next log page a.e o l.level (l.level - 1) e l.score _ is-zero-score.ensures if1.false
          _ type_at.ensures _ count_at.ensures fetch.result fetch.ensures _ c.in_ok-b.was _ _ if2.false
          (digit.ensures ∙ ap (λ (n : ℕ). n / pointers a.e ^ (l.level - 1) % pointers a.e) (sym q)) score-at.ensures
          ∙ l.invariant.2 page o q,
    )

pub returns : goal.returns
returns c =
    let a = c.args in
    let l = c.loop-level in
    let type_at = c.type_at in
    let fetch2 = c.fetch-2 in
    let loop-test = c.loop-level-test in
    let p = c.requires in
    let log = joined a.runs.end.0 a.runs.log.now a.runs.waiting.now in
    let t = type_at.result in
    let z : l.level ≡ 0 = omega (arith, loop-test.false) in record {
      room = look_room log t l.score a.e.dsize fetch2.result fetch2.ensures _ (sectors-joined a.runs.end.0 a.runs.log.now a.runs.waiting.now p.0);
      run = λ page o q. leaf_looked_up log page a.e o l.score t type_at.ensures fetch2.result fetch2.ensures
          ∙ ap (λ (n : ℕ). under log page a.e o n l.score) (sym z) ∙ l.invariant.2 page o q;
    }
