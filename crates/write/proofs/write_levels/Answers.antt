use Rattle.std.specs.Prelude.{Err}
use Rattle.std.proofs.lemmas.Result.{err_from_is_err_and}
use mathlib.Core.Path.{◌≡◌, refl, ap, ◌∙◌, sym}
use Prim.Native.Nat.{ℕ, ◌-◌, ◌*◌, ◌%◌, ◌≤◌}
use native.Mathlib.Omega.{arith}
use lib.ListN.{length, length-take}
use lib.Seq.{length-take-le}
use Rattle.block.specs.Block.{parts_of}
use Rattle.sector_log.specs.Parts.{beside}
use Rattle.writer.specs.Blocks.{scores_at, pointer_blocks, top_of}
use Rattle.writer.specs.WriteFile.{store_all}
use Rattle.writer.proofs.Levels.{pointer_type_lem, fewer_scores, Climbing, climbing_start, climbing_end, climbing_stopped, climbing_next}
use borrow.Author.Rules.{rules}
use Rattle.write.proofs.write_levels.Goals as goal

pub loop-k-init : goal.loop-k-init
loop-k-init c = let a = c.args in
    let given = c.requires in
    (climbing_start a.width a.scores.now a.date.now (beside a.log.now a.waiting.now) given.5, refl, refl)

pub slice_bounds-write_level-end : goal.slice_bounds-write_level-end
slice_bounds-write_level-end c = omega (arith, (c.loop-k.invariant.0).most, (c.loop-k.invariant.1))

pub slice_bounds-write_level-end-in-loop-k : goal.slice_bounds-write_level-end-in-loop-k
slice_bounds-write_level-end-in-loop-k c = let turn = c.loop-k in
    let f : turn.n ≤ length turn.scores = omega (arith, turn.invariant.0.most, turn.invariant.1) in simp length-take (omega (arith, f))

pub write_level-requires : goal.write_level-requires
write_level-requires c = let turn = c.loop-k in
    let given = c.requires in
    let l = length-take-le turn.n turn.scores (omega (arith, turn.invariant.0.most, turn.invariant.1)) in (
      given.0,
      pointer_type_lem turn.k (omega (arith, (c.loop-k-test.true), given.4)),
      given.1,
      given.2,
      given.3,
      ap (λ (x : ℕ). x % 20) l ∙ turn.invariant.0.has-whole-scores,
      omega (arith, l, turn.invariant.0.most, given.6),
    )

pub returns-in_err-write_level : goal.returns-in_err-write_level
returns-in_err-write_level c = let a = c.args in
    let turn = c.loop-k in
    let loop-test = c.loop-k-test in
    let write-level = c.write_level in
    let back = err_from_is_err_and c.from_residual.result c.from_residual.ensures.1 in
    rw (back.1 ∙ ap Err back.2 ∙ sym c.in_err-write_level.was) (record {
      blocks = climbing_stopped a.width a.scores.now a.date.now (beside a.log.now a.waiting.now) (beside a.log.now turn.waiting) turn.scores turn.n turn.k turn.invariant.0 _ _
          write-level.ensures.blocks _ a.depth (c.in_err-write_level.was) loop-test.true;
      top = λ q. let p = (c.in_err-write_level.was) in let z : ◌≡◌ {A = ℕ} 0 1 = cc in absurd (omega arith);
    })

pub pieces-n-requires : goal.pieces-n-requires
pieces-n-requires c = let turn = c.loop-k in
    let given = c.requires in
    (omega (arith, given.1), given.2, omega (arith, turn.invariant.0.most, given.6))

pub overflow_mul-n : goal.overflow_mul-n
overflow_mul-n c = let a = c.args in
    let turn = c.loop-k in
    let given = c.requires in
    omega (arith, (c.pieces-n.ensures), fewer_scores a.width turn.n given.1 turn.invariant.0.has-whole-scores, turn.invariant.0.most, given.6)

pub loop-k-preserved : goal.loop-k-preserved
loop-k-preserved c = let a = c.args in
    let turn = c.loop-k in
    let loop-test = c.loop-k-test in
    let given = c.requires in
    let write-level = c.write_level in
    let e : 20 * (c.pieces-n.result) ≡ 20 * parts_of a.width turn.n = omega (arith, (c.pieces-n.ensures)) in (
      climbing_next a.width a.scores.now a.date.now (beside a.log.now a.waiting.now) (beside a.log.now turn.waiting) turn.scores turn.n turn.k turn.invariant.0 _ _
          write-level.ensures.blocks given.1 c.in_ok-write_level.was _ (search rules) (write-level.ensures.scores c.in_ok-write_level.was) turn.invariant.1 _ refl _ e,
      search rules,
      search rules,
    )

pub returns : goal.returns
returns c = let a = c.args in
    let turn = c.loop-k in
    let e : turn.k ≡ a.depth = omega (arith, c.loop-k-test.false) in
    let g = turn.invariant.0 in record {
      blocks = g.blocks ∙ ap (λ (x : ℕ). store_all (beside a.log.now a.waiting.now) a.date.now (pointer_blocks a.width a.scores.now x)) e;
      top = λ _. climbing_end a.width a.scores.now a.date.now (beside a.log.now a.waiting.now) (beside a.log.now turn.waiting) turn.scores turn.n turn.k turn.invariant.1 g
          ∙ ap (λ (x : ℕ). top_of (scores_at a.width a.scores.now x)) e;
    }
