use Rattle.std.specs.Prelude.{Err}
use Rattle.std.proofs.lemmas.Result.{err_from_is_err_and}
use mathlib.Core.Path.{◌≡◌, refl, sym, ◌∙◌, ap}
use Prim.Native.Nat.{ℕ, ◌*◌, ◌<◌}
use native.Mathlib.Omega.{arith}
use lib.ListN.{length}
use lib.Seq.{take_all}
use Rattle.buffer.specs.Bytes.{Bytes}
use Rattle.block.specs.Block.{parts_of}
use Rattle.tree.specs.Tree.{piece}
use Rattle.sector_log.specs.Parts.{Lent, beside}
use Rattle.sector_log.specs.Store.{after_store, store}
use Rattle.sector_log.specs.declared.Receipt.{Receipt}
use Rattle.writer.specs.Blocks.{cut_block}
use Rattle.writer.proofs.Cutting.{data_lawful, data_whole}
use Rattle.write.proofs.Level.{refused-not-done, Going, going_start, going_end, Turn, score-length, going-stopped, going_next}
use borrow.Author.Rules.{rules}
use Rattle.write.proofs.write_leaves.Goals as goal

pub loop-i-init : goal.loop-i-init
loop-i-init c =
    let a = c.args in
    (going_start 13 a.dsize a.slice.now a.date.now (beside a.log.now a.waiting.now) (parts_of a.dsize (length a.slice.now)) a.scores.now, refl, refl)

pub store_piece-receipt-requires : goal.store_piece-receipt-requires
store_piece-receipt-requires c =
    let p = c.requires in
    (p.0, data_lawful, p.2, p.3, omega (arith, p.1), omega (arith, c.loop-i-test.true, c.pieces-count.ensures), data_whole _)

-- a leaf is stored
turn : {dsize : ℕ} {slice date : Bytes} {L₀ L L' : Lent} {count : ℕ} {scores : Bytes} {i : ℕ} {r : Receipt}
    → i < count → count ≡ parts_of dsize (length slice) → Going 13 dsize slice date L₀ (parts_of dsize (length slice)) L scores i
    → after_store r L' ≡ store L date 13 (cut_block 13 (piece dsize i slice)) → Turn 13 dsize slice date L₀ (parts_of dsize (length slice)) L scores i r L'
turn lt e g s = record { one_left = omega arith; going = g; stored = s }

pub keep_score-requires : goal.keep_score-requires
keep_score-requires c = (
  omega (arith, c.loop-i-test.true, c.pieces-count.ensures, c.loop-i.invariant.1, c.requires.4),
  score-length (turn c.loop-i-test.true c.pieces-count.ensures c.loop-i.invariant.0 c.store_piece-receipt.ensures),
)

pub returns-in_err-keep_score : goal.returns-in_err-keep_score
returns-in_err-keep_score c =
    let T = turn c.loop-i-test.true c.pieces-count.ensures c.loop-i.invariant.0 c.store_piece-receipt.ensures in
    let back = err_from_is_err_and c.from_residual.result c.from_residual.ensures.1 in
    rw (back.1 ∙ ap Err back.2 ∙ sym c.in_err-keep_score.was) (record { blocks = going-stopped T c.keep_score.ensures.end _ c.in_err-keep_score.was; scores = refused-not-done _ c.in_err-keep_score.was })

pub loop-i-preserved : goal.loop-i-preserved
loop-i-preserved c =
    let T = turn c.loop-i-test.true c.pieces-count.ensures c.loop-i.invariant.0 c.store_piece-receipt.ensures in
    let d = c.in_ok-keep_score.was in (
      (going_next T c.keep_score.ensures.end d (c.keep_score.ensures.score d) (omega (arith, c.loop-i-test.true, c.pieces-count.ensures, c.loop-i.invariant.1, c.requires.4))).0,
      search rules,
      search rules,
    )

pub returns : goal.returns
returns c =
    let a = c.args in
    let turn = c.loop-i in
    let g = going_end 13 a.dsize a.slice.now a.date.now (beside a.log.now a.waiting.now) (parts_of a.dsize (length a.slice.now)) (beside a.log.now turn.waiting)
    turn.scores turn.i (omega (arith, c.loop-i-test.false, c.pieces-count.ensures)) turn.invariant.0 in
    record { blocks = g.0; scores = λ _. sym (take_all (20 * parts_of a.dsize (length a.slice.now)) turn.scores (omega (arith, turn.invariant.1, c.requires.4))) ∙ g.1 }
