use Rattle.std.specs.Prelude.{Err}
use Rattle.std.proofs.lemmas.Result.{err_from_is_err_and}
use mathlib.Core.Path.{◌≡◌, refl, sym, ap, subst, ◌∙◌}
use Prim.Native.Nat.{ℕ, ◌+◌, ◌*◌, ◌%◌, ◌≤◌, ◌<◌}
use native.Mathlib.Omega.{arith}
use lib.ListN.{length, drop}
use lib.Seq.{drop-drop}
use Rattle.buffer.specs.Bytes.{Bytes}
use Rattle.kind.proofs.Types.{pointer-lawful}
use Rattle.block.specs.Block.{parts_of}
use Rattle.tree.specs.Tree.{piece}
use Rattle.sector_log.specs.Parts.{Lent, beside}
use Rattle.sector_log.specs.Store.{after_store, store}
use Rattle.sector_log.specs.declared.Receipt.{Receipt}
use Rattle.writer.specs.Blocks.{cut_block}
use Rattle.writer.proofs.Cutting.{pointers-whole}
use Rattle.write.proofs.OnePiece.{piece-unchanged, piece-whole, score-room}
use Rattle.write.proofs.Level.{refused-not-done, Going, going_start, going_end, Turn, score-length, going-stopped, going_next}
use borrow.Author.Rules.{rules}
use Rattle.write.proofs.write_level.Goals as goal

pub loop-i-init : goal.loop-i-init
loop-i-init c =
    let a = c.args in
    (going_start a.kind a.width a.scores.now a.date.now (beside a.log.now a.waiting.now) (parts_of a.width (length a.scores.now)) a.scores.now, refl, refl, refl)

pub store_piece-receipt-requires : goal.store_piece-receipt-requires
store_piece-receipt-requires c =
    let a = c.args in
    let l = c.loop-i in
    let p = c.requires in
    let left : l.i < parts_of a.width (length a.scores.now) = omega (arith, c.loop-i-test.true, c.pieces-count.ensures) in (
      p.0,
      pointer-lawful a.kind p.1,
      omega (arith, p.2),
      p.3,
      omega (arith, p.6, l.invariant.1),
      subst (λ (n : ℕ). l.i < parts_of a.width n) (sym l.invariant.1) left,
      pointers-whole a.kind _ p.1 (piece-whole a.width l.i (length a.scores.now) p.4 p.5 l.scores l.invariant.1),
    )

-- a block is stored
turn : {kind width : ℕ} {src date : Bytes} {L₀ L L' : Lent} {count : ℕ} {scores : Bytes} {i : ℕ} {r : Receipt}
    → 20 ≤ width → i < count → count ≡ parts_of width (length src) → Going kind width src date L₀ (parts_of width (length src)) L scores i
    → drop (20 * i) scores ≡ drop (20 * i) src → after_store r L' ≡ store L date kind (cut_block kind (piece width i scores))
    → Turn kind width src date L₀ (parts_of width (length src)) L scores i r L'
turn {kind} {width} {src} {date} {L₀} {L} {L'} {count} {scores} {i} h lt e g f s = record {
  one_left = omega arith;
  going = g;
  stored = s ∙ ap (λ (x : Bytes). store L date kind (cut_block kind x)) (piece-unchanged width i src scores h f);
}

-- its score has room
room : {width size count n i : ℕ} → width % 20 ≡ 0 → size % 20 ≡ 0 → 20 ≤ width → i < count → count ≡ parts_of width size → n ≡ size → 20 * i + 20 ≤ n
room {width} {size} {count} {n} {i} hw hs h lt e z =
    let left : i < parts_of width size = omega arith in
    omega (arith, score-room width i size hw hs h left)

pub keep_score-requires : goal.keep_score-requires
keep_score-requires c =
    let T = turn c.requires.2 c.loop-i-test.true c.pieces-count.ensures c.loop-i.invariant.0 c.loop-i.invariant.3 c.store_piece-receipt.ensures in
    (room c.requires.4 c.requires.5 c.requires.2 c.loop-i-test.true c.pieces-count.ensures c.loop-i.invariant.1, score-length T)

pub returns-in_err-keep_score : goal.returns-in_err-keep_score
returns-in_err-keep_score c =
    let T = turn c.requires.2 c.loop-i-test.true c.pieces-count.ensures c.loop-i.invariant.0 c.loop-i.invariant.3 c.store_piece-receipt.ensures in
    let back = err_from_is_err_and c.from_residual.result c.from_residual.ensures.1 in
    rw (back.1 ∙ ap Err back.2 ∙ sym c.in_err-keep_score.was) (record { blocks = going-stopped T c.keep_score.ensures.end _ c.in_err-keep_score.was; scores = refused-not-done _ c.in_err-keep_score.was })

pub loop-i-preserved : goal.loop-i-preserved
loop-i-preserved c =
    let l = c.loop-i in
    let T = turn c.requires.2 c.loop-i-test.true c.pieces-count.ensures c.loop-i.invariant.0 c.loop-i.invariant.3 c.store_piece-receipt.ensures in
    let d = c.in_ok-keep_score.was in
    let g = going_next T c.keep_score.ensures.end d (c.keep_score.ensures.score d)
    (room c.requires.4 c.requires.5 c.requires.2 c.loop-i-test.true c.pieces-count.ensures c.loop-i.invariant.1) in
    let step : 20 * (l.i + 1) ≡ 20 * l.i + 20 = omega arith in
    let behind : (x : Bytes) → drop (20 * (l.i + 1)) x ≡ drop 20 (drop (20 * l.i) x) = λ x. ap (λ (m : ℕ). drop m x) step ∙ sym (drop-drop 20 (20 * l.i) x) in
    (g.0, search rules, search rules, g.1 ∙ behind l.scores ∙ ap (drop 20) l.invariant.3 ∙ sym (behind c.args.scores.now))

pub returns : goal.returns
returns c =
    let a = c.args in
    let turn = c.loop-i in
    let g = going_end a.kind a.width a.scores.now a.date.now (beside a.log.now a.waiting.now) (parts_of a.width (length a.scores.now))
    (beside a.log.now turn.waiting) turn.scores turn.i (omega (arith, c.loop-i-test.false, c.pieces-count.ensures)) turn.invariant.0 in
    record { blocks = g.0; scores = λ _. g.1 }
