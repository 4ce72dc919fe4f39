use mathlib.Core.Path.{sym, ap, ◌∙◌}
use Rattle.std.specs.Prelude.{Err}
use Rattle.std.proofs.lemmas.Result.{err_from_is_err_and}
use Prim.Native.Nat.{ℕ, ◌*◌, ◌≤◌}
use native.Mathlib.Omega.{arith}
use lib.ListN.{length, length-take}
use lib.Seq.{length-take-le}
use Rattle.writer.proofs.Levels.{few_pieces}
use Rattle.writer.proofs.Tested.{tested-refused, tested-done}
use borrow.Author.Rules.{rules}
use Rattle.write.proofs.write_tested.Goals as goal

pub overflow_mul-n : goal.overflow_mul-n
overflow_mul-n c = let a = c.args in
    let given = c.requires in
    omega (arith, few_pieces a.dsize (length a.slice.now) given.2, (c.pieces-n.ensures), given.1)

pub slice_bounds-write_blocks-end : goal.slice_bounds-write_blocks-end
slice_bounds-write_blocks-end c = let a = c.args in
    let given = c.requires in
    omega (arith, few_pieces a.dsize (length a.slice.now) given.2, (c.pieces-n.ensures), given.1, given.8)

pub slice_bounds-write_blocks-end-2 : goal.slice_bounds-write_blocks-end-2
slice_bounds-write_blocks-end-2 c = let a = c.args in
    let pieces = c.pieces-n in
    let given = c.requires in
    let f : 20 * pieces.result ≤ length a.scores.now = omega (arith, few_pieces a.dsize (length a.slice.now) given.2, pieces.ensures, given.1, given.8) in
    simp length-take (omega (arith, f))

pub write_blocks-ended-requires : goal.write_blocks-ended-requires
write_blocks-ended-requires c = let a = c.args in
    let pieces = c.pieces-n in
    let given = c.requires in
    let f : 20 * pieces.result ≤ length a.scores.now = omega (arith, few_pieces a.dsize (length a.slice.now) given.2, pieces.ensures, given.1, given.8) in
    (given.0, given.1, given.2, given.3, given.4, given.5, given.6, length-take-le (20 * pieces.result) a.scores.now f ∙ ap (λ (k : ℕ). 20 * k) pieces.ensures)

pub slice_bounds-make_entry-end : goal.slice_bounds-make_entry-end
slice_bounds-make_entry-end c = let a = c.args in
    let pieces = c.pieces-n in
    let given = c.requires in
    let f : 20 * pieces.result ≤ length a.scores.now = omega (arith, few_pieces a.dsize (length a.slice.now) given.2, pieces.ensures, given.1, given.8) in search rules

pub slice_bounds-make_entry-end-2 : goal.slice_bounds-make_entry-end-2
slice_bounds-make_entry-end-2 c = let a = c.args in
    let pieces = c.pieces-n in
    let given = c.requires in
    let f : 20 * pieces.result ≤ length a.scores.now = omega (arith, few_pieces a.dsize (length a.slice.now) given.2, pieces.ensures, given.1, given.8) in
    simp length-take (search rules)

pub make_entry-e-requires : goal.make_entry-e-requires
make_entry-e-requires c = let a = c.args in
    let pieces = c.pieces-n in
    let given = c.requires in
    let f : 20 * pieces.result ≤ length a.scores.now = omega (arith, few_pieces a.dsize (length a.slice.now) given.2, pieces.ensures, given.1, given.8) in
    (given.5, given.3, given.6, omega (arith, given.1, given.3), simp length-take (search rules))

pub slice_bounds-clear-end : goal.slice_bounds-clear-end
slice_bounds-clear-end c = let a = c.args in
    let pieces = c.pieces-n in
    let given = c.requires in
    let f : 20 * pieces.result ≤ length a.scores.now = omega (arith, few_pieces a.dsize (length a.slice.now) given.2, pieces.ensures, given.1, given.8) in search rules

pub slice_bounds-clear-end-2 : goal.slice_bounds-clear-end-2
slice_bounds-clear-end-2 c = let a = c.args in
    let pieces = c.pieces-n in
    let given = c.requires in
    let f : 20 * pieces.result ≤ length a.scores.now = omega (arith, few_pieces a.dsize (length a.slice.now) given.2, pieces.ensures, given.1, given.8) in
    simp length-take (search rules)

pub returns-in_err-ended : goal.returns-in_err-ended
returns-in_err-ended c =
    let a = c.args in
    let clear = c.clear in
    let pieces = c.pieces-n in
    let given = c.requires
    in
    let write-blocks = c.write_blocks-ended in
    let f : 20 * pieces.result ≤ length a.scores.now = omega (arith, few_pieces a.dsize (length a.slice.now) given.2, pieces.ensures, given.1, given.8) in
    let back = err_from_is_err_and c.from_residual.result c.from_residual.ensures.1 in
    rw (back.1 ∙ ap Err back.2 ∙ sym c.in_err-ended.was) (tested-refused a.log.now a.waiting.now a.date.now a.slice.now a.dsize a.psize a.entry.now a.scores.now a.depth _ _ write-blocks.ensures.blocks _
    write-blocks.ensures.top (20 * pieces.result) (ap (λ (k : ℕ). 20 * k) pieces.ensures) f _ clear.ensures _ (c.in_err-ended.was) (search rules))

pub returns : goal.returns
returns c =
    let a = c.args in
    let clear = c.clear in
    let make-entry = c.make_entry-e in
    let pieces = c.pieces-n in
    let given = c.requires in
    let write-blocks = c.write_blocks-ended in
    let f : 20 * pieces.result ≤ length a.scores.now = omega (arith, few_pieces a.dsize (length a.slice.now) given.2, pieces.ensures, given.1, given.8) in
    tested-done a.log.now a.waiting.now a.date.now a.slice.now a.dsize a.psize a.entry.now a.scores.now a.depth _ _ write-blocks.ensures.blocks _
    write-blocks.ensures.top (20 * pieces.result) (ap (λ (k : ℕ). 20 * k) pieces.ensures) f _ clear.ensures c.in_ok-ended.was _ make-entry.ensures _
    (c.copy_at.ensures) (search rules) (search rules)
