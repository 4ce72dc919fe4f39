use Rattle.std.specs.Prelude.{Err}
use Rattle.std.proofs.lemmas.Result.{err_from_is_err_and}
use mathlib.Core.Path.{◌≡◌, sym, ap, ◌∙◌}
use Prim.Native.Nat.{ℕ, ◌*◌, ◌≤◌}
use native.Mathlib.Omega.{arith}
use lib.ListN.{length}
use Rattle.block.specs.Block.{parts_of}
use Rattle.sector_log.specs.Parts.{beside}
use Rattle.writer.proofs.Levels.{few_pieces, leaf-refused, leaves-stored, top-is, width_bounds}
use borrow.Author.Rules.{rules}
use Rattle.write.proofs.write_blocks.Goals as goal

pub returns-in_err-write_leaves : goal.returns-in_err-write_leaves
returns-in_err-write_leaves c = let a = c.args in
    let write-leaves = c.write_leaves in
    let back = err_from_is_err_and c.from_residual.result c.from_residual.ensures.1 in
    rw (back.1 ∙ ap Err back.2 ∙ sym c.in_err-write_leaves.was) (record { blocks = leaf-refused a.slice.now a.dsize a.psize a.depth a.date.now (beside a.log.now a.waiting.now) _ _ write-leaves.ensures.blocks _ (c.in_err-write_leaves.was); top = λ q. let p = (c.in_err-write_leaves.was) in let z : ◌≡◌ {A = ℕ} 0 1 = cc in absurd (omega arith) })

pub overflow_mul-psize : goal.overflow_mul-psize
overflow_mul-psize c = omega (arith, (c.requires.5))

pub write_levels-requires : goal.write_levels-requires
write_levels-requires c = let a = c.args in
    let given = c.requires in
    let w = width_bounds a.psize given.4 given.5 in
    let few = few_pieces a.dsize (length a.slice.now) given.2 in
    let most : 20 * parts_of a.dsize (length a.slice.now) ≤ 1146880 = omega (arith, few, given.1) in
    (given.0, omega (arith, w.0), w.1, w.2, given.6, search rules, search rules)

pub returns : goal.returns
returns c = let a = c.args in
    let write-leaves = c.write_leaves in
    let write-levels = c.write_levels in
    let f = write-leaves.ensures.scores c.in_ok-write_leaves.was in record {
      blocks = leaves-stored a.slice.now a.dsize a.psize a.depth a.date.now (beside a.log.now a.waiting.now) _ _ write-leaves.ensures.blocks c.in_ok-write_leaves.was _ f _ _
          write-levels.ensures.blocks;
      top = λ q. top-is a.slice.now a.dsize a.psize a.depth _ _ f (write-levels.ensures.top q);
    }
