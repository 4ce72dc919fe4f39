use mathlib.Core.Path.{sym, ap, ◌∙◌}
use Prim.Native.Nat.{ℕ, ◌+◌}
use lib.ListN.{length}
use Rattle.block_calls.specs.Blocks.{cut_result}
use Rattle.block_calls.proofs.cut.Goals as goal

pub returns-in-Ok : goal.returns-in-Ok
returns-in-Ok c = sym (ap (cut_result _) (sym c.cut-kept.ensures ∙ c.in-Ok.is))

pub returns-in-Err : goal.returns-in-Err
returns-in-Err c = let a = c.args in
    let cut-here = c.cut-kept in
    let m = length a.block.now in ap (λ (x : ℕ). m + x) c.number.ensures ∙ sym (ap (cut_result m) (sym cut-here.ensures ∙ c.in-Err.is))
