use mathlib.Core.Path.{sym, ap, ◌∙◌}
use Rattle.std.specs.Prelude.{Ok}
use Prim.Native.Nat.{◌*◌, ◌≤◌, ◌<◌}
use native.Mathlib.Omega.{arith}
use Rattle.results.specs.Sizes.{most_both}
use Rattle.tree_calls.specs.Tree.{packed}
use Rattle.file_bounds.proofs.Bounds.{stored-within, waiting-within, zeros_within, refused-within}
use Rattle.tree_calls.proofs.locate.Goals as goal

-- what is located lies in a log and its waiting part, and is no longer than a block
pub overflow_add-result : goal.overflow_add-result
overflow_add-result c =
    let s = c.args in
    let small : (c.in-Stored.at < 512 * most_both) × (c.in-Stored.length ≤ 57344) =
    stored-within s.log.now s.waiting.now s.page.now s.entry.now s.offset _ c.locate-located.ensures _ _ (c.in-Ok.is ∙ ap Ok c.in-Stored.is) in
    omega (arith, small.0, small.1)

pub overflow_add-result-in-Waiting : goal.overflow_add-result-in-Waiting
overflow_add-result-in-Waiting c =
    let s = c.args in
    let small : (c.in-Waiting.at < 512 * most_both) × (c.in-Waiting.length ≤ 57344) =
    waiting-within s.log.now s.waiting.now s.page.now s.entry.now s.offset _ c.locate-located.ensures _ _ (c.in-Ok.is ∙ ap Ok c.in-Waiting.is) in
    omega (arith, small.0, small.1)

pub overflow_add-result-in-Waiting-2 : goal.overflow_add-result-in-Waiting-2
overflow_add-result-in-Waiting-2 c =
    let s = c.args in
    let small : (c.in-Waiting.at < 512 * most_both) × (c.in-Waiting.length ≤ 57344) =
    waiting-within s.log.now s.waiting.now s.page.now s.entry.now s.offset _ c.locate-located.ensures _ _ (c.in-Ok.is ∙ ap Ok c.in-Waiting.is) in
    omega (arith, small.0, small.1)

pub overflow_add-result-in-Zeros : goal.overflow_add-result-in-Zeros
overflow_add-result-in-Zeros c =
    let s = c.args in
    omega (arith, zeros_within s.log.now s.waiting.now s.page.now s.entry.now s.offset _ c.locate-located.ensures _ (c.in-Ok.is ∙ ap Ok c.in-Zeros.is))

pub overflow_mul-result : goal.overflow_mul-result
overflow_mul-result c =
    let s = c.args in
    let small : (c.in-Stored.at < 512 * most_both) × (c.in-Stored.length ≤ 57344) =
    stored-within s.log.now s.waiting.now s.page.now s.entry.now s.offset _ c.locate-located.ensures _ _ (c.in-Ok.is ∙ ap Ok c.in-Stored.is) in
    omega (arith, small.0, small.1)

pub overflow_mul-result-in-Stored : goal.overflow_mul-result-in-Stored
overflow_mul-result-in-Stored c =
    let s = c.args in
    let small : (c.in-Stored.at < 512 * most_both) × (c.in-Stored.length ≤ 57344) =
    stored-within s.log.now s.waiting.now s.page.now s.entry.now s.offset _ c.locate-located.ensures _ _ (c.in-Ok.is ∙ ap Ok c.in-Stored.is) in
    omega (arith, small.0, small.1)

pub overflow_mul-result-in-Stored-2 : goal.overflow_mul-result-in-Stored-2
overflow_mul-result-in-Stored-2 c =
    let s = c.args in
    let small : (c.in-Stored.at < 512 * most_both) × (c.in-Stored.length ≤ 57344) =
    stored-within s.log.now s.waiting.now s.page.now s.entry.now s.offset _ c.locate-located.ensures _ _ (c.in-Ok.is ∙ ap Ok c.in-Stored.is) in
    omega (arith, small.0, small.1)

pub overflow_mul-result-in-Waiting : goal.overflow_mul-result-in-Waiting
overflow_mul-result-in-Waiting c =
    let s = c.args in
    let small : (c.in-Waiting.at < 512 * most_both) × (c.in-Waiting.length ≤ 57344) =
    waiting-within s.log.now s.waiting.now s.page.now s.entry.now s.offset _ c.locate-located.ensures _ _ (c.in-Ok.is ∙ ap Ok c.in-Waiting.is) in
    omega (arith, small.0, small.1)

pub overflow_mul-result-in-Waiting-2 : goal.overflow_mul-result-in-Waiting-2
overflow_mul-result-in-Waiting-2 c =
    let s = c.args in
    let small : (c.in-Waiting.at < 512 * most_both) × (c.in-Waiting.length ≤ 57344) =
    waiting-within s.log.now s.waiting.now s.page.now s.entry.now s.offset _ c.locate-located.ensures _ _ (c.in-Ok.is ∙ ap Ok c.in-Waiting.is) in
    omega (arith, small.0, small.1)

pub overflow_mul-result-in-Waiting-3 : goal.overflow_mul-result-in-Waiting-3
overflow_mul-result-in-Waiting-3 c =
    let s = c.args in
    let small : (c.in-Waiting.at < 512 * most_both) × (c.in-Waiting.length ≤ 57344) =
    waiting-within s.log.now s.waiting.now s.page.now s.entry.now s.offset _ c.locate-located.ensures _ _ (c.in-Ok.is ∙ ap Ok c.in-Waiting.is) in
    omega (arith, small.0, small.1)

pub overflow_mul-result-in-Zeros : goal.overflow_mul-result-in-Zeros
overflow_mul-result-in-Zeros c =
    let s = c.args in
    omega (arith, zeros_within s.log.now s.waiting.now s.page.now s.entry.now s.offset _ c.locate-located.ensures _ (c.in-Ok.is ∙ ap Ok c.in-Zeros.is))

pub overflow_mul-result-in-Zeros-2 : goal.overflow_mul-result-in-Zeros-2
overflow_mul-result-in-Zeros-2 c =
    let s = c.args in
    omega (arith, zeros_within s.log.now s.waiting.now s.page.now s.entry.now s.offset _ c.locate-located.ensures _ (c.in-Ok.is ∙ ap Ok c.in-Zeros.is))

pub refused-requires : goal.refused-requires
refused-requires c =
    let s = c.args in
    refused-within s.log.now s.waiting.now s.page.now s.entry.now s.offset _ c.locate-located.ensures _ c.in-Err.is

pub returns-in-Stored : goal.returns-in-Stored
returns-in-Stored c = sym (ap packed (sym c.locate-located.ensures ∙ (c.in-Ok.is ∙ ap Ok c.in-Stored.is)))

pub returns-in-Waiting : goal.returns-in-Waiting
returns-in-Waiting c = sym (ap packed (sym c.locate-located.ensures ∙ (c.in-Ok.is ∙ ap Ok c.in-Waiting.is)))

pub returns-in-Zeros : goal.returns-in-Zeros
returns-in-Zeros c = sym (ap packed (sym c.locate-located.ensures ∙ (c.in-Ok.is ∙ ap Ok c.in-Zeros.is)))

pub returns-in-Err : goal.returns-in-Err
returns-in-Err c = c.refused.ensures ∙ sym (ap packed (sym c.locate-located.ensures ∙ c.in-Err.is))
