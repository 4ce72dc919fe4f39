use mathlib.Core.Path.{sym, ap, ◌∙◌}
use Rattle.std.specs.Prelude.{Ok}
use Prim.Native.Nat.{◌≤◌}
use native.Mathlib.Omega.{arith}
use Rattle.kind.specs.Kind.{longest}
use Rattle.change_calls.specs.Changes.{difference_packed}
use Rattle.change_calls.proofs.Changes.{first_small, second-small}
use Rattle.change_calls.proofs.difference.Goals as goal

-- The byte is one of the longest block.
pub overflow_mul-result : goal.overflow_mul-result
overflow_mul-result c = omega (arith, first_small c.args.first.now c.args.second.now _ _ c.locate-located.ensures (c.in-Ok.is ∙ ap Ok c.in-First.is))

pub overflow_add-result : goal.overflow_add-result
overflow_add-result c = omega (arith, first_small c.args.first.now c.args.second.now _ _ c.locate-located.ensures (c.in-Ok.is ∙ ap Ok c.in-First.is))

pub overflow_mul-result-in-First : goal.overflow_mul-result-in-First
overflow_mul-result-in-First c = omega (arith, first_small c.args.first.now c.args.second.now _ _ c.locate-located.ensures (c.in-Ok.is ∙ ap Ok c.in-First.is))

pub overflow_mul-result-in-Second : goal.overflow_mul-result-in-Second
overflow_mul-result-in-Second c = omega (arith, second-small c.args.first.now c.args.second.now _ _ c.locate-located.ensures (c.in-Ok.is ∙ ap Ok c.in-Second.is))

pub overflow_add-result-in-Second : goal.overflow_add-result-in-Second
overflow_add-result-in-Second c = omega (arith, second-small c.args.first.now c.args.second.now _ _ c.locate-located.ensures (c.in-Ok.is ∙ ap Ok c.in-Second.is))

pub overflow_mul-result-in-Second-2 : goal.overflow_mul-result-in-Second-2
overflow_mul-result-in-Second-2 c = omega (arith, second-small c.args.first.now c.args.second.now _ _ c.locate-located.ensures (c.in-Ok.is ∙ ap Ok c.in-Second.is))

pub returns-in-First : goal.returns-in-First
returns-in-First c = sym (ap difference_packed (c.in-Ok.is ∙ ap Ok c.in-First.is)) ∙ ap difference_packed c.locate-located.ensures

pub returns-in-Second : goal.returns-in-Second
returns-in-Second c = sym (ap difference_packed (c.in-Ok.is ∙ ap Ok c.in-Second.is)) ∙ ap difference_packed c.locate-located.ensures

pub returns-in-Nowhere : goal.returns-in-Nowhere
returns-in-Nowhere c = sym (ap difference_packed (c.in-Ok.is ∙ ap Ok c.in-Nowhere.is)) ∙ ap difference_packed c.locate-located.ensures

pub returns-in-Err : goal.returns-in-Err
returns-in-Err c =
    c.number.ensures ∙ sym (ap difference_packed c.in-Err.is) ∙ ap difference_packed c.locate-located.ensures
