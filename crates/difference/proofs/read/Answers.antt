use mathlib.Core.Path.{refl, sym, ap, ◌∙◌}
use Rattle.std.specs.Prelude.{Ok}
use Prim.Native.Nat.{◌+◌, ◌≤◌}
use native.Mathlib.Nat.{add-sub_cancel_left, zero-add}
use native.Mathlib.Omega.{arith}
use lib.ListN.{length}
use Rattle.difference.proofs.First.{first-within, second-within}
use Rattle.difference.proofs.read.Goals as goal

pub returns-in-First : goal.returns-in-First
returns-in-First c =
    rw (← c.locate.ensures, (c.in-Ok.is ∙ ap Ok c.in-First.is)) (record { bytes = rw (add-sub_cancel_left _ _); block = refl; place = refl })

pub returns-in-Second : goal.returns-in-Second
returns-in-Second c =
    rw (← c.locate.ensures, (c.in-Ok.is ∙ ap Ok c.in-Second.is)) (record { bytes = rw (add-sub_cancel_left _ _); block = refl; place = refl })

pub returns-in-Nowhere : goal.returns-in-Nowhere
returns-in-Nowhere c =
    rw (← c.locate.ensures, (c.in-Ok.is ∙ ap Ok c.in-Nowhere.is)) (record { bytes = refl; block = refl; place = sym (zero-add _) })

pub returns-in_default : goal.returns-in_default
returns-in_default c =
    rw (← c.locate.ensures, c.in_default.is) (record { bytes = refl; block = refl; place = sym (zero-add _) })

pub overflow_add-end : goal.overflow_add-end
overflow_add-end c = omega (arith, first-within c.args.a.now c.args.b.now _ (sym c.locate.ensures ∙ (c.in-Ok.is ∙ ap Ok c.in-First.is)))

pub slice_bounds-result-end-in-First : goal.slice_bounds-result-end-in-First
slice_bounds-result-end-in-First c = omega (arith, first-within c.args.a.now c.args.b.now _ (sym c.locate.ensures ∙ (c.in-Ok.is ∙ ap Ok c.in-First.is)))

pub overflow_add-end-in-Second : goal.overflow_add-end-in-Second
overflow_add-end-in-Second c = omega (arith, second-within c.args.a.now c.args.b.now _ (sym c.locate.ensures ∙ (c.in-Ok.is ∙ ap Ok c.in-Second.is)))

pub slice_bounds-result-end-in-Second : goal.slice_bounds-result-end-in-Second
slice_bounds-result-end-in-Second c = omega (arith, second-within c.args.a.now c.args.b.now _ (sym c.locate.ensures ∙ (c.in-Ok.is ∙ ap Ok c.in-Second.is)))
