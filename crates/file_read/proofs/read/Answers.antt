use mathlib.Core.Path.{refl, sym, ap, ◌∙◌}
use Rattle.std.specs.Prelude.{Ok}
use native.Mathlib.Nat.{add-sub_cancel_left, zero-add}
use native.Mathlib.Omega.{arith}
use lib.ListN.{length-take}
use Rattle.file.proofs.Inside.{stored_in_lem, waiting_in, zeros_in}
use Rattle.file_read.proofs.read.Goals as goal

pub overflow_add-end : goal.overflow_add-end
overflow_add-end c =
    let a = c.args in
    let locate = c.locate in
    omega (arith, stored_in_lem a.log.now a.waiting.now a.page.now a.entry.now a.offset _ locate.ensures _ _ (c.in-Ok.is ∙ ap Ok c.in-Stored.is))

pub slice_bounds-result-end-in-Stored : goal.slice_bounds-result-end-in-Stored
slice_bounds-result-end-in-Stored c =
    let a = c.args in
    let locate = c.locate in
    omega (arith, stored_in_lem a.log.now a.waiting.now a.page.now a.entry.now a.offset _ locate.ensures _ _ (c.in-Ok.is ∙ ap Ok c.in-Stored.is))

pub returns-in-Stored : goal.returns-in-Stored
returns-in-Stored c =
    let locate = c.locate in
    rw (← locate.ensures, (c.in-Ok.is ∙ ap Ok c.in-Stored.is)) (record { bytes = rw (add-sub_cancel_left _ _); block = refl; place = refl })

pub overflow_add-end-in-Waiting : goal.overflow_add-end-in-Waiting
overflow_add-end-in-Waiting c =
    let a = c.args in
    let locate = c.locate in
    omega (arith, waiting_in a.log.now a.waiting.now a.page.now a.entry.now a.offset _ locate.ensures _ _ (c.in-Ok.is ∙ ap Ok c.in-Waiting.is))

pub slice_bounds-result-end-in-Waiting : goal.slice_bounds-result-end-in-Waiting
slice_bounds-result-end-in-Waiting c =
    let a = c.args in
    let locate = c.locate in
    omega (arith, waiting_in a.log.now a.waiting.now a.page.now a.entry.now a.offset _ locate.ensures _ _ (c.in-Ok.is ∙ ap Ok c.in-Waiting.is))

pub returns-in-Waiting : goal.returns-in-Waiting
returns-in-Waiting c =
    let locate = c.locate in
    rw (← locate.ensures, (c.in-Ok.is ∙ ap Ok c.in-Waiting.is)) (record { bytes = rw (add-sub_cancel_left _ _); block = refl; place = refl })

pub slice_bounds-result-end-in-Zeros : goal.slice_bounds-result-end-in-Zeros
slice_bounds-result-end-in-Zeros c =
    let a = c.args in
    let locate = c.locate in
    simp length-take (omega (arith, zeros_in a.log.now a.waiting.now a.page.now a.entry.now a.offset _ locate.ensures _ (c.in-Ok.is ∙ ap Ok c.in-Zeros.is)))

pub returns-in-Zeros : goal.returns-in-Zeros
returns-in-Zeros c =
    let locate = c.locate in
    rw (← locate.ensures, (c.in-Ok.is ∙ ap Ok c.in-Zeros.is)) (record { bytes = refl; block = refl; place = sym (zero-add _) })

pub returns-in_default : goal.returns-in_default
returns-in_default c =
    let locate = c.locate in
    rw (← locate.ensures, c.in_default.is) (record { bytes = refl; block = refl; place = sym (zero-add _) })
