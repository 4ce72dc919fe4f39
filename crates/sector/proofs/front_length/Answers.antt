use mathlib.Core.Path.{sym, ◌∙◌}
use Prim.Native.Nat.{◌-◌}
use native.Mathlib.Omega.{arith}
use lib.Seq.{length-take-le}
use borrow.Author.Tests.{not-true, not-false}
use Rattle.buffer.proofs.Bytes.{same_true}
use Rattle.sector.proofs.Dates.{unequal, denied, dated-end, dated-name, dated-date, dated_by, front-none, front-some}
use Rattle.sector.proofs.front_length.Goals as goal

pub returns-then-s-ne10 : goal.returns-then-s-ne10
returns-then-s-ne10 c =
    front-none (c.args.s.now) (λ e. c.if-s-ne10.true (dated-end (c.args.s.now) e))

pub slice_bounds-equal-end : goal.slice_bounds-equal-end
slice_bounds-equal-end c =
    sym (length-take-le 5 (c.args.s.now) (omega arith))

pub returns-then-not-equal : goal.returns-then-not-equal
returns-then-not-equal c = let a = c.args in
    front-none a.s.now (λ e. unequal _ _ _ (c.equal.ensures) c.if-not-equal.true (dated-name a.s.now e))

pub returns-then-not-is_date : goal.returns-then-not-is_date
returns-then-not-is_date c = let a = c.args in
    front-none a.s.now (λ e. denied _ _ (c.is_date.ensures) c.if-not-is_date.true (dated-date a.s.now e))

pub returns : goal.returns
returns c = let a = c.args in
    let equal = c.equal in
    let if1 = c.if-s-ne10 in
    let if2 = c.if-not-equal in
    let given = c.requires in
    front-some a.s.now (dated_by a.s.now given (same_true _ _ (sym equal.ensures ∙ if2.false)) if1.false
    (sym (c.is_date.ensures) ∙ c.if-not-is_date.false))
