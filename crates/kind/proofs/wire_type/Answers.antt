use native.Mathlib.Omega.{arith}
use borrow.Author.Tests.{le-leb, lt-leb, ne_eqb}
use Rattle.kind.specs.Kind.{wire_type}
use Rattle.kind.proofs.wire_type.Goals as goal

-- `kind::wire_type` meets its contract: a case for each arm.
pub returns-in-0 : goal.returns-in-0
unfolding wire_type
returns-in-0 c = rw c.in-0.is

pub returns-in-8 : goal.returns-in-8
unfolding wire_type
returns-in-8 c = rw c.in-8.is

pub returns-in-16 : goal.returns-in-16
unfolding wire_type
returns-in-16 c = rw c.in-16.is

pub returns-in-1-to-7 : goal.returns-in-1-to-7
unfolding wire_type
returns-in-1-to-7 c = let e = c.args.e in rw (ne_eqb e 0 (λ z. omega arith), le-leb e 7 (omega arith))

pub returns-in-9-to-15 : goal.returns-in-9-to-15
unfolding wire_type
returns-in-9-to-15 c = let e = c.args.e in rw (ne_eqb e 0 (λ z. omega arith), lt-leb e 7 (omega arith), ne_eqb e 8 (λ z. omega arith), le-leb e 15 (omega arith))

pub returns-in_default : goal.returns-in_default
unfolding wire_type
returns-in_default c =
    let e = c.args.e in
    rw (ne_eqb e 0 (λ z. omega arith), lt-leb e 7 (omega arith), ne_eqb e 8 (λ z. omega arith), lt-leb e 15 (omega arith), ne_eqb e 16 (λ z. omega arith))
