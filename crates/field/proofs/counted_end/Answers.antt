use Rattle.field.proofs.Fields.{counted_none, counted-past, counted-good}
use native.Mathlib.Omega.{arith}
use Rattle.field.proofs.counted_end.Goals as goal

pub returns-then-m-at-lt1 : goal.returns-then-m-at-lt1
returns-then-m-at-lt1 c = counted_none _ c.args.at c.requires c.if-m-at-lt1.true

pub overflow_cast-n : goal.overflow_cast-n
overflow_cast-n c = omega (arith, c.type_inv.m c.args.at)

pub returns-then-m-from : goal.returns-then-m-from
returns-then-m-from c = counted-past _ c.args.at c.requires c.if-m-at-lt1.false c.if-m-from.true

pub returns : goal.returns
returns c = counted-good _ c.args.at c.requires c.if-m-at-lt1.false c.if-m-from.false
