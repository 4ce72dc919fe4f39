use mathlib.Core.Path.{ap, ◌∙◌}
use mathlib.Core.Bool.{not}
use native.Mathlib.Omega.{arith}
use Rattle.antigen.proofs.Names.{name-short, name-long, name-reserved, name-letters}
use Rattle.antigen.proofs.is_name.Goals as goal

-- `antigen::is_name` meets its contract, test by test.
pub returns-then-not-is_reserved : goal.returns-then-not-is_reserved
returns-then-not-is_reserved c =
    name-letters c.args.s.now (omega arith) (omega arith) _ c.is_reserved.ensures c.if-not-is_reserved.true _ c.are_letters_and_digits.ensures

pub returns-else-not-is_reserved : goal.returns-else-not-is_reserved
returns-else-not-is_reserved c =
    ap not c.if-not-is_reserved.false ∙ name-reserved c.args.s.now (omega arith) (omega arith) _ c.is_reserved.ensures c.if-not-is_reserved.false

pub returns-in_default : goal.returns-in_default
returns-in_default c = name-short c.args.s.now (omega arith)

pub returns-in_default-2 : goal.returns-in_default-2
returns-in_default-2 c = name-long c.args.s.now (omega arith)
