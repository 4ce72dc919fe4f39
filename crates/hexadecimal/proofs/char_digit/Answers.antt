use native.Mathlib.Omega.{arith}
use borrow.Author.Tests.{lt-ltb, le-ltb}
use Rattle.hexadecimal.specs.Hex.{char_digit}
use Rattle.hexadecimal.proofs.char_digit.Goals as goal

pub returns-in-48-to-57 : goal.returns-in-48-to-57
unfolding char_digit
returns-in-48-to-57 c = let x = c.args.c in rw (lt-ltb x 58 (omega arith), le-ltb x 48 (omega arith))

pub returns-in-97-to-102 : goal.returns-in-97-to-102
unfolding char_digit
returns-in-97-to-102 c = let x = c.args.c in rw (le-ltb x 58 (omega arith), le-ltb x 97 (omega arith), lt-ltb x 103 (omega arith)) (omega arith)

pub returns-in_default : goal.returns-in_default
unfolding char_digit
returns-in_default c = let x = c.args.c in rw (lt-ltb x 58 (omega arith), lt-ltb x 48 (omega arith))

pub returns-in_default-2 : goal.returns-in_default-2
unfolding char_digit
returns-in_default-2 c = let x = c.args.c in rw (le-ltb x 58 (omega arith), lt-ltb x 97 (omega arith))

pub returns-in_default-3 : goal.returns-in_default-3
unfolding char_digit
returns-in_default-3 c = let x = c.args.c in rw (le-ltb x 58 (omega arith), le-ltb x 97 (omega arith), le-ltb x 103 (omega arith))
