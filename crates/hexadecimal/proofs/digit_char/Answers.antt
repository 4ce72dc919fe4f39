use native.Mathlib.Omega.{arith}
use borrow.Author.Tests.{lt-ltb, le-ltb}
use Rattle.hexadecimal.specs.Hex.{digit_char}
use Rattle.hexadecimal.proofs.digit_char.Goals as goal

pub returns-then-d-lt10 : goal.returns-then-d-lt10
unfolding digit_char
returns-then-d-lt10 c = rw (lt-ltb _ 10 c.if-d-lt10.true)

pub returns-else-d-lt10 : goal.returns-else-d-lt10
unfolding digit_char
returns-else-d-lt10 c = rw (le-ltb _ 10 c.if-d-lt10.false) (omega arith)
