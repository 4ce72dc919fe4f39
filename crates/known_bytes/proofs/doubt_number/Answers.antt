use Rattle.known_bytes.proofs.Numbers.{clear_number, greatest_number, at-number}
use Rattle.known_bytes.proofs.doubt_number.Goals as goal

pub returns-in_default : goal.returns-in_default
returns-in_default c =
    clear_number _ c.in_default.is

pub returns-then-n : goal.returns-then-n
returns-then-n c =
    let if1 = c.if-n in
    greatest_number _ _ c.in-Some.is if1.true

pub returns : goal.returns
returns c =
    at-number _ _ c.in-Some.is
