use lib.Bits.{bit_xor}
use Rattle.crc32_steps.proofs.Digits.{side_by_side}
use Rattle.crc32_steps.proofs.sixteen.Goals as goal

pub returns : goal.returns
returns c =
    let a = c.args in
    let p = c.requires in
    side_by_side a.w (bit_xor a.v a.c) _ _ (c.divide-r.ensures 0 p.1) (c.divide.ensures 64 p.0)
