use Rattle.message.proofs.Returns.{write-ill, write-padded, write-good}
use Rattle.message.proofs.write_of.Goals as goal

-- `message::write_of` meets its contract.
pub returns-then-m-lt8 : goal.returns-then-m-lt8
returns-then-m-lt8 c = write-ill _ c.if-m-lt8.true

pub returns-then-not-is_zero : goal.returns-then-not-is_zero
returns-then-not-is_zero c = write-padded _ c.if-m-lt8.false _ c.is_zero.ensures c.if-not-is_zero.true

pub returns : goal.returns
returns c =
    write-good _ c.if-m-lt8.false _ c.is_zero.ensures c.if-not-is_zero.false
