use Rattle.message.proofs.Returns.{read-ill, read-padded, read-good}
use Rattle.message.proofs.read_of.Goals as goal

-- `message::read_of` meets its contract.
pub returns-then-m-ne28 : goal.returns-then-m-ne28
returns-then-m-ne28 c = read-ill _ c.if-m-ne28.true

pub returns-then-not-is_zero : goal.returns-then-not-is_zero
returns-then-not-is_zero c = read-padded _ c.if-m-ne28.false _ c.is_zero.ensures c.if-not-is_zero.true

pub returns : goal.returns
returns c =
    read-good _ c.if-m-ne28.false _ c.is_zero.ensures c.if-not-is_zero.false _ c.be_number.ensures
