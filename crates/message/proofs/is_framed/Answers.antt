use lib.ListN.{length-take}
use Rattle.message.proofs.Returns.{framed-short, framed-test}
use native.Mathlib.Omega.{arith}
use Rattle.message.proofs.is_framed.Goals as goal

-- `message::is_framed` meets its contract.
pub returns-then-m-lt-HEAD : goal.returns-then-m-lt-HEAD
returns-then-m-lt-HEAD c = framed-short _ c.if-m-lt-HEAD.true

pub slice_bounds-be_number-end : goal.slice_bounds-be_number-end
slice_bounds-be_number-end c = simp length-take (omega arith)

pub be_number-size-requires : goal.be_number-size-requires
be_number-size-requires c = simp length-take (omega arith)

pub returns : goal.returns
returns c = framed-test _ _ c.if-m-lt-HEAD.false c.be_number-size.ensures
