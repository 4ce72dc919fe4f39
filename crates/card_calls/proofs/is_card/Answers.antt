use native.Mathlib.Omega.{arith}
use Rattle.card_calls.proofs.Searches.{long_no_card, short-card}
use Rattle.card_calls.proofs.is_card.Goals as goal

-- `card_calls::is_card` meets its contract: by length, then by its lines.
pub returns-then-bytes-gt4096 : goal.returns-then-bytes-gt4096
returns-then-bytes-gt4096 c = long_no_card c.args.bytes.now (omega arith)

pub returns-then-is_card : goal.returns-then-is_card
returns-then-is_card c =
    let bytes = c.args.bytes.now in
    short-card bytes _ _ (omega (arith, c.if-bytes-gt4096.false)) c.is_card.ensures c.if-is_card.true

pub returns : goal.returns
returns c =
    let bytes = c.args.bytes.now in
    short-card bytes _ _ (omega (arith, c.if-bytes-gt4096.false)) c.is_card.ensures c.if-is_card.false
