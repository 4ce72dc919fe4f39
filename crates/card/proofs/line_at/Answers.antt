use Rattle.card.proofs.Turns.{place-present, place-absent, place-nothing}
use Rattle.card.proofs.line_at.Goals as goal

pub returns-then-begins_at : goal.returns-then-begins_at
returns-then-begins_at c = place-present _ _ _ c.byte_from-equals.ensures.0 _ c.begins_at.ensures c.if-begins_at.true

pub returns-then-begins_at-2 : goal.returns-then-begins_at-2
returns-then-begins_at-2 c =
    let byte-from = c.byte_from-equals in
    let begins-at = c.begins_at in
    let if1 = c.if-begins_at in
    place-absent _ _ _ byte-from.ensures.0 _ begins-at.ensures if1.false _ c.begins_at-2.ensures c.if-begins_at-2.true

pub returns : goal.returns
returns c =
    let byte-from = c.byte_from-equals in
    let begins-at = c.begins_at in
    let if1 = c.if-begins_at in
    place-nothing _ _ _ byte-from.ensures.0 _ begins-at.ensures if1.false _ c.begins_at-2.ensures c.if-begins_at-2.false
