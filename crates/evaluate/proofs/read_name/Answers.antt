use native.Mathlib.Omega.{arith}
use Rattle.evaluate.proofs.Names.{no_word_left, not-a-name, is-a-name}
use Rattle.evaluate.proofs.read_name.Goals as goal

-- `evaluate::read_name` meets its contract: no word, another word, or a name.
pub returns-then-text-at : goal.returns-then-text-at
returns-then-text-at c = let a = c.args in no_word_left a.card.now a.text.now a.at c.if-text-at.true

pub returns-then-not-is_name : goal.returns-then-not-is_name
returns-then-not-is_name c =
    let a = c.args in
    not-a-name a.card.now a.text.now a.at (omega arith) c.byte_from-end.ensures.0 c.is_name.ensures c.if-not-is_name.true

pub returns : goal.returns
returns c =
    let a = c.args in
    is-a-name a.card.now a.text.now a.at (omega arith) c.byte_from-end.ensures.0 c.is_name.ensures c.if-not-is_name.false c.value_in.ensures
