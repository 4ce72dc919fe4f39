use native.Mathlib.Omega.{arith}
use Rattle.query.proofs.Places.{no_word, word_is}
use Rattle.evaluate.proofs.next_is.Goals as goal

-- `evaluate::next_is` meets its contract: by the place, then by the part that is the word.
pub returns-then-text-at : goal.returns-then-text-at
returns-then-text-at c = let a = c.args in no_word a.text.now a.at a.word.now c.if-text-at.true

pub returns : goal.returns
returns c =
    let a = c.args in
    word_is a.text.now a.at a.word.now (omega arith) c.byte_from-end.ensures.0 c.equal.ensures
