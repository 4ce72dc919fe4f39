-- The words of a text by their places in it.
use Rattle.std.specs.Prelude.{Bool, false, cond, List, [], ◌∷◌, ℕ, leb, length, drop}
use Rattle.buffer.specs.Bytes.{Bytes, same}
use Rattle.card.specs.Card.{up_to}
use Rattle.query.specs.Grammar.{words}

-- the bytes before the first space
abbrev pub first_word : Bytes → Bytes
first_word s = up_to 0x20 s

-- the words from a place on: at the end of the text there is one, the empty word, and behind it none
unfoldable pub words_from : Bytes → ℕ → List Bytes
words_from s at = cond (leb at (length s)) (words (drop at s)) []

-- the first of some words is t
abbrev pub next_is : Bytes → List Bytes → Bool
next_is t [] = false
next_is t (w ∷ ws) = same w t
