-- Cards from the other side: a card is exactly the text of good lines, and of one list of them only.
use Rattle.std.specs.Prelude.{◌≡◌, true, List, ◌∷◌, ◌++◌, ◌≢◌}
use Rattle.std.proofs.Math.Option.{some}
use Rattle.buffer.specs.Bytes.{Bytes}
use Rattle.card.specs.Card.{Line, text, good, lines_of}

pub record Pinned : Type 0 where
  -- a card is the text of its lines, and these are good
  pub written : (s : Bytes) (ls : List Line) → lines_of s ≡ some ls → (text ls ≡ s) × (good ls ≡ true)
  -- the text of good lines is a card, whose lines they are
  pub read : (ls : List Line) → good ls ≡ true → lines_of (text ls) ≡ some ls
  -- and of no others
  pub one : (ls ms : List Line) → good ls ≡ true → good ms ≡ true → text ls ≡ text ms → ls ≡ ms

-- "strictly rising": no name has two lines
abbrev pub OneLineOfAName : Type 0
OneLineOfAName = (x y z : List Line) (l m : Line) → good (x ++ (l ∷ (y ++ (m ∷ z)))) ≡ true → l.name ≢ m.name
