-- What a card says of a name: what its line says, and nothing where it has none; what more lines change.
use Rattle.std.specs.Prelude.{◌≡◌, ◌⊎◌, ◌≢◌, true, false}
use mathlib.Core.List.{List, Memᴰ}
use Rattle.std.proofs.Math.Option.{some}
use Rattle.buffer.specs.Bytes.{Bytes}
use Rattle.kleene.specs.declared.Value.TheVariants.{Yes, No, NotKnown}
use Rattle.card.specs.Card.{Line, line, told, lines_of, value_in}

-- l is one of the lines
abbrev pub Among : Line → List Line → Type 0
Among l ls = Memᴰ l ls

-- of a card and its lines
pub record SaysItsLines (s : Bytes) (ls : List Line) : Type 0 where
  -- "antigen=present or antigen=absent"
  pub says : (l : Line) → Among l ls → value_in s l.name ≡ told l.present
  -- "an antigen with no line is not known"
  pub silent : (n : Bytes) → ((l : Line) → Among l ls → l.name ≢ n) → value_in s n ≡ NotKnown
  -- what nobody tested is neither present nor absent: a yes and a no have their line
  pub present : (n : Bytes) → value_in s n ≡ Yes → Among (line n true) ls
  pub absent : (n : Bytes) → value_in s n ≡ No → Among (line n false) ls

abbrev pub Says : Type 0
Says = (s : Bytes) (ls : List Line) → lines_of s ≡ some ls → SaysItsLines s ls

-- "lines added to a card that stays well-formed": all that is said stays
abbrev pub LinesAdded : Type 0
LinesAdded = (s t : Bytes) (ls ms : List Line) → lines_of s ≡ some ls → lines_of t ≡ some ms → ((l : Line) → Among l ls → Among l ms)
    → (n : Bytes) → (value_in s n ≡ NotKnown) ⊎ (value_in s n ≡ value_in t n)
