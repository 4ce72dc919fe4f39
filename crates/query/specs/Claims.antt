-- "Query text and reading match one to one", and what more that is known does to a value.
use Rattle.std.specs.Prelude.{◌≡◌, ◌⊎◌}
use Rattle.std.proofs.Math.Option.{none, some}
use Rattle.buffer.specs.Bytes.{Bytes}
use Rattle.kleene.specs.declared.Value.{Value}
use Rattle.kleene.specs.declared.Value.TheVariants.{NotKnown}
use Rattle.query.specs.Reading.{Reading, text, Within}
use Rattle.query.specs.Grammar.{reading_of}
use Rattle.query.specs.Value.{value_of}

-- what is read from a text has this text, and is within the limits
abbrev pub EveryTextOneReading : Type 0
EveryTextOneReading = (b : Bytes) (q : Reading) → reading_of b ≡ some q → (text q ≡ b) × Within q

-- the text of a reading within the limits is read as this reading
abbrev pub EveryReadingOneText : Type 0
EveryReadingOneText = (q : Reading) → Within q → reading_of (text q) ≡ some q

-- so a text has at most one reading within the limits: no two of them have one text
abbrev pub OneReadingOfAText : Type 0
OneReadingOfAText = (p q : Reading) → Within p → Within q → text p ≡ text q → p ≡ q

-- and what is refused as ill-formed is the text of none
abbrev pub IllFormedHasNone : Type 0
IllFormedHasNone = (b : Bytes) → reading_of b ≡ none → (q : Reading) → Within q → text q ≡ b → ⊥

-- "lines added to a card .. never turn a yes or a no into anything else": where g says what f says, but for what f doesn't know
abbrev pub Monotone : Type 0
Monotone = (f g : Bytes → Value) → ((n : Bytes) → (f n ≡ NotKnown) ⊎ (f n ≡ g n))
    → (q : Reading) → (value_of f q ≡ NotKnown) ⊎ (value_of f q ≡ value_of g q)
