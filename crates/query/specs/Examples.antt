-- Texts at every border of the grammar, with their readings, and the values of some.
use Rattle.std.specs.Prelude.{◌≡◌, cond, List, [], ◌∷◌, ◌++◌, map, ℕ, zero, suc}
use Rattle.std.proofs.Math.Option.{Option, none, some}
use Rattle.bedrock.specs.Choice.{on}
use Rattle.buffer.specs.Bytes.{Bytes, same}
use Rattle.kleene.specs.declared.Value.{Value}
use Rattle.kleene.specs.declared.Value.TheVariants.{Yes, No, NotKnown}
use Rattle.query.specs.Reading.{Reading, choice, or_else, term, and_also, Term, name, negated, group, and_word, or_word, not_word}
use Rattle.query.specs.Grammar.{reading_of}
use Rattle.query.specs.Value.{value_of}

pub record Example : Type 0 where
  pub text : Bytes
  pub reading : Option Reading

abbrev reads : Bytes → Reading → Example
reads s q = record { text = s; reading = some q }

abbrev ill : Bytes → Example
ill s = record { text = s; reading = none }

-- a reading of one term, of a name, of a name of one byte
abbrev one : Term → Reading
one t = choice (term t)

abbrev just : Bytes → Reading
just n = one (name n)

abbrev letter : ℕ → Term
letter b = name (b ∷ [])

-- s written n times
abbrev times : ℕ → Bytes → Bytes
times zero s = []
times (suc n) s = s ++ times n s

abbrev negations : ℕ → Term → Term
negations zero t = t
negations (suc n) t = negated (negations n t)

abbrev groups : ℕ → Reading → Reading
groups zero q = q
groups (suc n) q = one (group (groups n q))

-- "a" in n brackets
abbrev bracketed : ℕ → Bytes
bracketed n = times n (0x28 ∷ 0x20 ∷ []) ++ (0x61 ∷ times n (0x20 ∷ 0x29 ∷ []))

-- n times "not ", then s
abbrev notted : ℕ → Bytes → Bytes
notted n s = times n (not_word ++ (0x20 ∷ [])) ++ s

abbrev eight : Bytes
eight = 0x41 ∷ 0x42 ∷ 0x43 ∷ 0x7A ∷ 0x79 ∷ 0x78 ∷ 0x30 ∷ 0x39 ∷ []

abbrev pub table : List Example
table =
    -- the empty query; a; " a"; "a "
    ill []
    ∷ reads (0x61 ∷ []) (just (0x61 ∷ []))
    ∷ ill (0x20 ∷ 0x61 ∷ [])
    ∷ ill (0x61 ∷ 0x20 ∷ [])
    -- "a b"; "a and b"; "a  and b"; "a and  b"; "a and"; "and"; "a and or b"
    ∷ ill (0x61 ∷ 0x20 ∷ 0x62 ∷ [])
    ∷ reads (0x61 ∷ 0x20 ∷ (and_word ++ (0x20 ∷ 0x62 ∷ []))) (choice (and_also (letter 0x61) (term (letter 0x62))))
    ∷ ill (0x61 ∷ 0x20 ∷ 0x20 ∷ (and_word ++ (0x20 ∷ 0x62 ∷ [])))
    ∷ ill (0x61 ∷ 0x20 ∷ (and_word ++ (0x20 ∷ 0x20 ∷ 0x62 ∷ [])))
    ∷ ill (0x61 ∷ 0x20 ∷ and_word)
    ∷ ill and_word
    ∷ ill (0x61 ∷ 0x20 ∷ (and_word ++ (0x20 ∷ (or_word ++ (0x20 ∷ 0x62 ∷ [])))))
    -- And; names of 8 and 9; "a-"
    ∷ reads (0x41 ∷ 0x6E ∷ 0x64 ∷ []) (just (0x41 ∷ 0x6E ∷ 0x64 ∷ []))
    ∷ reads eight (just eight)
    ∷ ill (0x61 ∷ eight)
    ∷ ill (0x61 ∷ 0x2D ∷ [])
    -- ( a ); (a); (); ( ); ( a; a )
    ∷ reads (0x28 ∷ 0x20 ∷ 0x61 ∷ 0x20 ∷ 0x29 ∷ []) (one (group (just (0x61 ∷ []))))
    ∷ ill (0x28 ∷ 0x61 ∷ 0x29 ∷ [])
    ∷ ill (0x28 ∷ 0x29 ∷ [])
    ∷ ill (0x28 ∷ 0x20 ∷ 0x29 ∷ [])
    ∷ ill (0x28 ∷ 0x20 ∷ 0x61 ∷ [])
    ∷ ill (0x61 ∷ 0x20 ∷ 0x29 ∷ [])
    -- "a or b and c"; "a and b or c": "and" binds tighter than "or"
    ∷ reads (0x61 ∷ 0x20 ∷ (or_word ++ (0x20 ∷ 0x62 ∷ 0x20 ∷ (and_word ++ (0x20 ∷ 0x63 ∷ [])))))
    (or_else (term (letter 0x61)) (choice (and_also (letter 0x62) (term (letter 0x63)))))
    ∷ reads (0x61 ∷ 0x20 ∷ (and_word ++ (0x20 ∷ 0x62 ∷ 0x20 ∷ (or_word ++ (0x20 ∷ 0x63 ∷ [])))))
    (or_else (and_also (letter 0x61) (term (letter 0x62))) (choice (term (letter 0x63))))
    -- "not a and b", "not" binds tightest; "not not a"; "not"; "not ( a )"
    ∷ reads (notted 1 (0x61 ∷ 0x20 ∷ (and_word ++ (0x20 ∷ 0x62 ∷ [])))) (choice (and_also (negated (letter 0x61)) (term (letter 0x62))))
    ∷ reads (notted 2 (0x61 ∷ [])) (one (negated (negated (letter 0x61))))
    ∷ ill not_word
    ∷ reads (notted 1 (bracketed 1)) (one (negated (group (just (0x61 ∷ [])))))
    -- "a or b or c"; "a and b and c"; "a and ( b or c )"
    ∷ reads (0x61 ∷ 0x20 ∷ (or_word ++ (0x20 ∷ 0x62 ∷ 0x20 ∷ (or_word ++ (0x20 ∷ 0x63 ∷ [])))))
    (or_else (term (letter 0x61)) (or_else (term (letter 0x62)) (choice (term (letter 0x63)))))
    ∷ reads (0x61 ∷ 0x20 ∷ (and_word ++ (0x20 ∷ 0x62 ∷ 0x20 ∷ (and_word ++ (0x20 ∷ 0x63 ∷ [])))))
    (choice (and_also (letter 0x61) (and_also (letter 0x62) (term (letter 0x63)))))
    ∷ reads (0x61 ∷ 0x20 ∷ (and_word ++ (0x20 ∷ 0x28 ∷ 0x20 ∷ 0x62 ∷ 0x20 ∷ (or_word ++ (0x20 ∷ 0x63 ∷ 0x20 ∷ 0x29 ∷ [])))))
    (choice (and_also (letter 0x61) (term (group (or_else (term (letter 0x62)) (choice (term (letter 0x63))))))))
    -- " "; "not  a"; "(  a )"; "or"; "a or"; "a not b"; "( a ) b"; "( a ) )"
    ∷ ill (0x20 ∷ [])
    ∷ ill (not_word ++ (0x20 ∷ 0x20 ∷ 0x61 ∷ []))
    ∷ ill (0x28 ∷ 0x20 ∷ 0x20 ∷ 0x61 ∷ 0x20 ∷ 0x29 ∷ [])
    ∷ ill or_word
    ∷ ill (0x61 ∷ 0x20 ∷ or_word)
    ∷ ill (0x61 ∷ 0x20 ∷ notted 1 (0x62 ∷ []))
    ∷ ill (bracketed 1 ++ (0x20 ∷ 0x62 ∷ []))
    ∷ ill (bracketed 1 ++ (0x20 ∷ 0x29 ∷ []))
    -- NOT and nota are names; a line feed, a zero, a byte past ASCII, and the neighbours of digits and letters are not
    ∷ reads (0x4E ∷ 0x4F ∷ 0x54 ∷ []) (just (0x4E ∷ 0x4F ∷ 0x54 ∷ []))
    ∷ reads (not_word ++ (0x61 ∷ [])) (just (not_word ++ (0x61 ∷ [])))
    ∷ ill (0x61 ∷ 0x0A ∷ [])
    ∷ ill (0x00 ∷ [])
    ∷ ill (0x80 ∷ [])
    ∷ ill (0x2F ∷ [])
    ∷ ill (0x3A ∷ [])
    ∷ ill (0x40 ∷ [])
    ∷ ill (0x5B ∷ [])
    ∷ ill (0x60 ∷ [])
    ∷ ill (0x7B ∷ [])
    -- 16 and 17 brackets; 32 of which 16 are open at a time; 256 and 257 bytes
    ∷ reads (bracketed 16) (groups 16 (just (0x61 ∷ [])))
    ∷ ill (bracketed 17)
    ∷ reads (bracketed 16 ++ (0x20 ∷ (and_word ++ (0x20 ∷ bracketed 16))))
    (choice (and_also (group (groups 15 (just (0x61 ∷ [])))) (term (group (groups 15 (just (0x61 ∷ [])))))))
    ∷ reads (notted 62 eight) (one (negations 62 (name eight)))
    ∷ ill (notted 63 (0x61 ∷ 0x61 ∷ 0x61 ∷ 0x61 ∷ 0x61 ∷ []))
    ∷ []

abbrev pub ExamplesHold : Type 0
ExamplesHold = map (λ e. reading_of e.text) table ≡ map (λ e. e.reading) table

-- ---- values, where a is present, b is absent, and nothing else was tested

abbrev told : Bytes → Value
told n = cond (same n (0x61 ∷ [])) Yes (cond (same n (0x62 ∷ [])) No NotKnown)

pub record Valued : Type 0 where
  pub text : Bytes
  pub value : Option Value

abbrev has : Bytes → Value → Valued
has s v = record { text = s; value = some v }

-- the names x and y, joined by a word
abbrev two : ℕ → Bytes → ℕ → Bytes
two x w y = x ∷ 0x20 ∷ (w ++ (0x20 ∷ y ∷ []))

abbrev pub values : List Valued
values =
    -- a, b and c; not
    has (0x61 ∷ []) Yes
    ∷ has (0x62 ∷ []) No
    ∷ has (0x63 ∷ []) NotKnown
    ∷ has (notted 1 (0x61 ∷ [])) No
    ∷ has (notted 1 (0x62 ∷ [])) Yes
    ∷ has (notted 1 (0x63 ∷ [])) NotKnown
    -- and, each of two
    ∷ has (two 0x61 and_word 0x61) Yes
    ∷ has (two 0x61 and_word 0x62) No
    ∷ has (two 0x61 and_word 0x63) NotKnown
    ∷ has (two 0x62 and_word 0x61) No
    ∷ has (two 0x62 and_word 0x62) No
    ∷ has (two 0x62 and_word 0x63) No
    ∷ has (two 0x63 and_word 0x61) NotKnown
    ∷ has (two 0x63 and_word 0x62) No
    ∷ has (two 0x63 and_word 0x63) NotKnown
    -- or, each of two
    ∷ has (two 0x61 or_word 0x61) Yes
    ∷ has (two 0x61 or_word 0x62) Yes
    ∷ has (two 0x61 or_word 0x63) Yes
    ∷ has (two 0x62 or_word 0x61) Yes
    ∷ has (two 0x62 or_word 0x62) No
    ∷ has (two 0x62 or_word 0x63) NotKnown
    ∷ has (two 0x63 or_word 0x61) Yes
    ∷ has (two 0x63 or_word 0x62) NotKnown
    ∷ has (two 0x63 or_word 0x63) NotKnown
    -- "c or not c" is not known if c is
    ∷ has (0x63 ∷ 0x20 ∷ (or_word ++ (0x20 ∷ notted 1 (0x63 ∷ [])))) NotKnown
    -- "a or b and b" is yes, where "( a or b ) and b" is no
    ∷ has (0x61 ∷ 0x20 ∷ (or_word ++ (0x20 ∷ two 0x62 and_word 0x62))) Yes
    ∷ has (0x28 ∷ 0x20 ∷ (two 0x61 or_word 0x62 ++ (0x20 ∷ 0x29 ∷ 0x20 ∷ (and_word ++ (0x20 ∷ 0x62 ∷ []))))) No
    ∷ []

abbrev pub ValuesHold : Type 0
ValuesHold = map (λ e. on (reading_of e.text) none (λ q. some (value_of told q))) values ≡ map (λ e. e.value) values
