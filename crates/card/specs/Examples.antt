-- Cards at every border: the order of names, reserved words, lengths, line feeds.
use Rattle.std.specs.Prelude.{◌≡◌, Bool, true, false, List, [], ◌∷◌, ◌++◌, map, replicate}
use Rattle.buffer.specs.Bytes.{Bytes}
use Rattle.card.specs.Card.{line, line_text, well_formed}

pub record Example : Type 0 where
  pub card : Bytes
  pub passes : Bool

abbrev good : Bytes → Example
good s = record { card = s; passes = true }

abbrev bad : Bytes → Example
bad s = record { card = s; passes = false }

-- the text of lines that are absent, whatever their names are
abbrev absent : List Bytes → Bytes
absent [] = []
absent (n ∷ ns) = line_text (line n false) ++ absent ns

abbrev pub table : List Example
table =
    -- no lines; one of each kind
    good []
    ∷ good (line_text (line (0x4B ∷ []) true))
    ∷ good (line_text (line (0x4B ∷ []) false))
    -- A before A1, A1 before B, B before a, 9 before A; strictly
    ∷ good (absent ((0x41 ∷ []) ∷ (0x41 ∷ 0x31 ∷ []) ∷ (0x42 ∷ []) ∷ (0x61 ∷ []) ∷ []))
    ∷ good (absent ((0x39 ∷ []) ∷ (0x41 ∷ []) ∷ []))
    ∷ bad (absent ((0x41 ∷ 0x31 ∷ []) ∷ (0x41 ∷ []) ∷ []))
    ∷ bad (absent ((0x61 ∷ []) ∷ (0x42 ∷ []) ∷ []))
    ∷ bad (absent ((0x41 ∷ []) ∷ (0x41 ∷ []) ∷ []))
    ∷ bad (line_text (line (0x41 ∷ []) true) ++ line_text (line (0x41 ∷ []) false))
    -- and, or, not; And, nots
    ∷ bad (absent ((0x61 ∷ 0x6E ∷ 0x64 ∷ []) ∷ []))
    ∷ bad (absent ((0x6F ∷ 0x72 ∷ []) ∷ []))
    ∷ bad (absent ((0x6E ∷ 0x6F ∷ 0x74 ∷ []) ∷ []))
    ∷ good (absent ((0x41 ∷ 0x6E ∷ 0x64 ∷ []) ∷ (0x6E ∷ 0x6F ∷ 0x74 ∷ 0x73 ∷ []) ∷ []))
    -- present and absent are names
    ∷ good (absent ((0x61 ∷ 0x62 ∷ 0x73 ∷ 0x65 ∷ 0x6E ∷ 0x74 ∷ []) ∷ (0x70 ∷ 0x72 ∷ 0x65 ∷ 0x73 ∷ 0x65 ∷ 0x6E ∷ 0x74 ∷ []) ∷ []))
    -- names of none, 8 and 9 bytes; bytes beside the letters and digits
    ∷ bad (absent ([] ∷ []))
    ∷ good (absent (replicate 8 0x41 ∷ []))
    ∷ bad (absent (replicate 9 0x41 ∷ []))
    ∷ good (absent ((0x30 ∷ 0x39 ∷ 0x41 ∷ 0x5A ∷ 0x61 ∷ 0x7A ∷ []) ∷ []))
    ∷ bad (absent ((0x2F ∷ []) ∷ []))
    ∷ bad (absent ((0x3A ∷ []) ∷ []))
    ∷ bad (absent ((0x40 ∷ []) ∷ []))
    ∷ bad (absent ((0x5B ∷ []) ∷ []))
    ∷ bad (absent ((0x60 ∷ []) ∷ []))
    ∷ bad (absent ((0x7B ∷ []) ∷ []))
    ∷ bad (absent ((0x41 ∷ 0x20 ∷ []) ∷ []))
    -- bytes past ASCII: the first, é as UTF-8 has it, a letter with its high bit set, the last
    ∷ bad (absent ((0x80 ∷ []) ∷ []))
    ∷ bad (absent ((0xC3 ∷ 0xA9 ∷ []) ∷ []))
    ∷ bad (absent ((0xC1 ∷ []) ∷ []))
    ∷ bad (absent ((0xFF ∷ []) ∷ []))
    ∷ bad (absent ((0x41 ∷ []) ∷ []) ++ (0x80 ∷ []))
    -- "A==absent"; no line feed at the end, one too many, another one, a line cut off, another word, no "="
    ∷ bad (0x41 ∷ 0x3D ∷ 0x3D ∷ 0x61 ∷ 0x62 ∷ 0x73 ∷ 0x65 ∷ 0x6E ∷ 0x74 ∷ 0x0A ∷ [])
    ∷ bad (0x41 ∷ 0x3D ∷ 0x61 ∷ 0x62 ∷ 0x73 ∷ 0x65 ∷ 0x6E ∷ 0x74 ∷ [])
    ∷ bad (absent ((0x41 ∷ []) ∷ []) ++ (0x0A ∷ []))
    ∷ bad (0x0A ∷ [])
    ∷ bad (0x41 ∷ 0x3D ∷ 0x61 ∷ 0x62 ∷ 0x73 ∷ 0x65 ∷ 0x6E ∷ 0x74 ∷ 0x0D ∷ 0x0A ∷ [])
    ∷ bad (absent ((0x41 ∷ []) ∷ []) ++ (0x42 ∷ 0x3D ∷ []))
    ∷ bad (0x41 ∷ 0x3D ∷ 0x41 ∷ 0x62 ∷ 0x73 ∷ 0x65 ∷ 0x6E ∷ 0x74 ∷ 0x0A ∷ [])
    ∷ bad (0x41 ∷ [])
    ∷ []

-- the definition accepts exactly those that pass
abbrev pub Examples : Type 0
Examples = map (λ (e : Example). well_formed e.card) table ≡ map (λ (e : Example). e.passes) table
