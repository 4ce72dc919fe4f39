-- Texts at every border of the grammar.
use Rattle.std.specs.Prelude.{◌≡◌, Bool, true, false, List, [], ◌∷◌, map}
use Rattle.buffer.specs.Bytes.{Bytes}
use Rattle.utf8.specs.Grammar.{well_formed_text}

pub record Example : Type 0 where
  pub text : Bytes
  pub passes : Bool

abbrev good : Bytes → Example
good s = record { text = s; passes = true }

abbrev bad : Bytes → Example
bad s = record { text = s; passes = false }

abbrev pub table : List Example
table =
    -- no character, and characters of one octet; NUL is none
    good []
    ∷ good (0x01 ∷ 0x7F ∷ [])
    ∷ bad (0x00 ∷ [])
    ∷ bad (0x61 ∷ 0x00 ∷ 0x62 ∷ [])
    -- no character starts so
    ∷ bad (0x80 ∷ [])
    ∷ bad (0xBF ∷ [])
    ∷ bad (0xC0 ∷ 0x80 ∷ [])
    ∷ bad (0xC1 ∷ 0xBF ∷ [])
    ∷ bad (0xF5 ∷ 0x80 ∷ 0x80 ∷ 0x80 ∷ [])
    ∷ bad (0xFE ∷ [])
    ∷ bad (0xFF ∷ [])
    -- two octets: U+0080, U+07FF
    ∷ good (0xC2 ∷ 0x80 ∷ [])
    ∷ good (0xDF ∷ 0xBF ∷ [])
    ∷ bad (0xC2 ∷ 0x7F ∷ [])
    ∷ bad (0xC2 ∷ 0xC0 ∷ [])
    -- three octets: U+0800, U+0FFF, U+1000, U+CFFF; nothing below U+0800
    ∷ bad (0xE0 ∷ 0x80 ∷ 0x80 ∷ [])
    ∷ bad (0xE0 ∷ 0x9F ∷ 0xBF ∷ [])
    ∷ good (0xE0 ∷ 0xA0 ∷ 0x80 ∷ [])
    ∷ good (0xE0 ∷ 0xBF ∷ 0xBF ∷ [])
    ∷ good (0xE1 ∷ 0x80 ∷ 0x80 ∷ [])
    ∷ good (0xEC ∷ 0xBF ∷ 0xBF ∷ [])
    ∷ bad (0xE1 ∷ 0x80 ∷ 0x7F ∷ [])
    ∷ bad (0xE1 ∷ 0x80 ∷ 0xC0 ∷ [])
    -- U+D7FF and U+E000; no surrogate between them
    ∷ good (0xED ∷ 0x9F ∷ 0xBF ∷ [])
    ∷ bad (0xED ∷ 0xA0 ∷ 0x80 ∷ [])
    ∷ bad (0xED ∷ 0xBF ∷ 0xBF ∷ [])
    ∷ good (0xEE ∷ 0x80 ∷ 0x80 ∷ [])
    -- U+FFFE, U+FFFF and a byte order mark pass
    ∷ good (0xEF ∷ 0xBF ∷ 0xBE ∷ [])
    ∷ good (0xEF ∷ 0xBF ∷ 0xBF ∷ [])
    ∷ good (0xEF ∷ 0xBB ∷ 0xBF ∷ [])
    -- four octets: U+10000, U+10FFFF; nothing below the one or past the other
    ∷ bad (0xF0 ∷ 0x8F ∷ 0xBF ∷ 0xBF ∷ [])
    ∷ good (0xF0 ∷ 0x90 ∷ 0x80 ∷ 0x80 ∷ [])
    ∷ good (0xF1 ∷ 0x80 ∷ 0x80 ∷ 0x80 ∷ [])
    ∷ good (0xF3 ∷ 0xBF ∷ 0xBF ∷ 0xBF ∷ [])
    ∷ good (0xF4 ∷ 0x8F ∷ 0xBF ∷ 0xBF ∷ [])
    ∷ bad (0xF4 ∷ 0x90 ∷ 0x80 ∷ 0x80 ∷ [])
    ∷ bad (0xF1 ∷ 0x80 ∷ 0x80 ∷ 0x7F ∷ [])
    ∷ bad (0xF1 ∷ 0x80 ∷ 0x80 ∷ 0xC0 ∷ [])
    -- cut off, or the next character too soon
    ∷ bad (0xC2 ∷ [])
    ∷ bad (0x61 ∷ 0xE1 ∷ 0x80 ∷ [])
    ∷ bad (0xF1 ∷ 0x80 ∷ 0x80 ∷ [])
    ∷ bad (0xE1 ∷ 0x80 ∷ 0x61 ∷ [])
    -- a character too many octets long
    ∷ bad (0xC2 ∷ 0x80 ∷ 0x80 ∷ [])
    -- the RFC's own examples, section 7, in a row: A, not equal, alpha, period; hangugeo; nihongo; a character past U+FFFF
    ∷ good (0x41 ∷ 0xE2 ∷ 0x89 ∷ 0xA2 ∷ 0xCE ∷ 0x91 ∷ 0x2E ∷ [])
    ∷ good (0xED ∷ 0x95 ∷ 0x9C ∷ 0xEA ∷ 0xB5 ∷ 0xAD ∷ 0xEC ∷ 0x96 ∷ 0xB4 ∷ [])
    ∷ good (0xE6 ∷ 0x97 ∷ 0xA5 ∷ 0xE6 ∷ 0x9C ∷ 0xAC ∷ 0xE8 ∷ 0xAA ∷ 0x9E ∷ [])
    ∷ good (0xEF ∷ 0xBB ∷ 0xBF ∷ 0xF0 ∷ 0xA3 ∷ 0x8E ∷ 0xB4 ∷ [])
    ∷ []

-- the grammar accepts exactly those that pass
abbrev pub Examples : Type 0
Examples = map (λ (e : Example). well_formed_text e.text) table ≡ map (λ (e : Example). e.passes) table
