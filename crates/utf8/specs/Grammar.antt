-- Well-formed UTF-8 by the grammar of RFC 3629, section 4, without NUL.
use Rattle.std.specs.Prelude.{Bool, true, false, ◌&&◌, ◌||◌, List, [], ◌∷◌, ◌++◌, ℕ, leb}
use Rattle.buffer.specs.Bytes.{Bytes}

-- %xLL-HH: octets from `low` to `high`
pub record Range : Type 0 where
  pub low : ℕ
  pub high : ℕ

abbrev pub range : ℕ → ℕ → Range
range l h = record { low = l; high = h }

abbrev pub octet : ℕ → Range
octet b = range b b

abbrev pub in_range : Range → ℕ → Bool
in_range r b = leb r.low b && leb b r.high

-- one alternative: its first octet, and those that follow
pub record Form : Type 0 where
  pub first : Range
  pub rest : List Range

abbrev pub form : Range → List Range → Form
form r rs = record { first = r; rest = rs }

-- "UTF8-tail = %x80-BF"
abbrev pub tail : Range
tail = range 0x80 0xBF

-- "UTF8-1 = %x00-7F"; "without NUL", %x00
abbrev pub utf8_1 : List Form
utf8_1 = form (range 0x01 0x7F) [] ∷ []

-- "UTF8-2 = %xC2-DF UTF8-tail"
abbrev pub utf8_2 : List Form
utf8_2 = form (range 0xC2 0xDF) (tail ∷ []) ∷ []

-- "UTF8-3 = %xE0 %xA0-BF UTF8-tail / %xE1-EC 2( UTF8-tail ) / %xED %x80-9F UTF8-tail / %xEE-EF 2( UTF8-tail )"
abbrev pub utf8_3 : List Form
utf8_3 =
    form (octet 0xE0) (range 0xA0 0xBF ∷ tail ∷ [])
    ∷ form (range 0xE1 0xEC) (tail ∷ tail ∷ [])
    ∷ form (octet 0xED) (range 0x80 0x9F ∷ tail ∷ [])
    ∷ form (range 0xEE 0xEF) (tail ∷ tail ∷ [])
    ∷ []

-- "UTF8-4 = %xF0 %x90-BF 2( UTF8-tail ) / %xF1-F3 3( UTF8-tail ) / %xF4 %x80-8F 2( UTF8-tail )"
abbrev pub utf8_4 : List Form
utf8_4 =
    form (octet 0xF0) (range 0x90 0xBF ∷ tail ∷ tail ∷ [])
    ∷ form (range 0xF1 0xF3) (tail ∷ tail ∷ tail ∷ [])
    ∷ form (octet 0xF4) (range 0x80 0x8F ∷ tail ∷ tail ∷ [])
    ∷ []

-- "UTF8-char = UTF8-1 / UTF8-2 / UTF8-3 / UTF8-4"
abbrev pub utf8_char : List Form
utf8_char = utf8_1 ++ (utf8_2 ++ (utf8_3 ++ utf8_4))

-- one of the alternatives
abbrev pub some : (Form → Bool) → List Form → Bool
some f [] = false
some f (c ∷ cs) = f c || some f cs

-- an octet in each of the ranges, then "UTF8-octets = *( UTF8-char )"
unfoldable pub follows : List Range → Bytes → Bool
follows [] [] = true
follows [] (b ∷ bs) = some (λ c. in_range c.first b && follows c.rest bs) utf8_char
follows (r ∷ rs) [] = false
follows (r ∷ rs) (b ∷ bs) = in_range r b && follows rs bs

-- "version and uid must be well-formed UTF-8 by RFC 3629 (no overlong forms, no surrogates, nothing past U+10FFFF), without NUL"
abbrev pub well_formed_text : Bytes → Bool
well_formed_text s = follows [] s
