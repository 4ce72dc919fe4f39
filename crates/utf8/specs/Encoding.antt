-- Characters and their octets by the table of RFC 3629, section 3.
use Rattle.std.specs.Prelude.{Bool, true, cond, not, ◌&&◌, List, [], ◌∷◌, ◌++◌, ℕ, zero, suc, ◌+◌, ◌-◌, ◌*◌, ◌/◌, ◌%◌, leb, eqb}
use Rattle.buffer.specs.Bytes.{Bytes}

-- "character numbers between U+0000 and U+10FFFF", without those "between U+D800 and U+DFFF": the scalar values
abbrev pub scalar : ℕ → Bool
scalar c = leb c 0x10FFFF && not (leb 0xD800 c && leb c 0xDFFF)

-- scalar values other than 0
abbrev pub scalars : List ℕ → Bool
scalars [] = true
scalars (c ∷ cs) = (scalar c && not (eqb c 0)) && scalars cs

-- "10xxxxxx": the six bits of c that stand k times six bits from the right, as d is 64 to the power k
abbrev pub six : ℕ → ℕ → ℕ
six d c = 0x80 + c / d % 64

-- "0000 0000-0000 007F | 0xxxxxxx"; "0000 0080-0000 07FF | 110xxxxx 10xxxxxx"; "0000 0800-0000 FFFF | 1110xxxx 10xxxxxx 10xxxxxx";
-- "0001 0000-0010 FFFF | 11110xxx 10xxxxxx 10xxxxxx 10xxxxxx"
unfoldable pub character : ℕ → Bytes
character c =
    cond (leb c 0x7F) (c ∷ [])
    (cond (leb c 0x7FF) ((0xC0 + c / 64) ∷ six 1 c ∷ [])
    (cond (leb c 0xFFFF) ((0xE0 + c / 4096) ∷ six 64 c ∷ six 1 c ∷ [])
    ((0xF0 + c / 262144) ∷ six 4096 c ∷ six 64 c ∷ six 1 c ∷ [])))

-- characters one after another
unfoldable pub encode : List ℕ → Bytes
encode [] = []
encode (c ∷ cs) = character c ++ encode cs

-- "Decoding a UTF-8 character": the bits x of the octets by the same table; v has those so far, and k octets of the character are to come
unfoldable pub decode_from : ℕ → ℕ → Bytes → List ℕ
decode_from v k [] = []
decode_from v zero (b ∷ bs) =
    cond (leb b 0x7F) (b ∷ decode_from 0 0 bs)
    (cond (leb b 0xDF) (decode_from (b - 0xC0) 1 bs)
    (cond (leb b 0xEF) (decode_from (b - 0xE0) 2 bs) (decode_from (b - 0xF0) 3 bs)))
decode_from v (suc zero) (b ∷ bs) = (v * 64 + (b - 0x80)) ∷ decode_from 0 0 bs
decode_from v (suc (suc k)) (b ∷ bs) = decode_from (v * 64 + (b - 0x80)) (suc k) bs

abbrev pub decode : Bytes → List ℕ
decode s = decode_from 0 0 s
