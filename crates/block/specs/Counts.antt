-- "403 bytes take 1 sector, 404 take 2, 57,344 take 143 (of=008f, last payload 118)"; "its label is 110 bytes and its payload 389; 57,344 bytes then
-- take 148 sectors, the last with 161": the table, and what the definitions say.
use Rattle.std.specs.Prelude.{◌≡◌, List, [], ◌∷◌, map, ℕ, ◌-◌, ◌*◌, replicate}
use Rattle.buffer.specs.Bytes.{Bytes}
use Rattle.hexadecimal.specs.Hex.{hex}
use Rattle.sector.specs.Sector.{label_length, payload_of}
use Rattle.block.specs.Block.{parts_of}

-- a payload's length, a block's size, its sectors, the digits of "of", and the bytes in the last payload
pub record Count : Type 0 where
  pub payload : ℕ
  pub size : ℕ
  pub sectors : ℕ
  pub of : Bytes
  pub last : ℕ

abbrev pub count : ℕ → ℕ → ℕ → Bytes → ℕ → Count
count payload size sectors of last = record { payload = payload; size = size; sectors = sectors; of = of; last = last }

-- the payloads of the two editions: of no date, and of any date of eight digits
abbrev pub plain : ℕ
plain = payload_of (label_length [])

abbrev pub dated : ℕ
dated = payload_of (label_length (replicate 8 48))

-- the table; the digits are 0001, 0002 and 008f, and 0001, 0002 and 0094
abbrev pub table : List Count
table =
    count plain 403 1 (48 ∷ 48 ∷ 48 ∷ 49 ∷ []) 403
    ∷ count plain 404 2 (48 ∷ 48 ∷ 48 ∷ 50 ∷ []) 1
    ∷ count plain 57344 143 (48 ∷ 48 ∷ 56 ∷ 102 ∷ []) 118
    ∷ count dated 389 1 (48 ∷ 48 ∷ 48 ∷ 49 ∷ []) 389
    ∷ count dated 390 2 (48 ∷ 48 ∷ 48 ∷ 50 ∷ []) 1
    ∷ count dated 57344 148 (48 ∷ 48 ∷ 57 ∷ 52 ∷ []) 161
    ∷ []

-- the same of a payload's length and a size, by the definitions: before the last payload each is full
abbrev pub count_of : ℕ → ℕ → Count
count_of p size = count p size (parts_of p size) (hex 4 (parts_of p size)) (size - p * (parts_of p size - 1))

-- the definitions give the table
abbrev pub Counts : Type 0
Counts = map (λ (c : Count). count_of c.payload c.size) table ≡ table
