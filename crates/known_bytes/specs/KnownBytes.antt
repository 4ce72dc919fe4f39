-- What is known, as 25 bytes: how many sectors of the log are used and how many wait, the first doubtful sector, each in eight bytes, and whether the index is
-- exact.
use Rattle.std.specs.Prelude.{Bool, true, false, cond, [], ◌∷◌, ◌++◌, ℕ, ◌+◌, ◌-◌, eqb, take, drop, get_or, Some, None, Option as Optional}
use Rattle.digits.specs.Number.{be_bytes, be_number}
use Rattle.buffer.specs.Bytes.{Bytes}
use Rattle.known.specs.declared.Known.{Known}
use Rattle.sector_number.specs.declared.SectorNumber.{SectorNumber}

-- 0 where nothing is doubtful, else the sector's number and one
abbrev pub doubt_number : Optional SectorNumber → ℕ
doubt_number None = 0
doubt_number (Some n) = n.0 + 1

unfoldable pub doubt_by : ℕ → Optional SectorNumber
doubt_by n = cond (eqb n 0) None (Some (record { 0 = n - 1 }))

abbrev pub exact_byte : Bool → ℕ
exact_byte true = 1
exact_byte false = 0

unfoldable pub known_bytes : Known → Bytes
known_bytes k = be_bytes 8 k.used.0 ++ be_bytes 8 k.waits.0 ++ be_bytes 8 (doubt_number k.doubt) ++ (exact_byte k.exact ∷ [])

-- the bytes read back; a last byte other than 1 is as 0
unfoldable pub known_of : Bytes → Known
known_of s =
    record {
      used = record { 0 = be_number (take 8 s) };
      waits = record { 0 = be_number (take 8 (drop 8 s)) };
      doubt = doubt_by (be_number (take 8 (drop 16 s)));
      exact = eqb (get_or s 24 0) 1;
    }
