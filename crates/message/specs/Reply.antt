-- How replies are put together.
use Rattle.std.specs.Prelude.{[], ◌∷◌, ◌++◌, ℕ, ◌+◌, ◌/◌, ◌%◌, length, Some, None, Option as Optional}
use Rattle.buffer.specs.Bytes.{Bytes, put}
use Rattle.digits.specs.Number.{be_bytes}
use Rattle.hexadecimal.specs.Hex.{hex}
use Rattle.refusal.specs.Number.{number_of, doubt_of}
use Rattle.refusal.specs.declared.Refusal.{Refusal}
use Rattle.sector_number.specs.declared.SectorNumber.{SectorNumber}

-- "size[2], type[1], tag[1], body", "Replies echo the tag"
unfoldable pub reply : ℕ → ℕ → Bytes → Bytes
reply type tag body = be_bytes 2 (2 + length body) ++ (type ∷ tag ∷ body)

-- "an error reply whose text is why= and two decimal digits", as [s]; "error 1"
abbrev pub why : ℕ → Bytes
why n = 119 ∷ 104 ∷ 121 ∷ 61 ∷ (48 + n / 10) ∷ (48 + n % 10) ∷ []

-- "The error text for 12 becomes why=12 at= and eight lower-case hex digits, as in why=12 at=0000002a ... All other texts stay"
abbrev pub place : Optional SectorNumber → Bytes
place (Some sector) = 32 ∷ 97 ∷ 116 ∷ 61 ∷ hex 8 sector.0
place None = []

abbrev pub error_text : Refusal → Bytes
error_text w = why (number_of w) ++ place (doubt_of w)

abbrev pub error_reply : ℕ → Refusal → Bytes
error_reply tag w = reply 1 tag (0 ∷ length (error_text w) ∷ error_text w)

-- "ping 2, 3; hello 4, 5; ... read 12, 13; write 14, 15; sync 16, 17"
abbrev pub ping_reply : ℕ → Bytes
ping_reply tag = reply 3 tag []

-- "reply sid[s] rcrypto[1] rcodec[1], with sid empty and both bytes 0"
abbrev pub hello_reply : ℕ → Bytes
hello_reply tag = reply 5 tag (0 ∷ 0 ∷ 0 ∷ 0 ∷ [])

abbrev pub read_reply : ℕ → Bytes → Bytes
read_reply tag d = reply 13 tag d

abbrev pub write_reply : ℕ → Bytes → Bytes
write_reply tag score = reply 15 tag score

abbrev pub sync_reply : ℕ → Bytes
sync_reply tag = reply 17 tag []

-- "A reply fills only its own length at the front of the buffer"
abbrev pub answered : Bytes → Bytes → Bytes
answered buffer r = put buffer 0 r
