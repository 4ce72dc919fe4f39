-- "Messages": how a message's bytes are taken apart.
use Rattle.std.specs.Prelude.{Bool, cond, ◌&&◌, Option, Some, None, ℕ, ◌-◌, leb, eqb, length, get_or, take, drop}
use Rattle.buffer.specs.Bytes.{Bytes, zeros}
use Rattle.digits.specs.Number.{be_number}
use Rattle.message.specs.declared.Request.{Request}
use Rattle.message.specs.declared.Request.TheVariants.{Ping, Hello, Goodbye, Read, Write, Sync, Unknown, Ill}
use Rattle.field.specs.Field.{hello_end}
pub use Rattle.field.specs.Field.{head_length}

-- "A message is size[2], type[1], tag[1], body", "size leaves itself out"; refusal 1 is the contrary
unfoldable pub framed : Bytes → Bool
framed m = leb head_length (length m) && eqb (be_number (take 2 m)) (length m - 2)

abbrev pub type_of : Bytes → ℕ
type_of m = get_or m 2 0

abbrev pub tag_of : Bytes → ℕ
tag_of m = get_or m 3 0

-- "A read or write whose pad isn't all zeros is refused with 6"
abbrev pub pad_allowed : Bytes → Bool
pad_allowed p = zeros p

-- "A body must be used up exactly"
unfoldable pub exactly : Bytes → Option ℕ → Request → Request
exactly m None q = Ill
exactly m (Some at) q = cond (eqb at (length m)) q Ill

abbrev pub version_of : Bytes → Bytes
version_of m = take (be_number (take 2 (drop head_length m))) (drop 6 m)

-- "read: score[20] type[1] pad[1] count[2]"
abbrev pub score_of : Bytes → Bytes
score_of m = take 20 (drop head_length m)

unfoldable pub read_of : Bytes → Request
read_of m =
    cond (eqb (length m) 28 && pad_allowed (take 1 (drop 25 m))) (Read (get_or m 24 0) (be_number (take 2 (drop 26 m)))) Ill

-- "write: type[1] pad[3] data"
abbrev pub data_of : Bytes → Bytes
data_of m = drop 8 m

unfoldable pub write_of : Bytes → Request
write_of m = cond (leb 8 (length m) && pad_allowed (take 3 (drop 5 m))) (Write (get_or m head_length 0)) Ill

-- "ping 2; hello 4; goodbye 6; read 12; write 14; sync 16"; "ping, sync, goodbye: no body"
unfoldable pub request_of : Bytes → Request
request_of m =
    cond (eqb (type_of m) 2) (exactly m (Some head_length) Ping)
    (cond (eqb (type_of m) 4) (exactly m (hello_end m) Hello)
    (cond (eqb (type_of m) 6) (exactly m (Some head_length) Goodbye)
    (cond (eqb (type_of m) 12) (read_of m)
    (cond (eqb (type_of m) 14) (write_of m)
    (cond (eqb (type_of m) 16) (exactly m (Some head_length) Sync) Unknown)))))
