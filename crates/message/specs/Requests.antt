-- Requests put together, with the tag 0.
use Rattle.std.specs.Prelude.{[], ◌∷◌, ◌++◌, ℕ, ◌+◌, length}
use Rattle.buffer.specs.Bytes.{Bytes}
use Rattle.digits.specs.Number.{be_bytes}

-- "hello: version[s] uid[s] strength[1] crypto[n] codec[n]": of version "02", all else empty
abbrev pub hello_message : Bytes
hello_message = 0 ∷ 11 ∷ 4 ∷ 0 ∷ 0 ∷ 2 ∷ 48 ∷ 50 ∷ 0 ∷ 0 ∷ 0 ∷ 0 ∷ 0 ∷ []

-- "write: type[1] pad[3] data"
abbrev pub write_message_of : ℕ → Bytes → Bytes
write_message_of kind b = be_bytes 2 (6 + length b) ++ (14 ∷ 0 ∷ kind ∷ 0 ∷ 0 ∷ 0 ∷ b)
