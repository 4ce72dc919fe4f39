-- A hello with each text of the table in utf8/specs/Examples.antt, as version and as uid: well-formed, or 6.
use Rattle.std.specs.Prelude.{◌≡◌, cond, [], ◌∷◌, ◌++◌, map, ◌+◌, length}
use Rattle.buffer.specs.Bytes.{Bytes}
use Rattle.digits.specs.Number.{be_bytes}
use Rattle.utf8.specs.Examples.{Example, table}
use Rattle.message.specs.Message.{request_of}
use Rattle.message.specs.declared.Request.TheVariants.{Hello, Ill}

-- "[s] is a two-byte count and text"
abbrev pub counted_text : Bytes → Bytes
counted_text t = be_bytes 2 (length t) ++ t

-- a hello of tag 9, without crypto and codec
abbrev pub hello_of : Bytes → Bytes → Bytes
hello_of version uid =
    be_bytes 2 (2 + length (counted_text version ++ (counted_text uid ++ (0 ∷ 0 ∷ 0 ∷ [])))) ++ (4 ∷ 9 ∷ (counted_text version ++ (counted_text uid ++ (0 ∷ 0 ∷ 0 ∷ []))))

pub record Texts : Type 0 where
  pub version : map (λ (e : Example). request_of (hello_of e.text [])) table ≡ map (λ (e : Example). cond e.passes Hello Ill) table
  pub uid : map (λ (e : Example). request_of (hello_of (0x30 ∷ 0x32 ∷ []) e.text)) table ≡ map (λ (e : Example). cond e.passes Hello Ill) table
