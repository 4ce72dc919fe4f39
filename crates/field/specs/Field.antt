-- "Messages": the fields of a body, and where each ends.
use Rattle.std.specs.Prelude.{Bool, cond, ◌&&◌, Option, Some, None, ℕ, ◌+◌, leb, length, get_or, take, drop}
use Rattle.buffer.specs.Bytes.{Bytes}
use Rattle.digits.specs.Number.{be_number}
use Rattle.utf8.specs.Grammar.{well_formed_text}

-- "A message is size[2], type[1], tag[1], body": the bytes before the body
abbrev pub head_length : ℕ
head_length = 4

-- "text of at most 1,024 bytes", "not characters"; "well-formed UTF-8 by RFC 3629 .. without NUL": `well_formed` in utf8/specs/Grammar.antt
abbrev pub is_text : Bytes → Bool
is_text t = leb (length t) 1024 && well_formed_text t

-- "[s] is a two-byte count and text": where the text at `at` ends
unfoldable pub text_end : Bytes → ℕ → Option ℕ
text_end m at =
    let n = be_number (take 2 (drop at m)) in
    cond (leb (at + 2) (length m) && (leb (at + 2 + n) (length m) && is_text (take n (drop (at + 2) m)))) (Some (at + 2 + n)) None

-- "[n] is a one-byte count and bytes": where they end
unfoldable pub counted_end : Bytes → ℕ → Option ℕ
counted_end m at = cond (leb (at + 1) (length m) && leb (at + 1 + get_or m at 0) (length m)) (Some (at + 1 + get_or m at 0)) None

-- a field of k bytes
unfoldable pub bytes_end : ℕ → Bytes → ℕ → Option ℕ
bytes_end k m at = cond (leb (at + k) (length m)) (Some (at + k)) None

abbrev pub then : Option ℕ → (ℕ → Option ℕ) → Option ℕ
then None f = None
then (Some at) f = f at

-- "hello: version[s] uid[s] strength[1] crypto[n] codec[n]"
abbrev pub hello_end : Bytes → Option ℕ
hello_end m = then (then (then (then (text_end m head_length) (text_end m)) (bytes_end 1 m)) (counted_end m)) (counted_end m)
