-- What a stream has taken in. Assumes nothing.
use Rattle.std.specs.Prelude.{◌≡◌, List, ℕ, ◌+◌, ◌*◌, ◌%◌, ◌^◌, length, take, drop}
use Rattle.sha1_block.specs.declared.Hash.{Hash}
use Rattle.sha1_digest.specs.declared.Stream.{Stream}
use Rattle.sha1_digest.specs.Sha1.{hash_of}

-- h is the hash value after the whole blocks of m, and the n bytes of m after these are the first n of buf
pub record Fed (h : Hash) (buf : List ℕ) (n : ℕ) (m : List ℕ) : Type 0 where
  pub k : ℕ
  pub size : length m ≡ k * 64 + n
  pub hashed : h ≡ hash_of k m
  pub rest : take n buf ≡ drop (k * 64) m

-- the stream s has taken in the message m: it counts bytes modulo 2 ^ 61, and so bits modulo 2 ^ 64
pub record Holds (s : Stream) (m : List ℕ) : Type 0 where
  pub fed : Fed s.h s.buf (s.len % 64) m
  pub count : s.len ≡ length m % 2 ^ 61
