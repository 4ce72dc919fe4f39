-- SHA-1 into a lent buffer. Assumes nothing.
use Rattle.std.specs.Prelude.{ℕ, Bool, cond, List, ltb, length}
use Rattle.buffer.specs.Bytes.{put}
use Rattle.sha1_digest.specs.Sha1.{sha1_of}

-- the buffer is shorter than a digest, which has 20 bytes
abbrev pub short : List ℕ → Bool
short out = ltb (length out) 20

-- the number returned: 2 for a buffer too short, as for a reply or report buffer too short, else 0
unfoldable pub digest_number : List ℕ → ℕ
digest_number out = cond (short out) 2 0

-- what the buffer then holds: the digest of s in front, and behind it what it held; one too short is unchanged
unfoldable pub digest_buffer : List ℕ → List ℕ → List ℕ
digest_buffer s out = cond (short out) out (put out 0 (sha1_of s))
