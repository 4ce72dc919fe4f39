-- SHA-1 as FIPS 180-4 defines it, on lists of bytes.
-- FIPS 180-4 defines the hash of messages of fewer than 2 ^ 64 bits, which is 2 ^ 61 bytes. Here a longer list has one too: its length in bits is
-- padded modulo 2 ^ 64.
use Rattle.std.specs.Prelude.{List, ◌∷◌, ◌++◌, ℕ, zero, suc, ◌-◌, ◌*◌, ◌/◌, ◌%◌, length, take, drop, replicate}
use Rattle.digits.specs.Number.{be_bytes}
use Rattle.sha1_block.specs.declared.Hash.{Hash}
use Rattle.sha1_block.specs.Block.{initial, compress_of}

-- 5.1.1: how many zero bytes follow the mark after a message of n bytes: the fewest that leave 8 bytes of a block
abbrev pub zeros_of : ℕ → ℕ
zeros_of n = (119 - n % 64) % 64

-- 5.1.1: what is appended to a message of n bytes: the bit 1, zeros, and the length in bits as 64 bits
unfoldable pub pad_of : ℕ → List ℕ
pad_of n = (0x80 ∷ replicate (zeros_of n) 0) ++ be_bytes 8 (n * 8)

-- 5.1.1: the padded message
unfoldable pub padded_message : List ℕ → List ℕ
padded_message m = m ++ pad_of (length m)

-- 6.1.2: H(n), after the first n blocks of the padded message
unfoldable pub hash_of : ℕ → List ℕ → Hash
hash_of zero m = initial
hash_of (suc n) m = compress_of (hash_of n m) (take 64 (drop (n * 64) m))

-- 6.1.2: the five words of H(N) one behind the other
unfoldable pub digest_of : Hash → List ℕ
digest_of h = be_bytes 4 h.a ++ be_bytes 4 h.b ++ be_bytes 4 h.c ++ be_bytes 4 h.d ++ be_bytes 4 h.e

-- 6.1.2: the digest of a message
unfoldable pub sha1_of : List ℕ → List ℕ
sha1_of m = digest_of (hash_of (length (padded_message m) / 64) (padded_message m))
