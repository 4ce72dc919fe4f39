-- The digest: of no bytes and of `abc`, its length, and that it is of bytes. Assumes nothing.
use mathlib.Core.Path.{◌≡◌, refl}
use mathlib.Core.List.{List, [], ◌∷◌, ◌++◌}
use Prim.Native.Nat.{ℕ, zero, suc, ◌+◌, ◌/◌, ◌%◌, ◌<◌}
use native.Mathlib.Omega.{arith}
use lib.ListN.{length, get_or}
use Rattle.digits.specs.Number.{digits, be_bytes}
use Rattle.sha1_block.specs.declared.Hash.{Hash}
use Rattle.sha1_block.specs.Block.{words_of, snoc_word, schedule_of, round_of, rounds_of, add_hash, compress_of}
use Rattle.sha1_digest.specs.Sha1.{hash_of, pad_of, padded_message, digest_of, sha1_of}
use Rattle.sha1_digest.specs.Vectors.{OfNoBytes, OfAbc}

pub empty : OfNoBytes
unfolding words_of snoc_word schedule_of round_of rounds_of add_hash compress_of hash_of digits pad_of padded_message digest_of sha1_of
empty = refl

pub abc : OfAbc
unfolding words_of snoc_word schedule_of round_of rounds_of add_hash compress_of hash_of digits pad_of padded_message digest_of sha1_of
abc = refl

pub digest_length : (m : List ℕ) → length (sha1_of m) ≡ 20
unfolding digits digest_of sha1_of
digest_length m = refl

-- every element is a byte, also past the end, where `get_or` gives 0
record Bytes (s : List ℕ) : Type 0 where
  at : (k : ℕ) → get_or s k 0 < 256

get_d_append : (s t : List ℕ) (k : ℕ) → ((j : ℕ) → get_or s j 0 < 256) → ((j : ℕ) → get_or t j 0 < 256) → get_or (s ++ t) k 0 < 256
get_d_append [] t k p q = q k
get_d_append (x ∷ s) t zero p q = p zero
get_d_append (x ∷ s) t (suc k) p q = get_d_append s t k (λ j. p (suc j)) q

joined : {s t : List ℕ} → Bytes s → Bytes t → Bytes (s ++ t)
joined {s} {t} p q = record { at = λ k. get_d_append s t k p.at q.at }

one_byte : (x : ℕ) → x < 256 → (k : ℕ) → get_or (x ∷ []) k 0 < 256
one_byte x h zero = h
one_byte x h (suc k) = omega arith

be_bytes_lem : (n x : ℕ) → Bytes (be_bytes n x)
unfolding digits
be_bytes_lem zero x = record { at = λ k. omega arith }
be_bytes_lem (suc n) x = joined (be_bytes_lem n (x / 256)) (record { at = one_byte (x % 256) (omega arith) })

hash_bytes : (h : Hash) → Bytes (digest_of h)
unfolding digest_of
hash_bytes h = joined (joined (joined (joined (be_bytes_lem 4 h.a) (be_bytes_lem 4 h.b)) (be_bytes_lem 4 h.c)) (be_bytes_lem 4 h.d)) (be_bytes_lem 4 h.e)

pub digest_bytes : (m : List ℕ) (k : ℕ) → get_or (sha1_of m) k 0 < 256
unfolding sha1_of
digest_bytes m = (hash_bytes _).at
