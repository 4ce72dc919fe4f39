-- The two outcomes of a digest into a buffer: too short a buffer, and a digest written. Assumes nothing.
use mathlib.Core.Path.{◌≡◌, refl}
use mathlib.Core.List.{List}
use Prim.Native.Nat.{ℕ, ◌<◌, ◌≤◌}
use borrow.Author.Tests.{lt-ltb, le-ltb}
use lib.ListN.{length}
use Rattle.buffer.specs.Bytes.{put}
use Rattle.sha1_digest.specs.Sha1.{sha1_of}
use Rattle.digest_calls.specs.Digest.{digest_number, digest_buffer}

module _ (s out : List ℕ) where
  pub too_short : length out < 20 → (2 ≡ digest_number out) × (out ≡ digest_buffer s out)
  unfolding digest_number digest_buffer
  too_short h = rw (lt-ltb (length out) 20 h) (refl, refl)

  pub written : (d x : List ℕ) → 20 ≤ length out → d ≡ sha1_of s → x ≡ put out 0 d → (0 ≡ digest_number out) × (x ≡ digest_buffer s out)
  unfolding digest_number digest_buffer
  written d x h p q = rw (le-ltb (length out) 20 h, q, p) (refl, refl)
