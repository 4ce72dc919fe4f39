-- The zero score is da39a3ee 5e6b4b0d 3255bfef 95601890 afd80709, and what its bytes tell of others.
use mathlib.Core.Path.{◌≡◌, ap, ◌∙◌}
use mathlib.Core.Bool.{false}
use mathlib.Core.List.{[], ◌∷◌}
use Prim.Native.Nat.{◌<◌}
use native.Mathlib.Omega.{arith}
use lib.ListN.{length, get_or}
use Rattle.buffer.specs.Bytes.{Bytes, same}
use Rattle.buffer.proofs.Steps.{same-lengths, same-differ}
use Rattle.sha1_digest.proofs.Digest.{empty}
pub use Rattle.sha1_digest.proofs.Digest.{digest_length, digest_bytes}
use Rattle.kind.specs.Kind.{zero_score}

pub zero-score-bytes : zero_score ≡ 0xda ∷ 0x39 ∷ 0xa3 ∷ 0xee ∷ 0x5e ∷ 0x6b ∷ 0x4b ∷ 0x0d ∷ 0x32 ∷ 0x55 ∷ 0xbf ∷ 0xef ∷ 0x95 ∷ 0x60 ∷ 0x18 ∷ 0x90 ∷ 0xaf ∷ 0xd8 ∷ 0x07 ∷ 0x09 ∷ []
unfolding zero_score
zero-score-bytes = empty

pub length-zero-score : length zero_score ≡ 20
length-zero-score = ap length zero-score-bytes

pub first-zero-score : get_or zero_score 0 0 ≡ 0xda
first-zero-score = ap (λ (z : Bytes). get_or z 0 0) zero-score-bytes

-- no bytes are not the zero score
pub none_differ : (s : Bytes) → length s ≡ 0 → same s zero_score ≡ false
none_differ s h = same-lengths s zero_score (λ e. omega (arith, length-zero-score))

-- nor are bytes that begin otherwise
pub first-differs : (s : Bytes) → 0 < length s → (get_or s 0 0 ≡ 0xda → ⊥) → same s zero_score ≡ false
first-differs s h n = same-differ s zero_score 0 h (omega (arith, length-zero-score)) (λ e. n (e ∙ first-zero-score))
