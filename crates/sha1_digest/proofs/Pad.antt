-- The padding, and the digest of a padded message. Assumes nothing.
use mathlib.Core.Path.{◌≡◌, refl, sym, ap}
use mathlib.Core.List.{List, ◌∷◌, ◌++◌, append_assoc}
use Prim.Native.Nat.{ℕ, zero, suc, ◌+◌, ◌-◌, ◌*◌, ◌/◌, ◌%◌, ◌^◌, ◌<◌, ◌≤◌}
use native.Mathlib.Nat.{pow-suc, mul_assoc}
use native.Mathlib.Numerals.{add-one}
use native.Mathlib.Omega.{arith}
use lib.ListN.{length, take, set, replicate, length-append, length-replicate}
use Rattle.digits.specs.Number.{digits, be_bytes}
use Rattle.sha1_digest.specs.declared.Stream.{Stream}
use Rattle.sha1_digest.specs.Sha1.{digest_of, zeros_of, pad_of, padded_message, sha1_of}
use Rattle.sha1_digest.specs.Stream.{Holds}

take-replicate : (z n a : ℕ) → z ≤ n → take z (replicate n a) ≡ replicate z a
take-replicate zero n a h = refl
take-replicate (suc z) zero a h = absurd (omega arith)
take-replicate (suc z) (suc n) a h = ap (λ (l : List ℕ). a ∷ l) (take-replicate z n a (omega arith))

-- the first z + 1 bytes of an array of 64 that starts with the mark
abbrev pub marked : ℕ → List ℕ
marked z = take (z + 1) (set (replicate 64 0) 0 0x80)

pub mark : (z : ℕ) → z < 64 → marked z ≡ 0x80 ∷ replicate z 0
mark z h = rw add-one (ap (λ (l : List ℕ). 0x80 ∷ l) (take-replicate z 63 0 (omega arith)))

-- n bytes hold a number modulo 256 ^ n
be_wrap : (n x y : ℕ) → be_bytes n (x + y * 256 ^ n) ≡ be_bytes n x
unfolding digits
be_wrap zero x y = refl
be_wrap (suc n) x y =
    let p : y * 256 ^ suc n ≡ y * 256 ^ n * 256 = rw (pow-suc, mul_assoc) in
    let d : (x + y * 256 ^ n * 256) / 256 ≡ x / 256 + y * 256 ^ n = omega arith in
    let r : (x + y * 256 ^ n * 256) % 256 ≡ x % 256 = omega arith in
    rw (p, d, r, be_wrap n (x / 256) y)

-- so 8 bytes hold the bits of a count modulo 2 ^ 61
be_count : (n : ℕ) → be_bytes 8 (n % 2 ^ 61 * 8) ≡ be_bytes 8 (n * 8)
be_count n =
    let e : n * 8 ≡ n % 2 ^ 61 * 8 + n / 2 ^ 61 * 256 ^ 8 = omega arith in
    rw e (sym (be_wrap 8 (n % 2 ^ 61 * 8) (n / 2 ^ 61)))

pub pad_is : (m p : List ℕ) (len : ℕ) → len ≡ length m % 2 ^ 61 → p ≡ 0x80 ∷ replicate (zeros_of len) 0
    → m ++ p ++ be_bytes 8 (len % 2 ^ 61 * 8) ≡ padded_message m
unfolding padded_message pad_of
pad_is m p len e q =
    let z : len % 64 ≡ length m % 64 = omega arith in
    let b : len % 2 ^ 61 ≡ length m % 2 ^ 61 = omega arith in
    rw (append_assoc, q, z, b, be_count (length m))

-- 5.1.1: with the mark and the zeros a message fills its blocks but for the 8 bytes of its length
zeros_fill : (n : ℕ) → (n + 1 + zeros_of n) % 64 ≡ 56
zeros_fill n = omega arith

be_length : (n x : ℕ) → length (be_bytes n x) ≡ n
unfolding digits
be_length zero x = refl
be_length (suc n) x = rw (length-append, be_length n (x / 256), add-one)

-- so a padded message is whole blocks, and the digest reads all of it
pub padded-blocks : (m : List ℕ) → length (padded_message m) % 64 ≡ 0
unfolding padded_message pad_of
padded-blocks m = simp (length-append, length-replicate, be_length) (omega (arith, zeros_fill (length m)))

pub ended : (u : Stream) (m : List ℕ) → Holds u (padded_message m) → digest_of u.h ≡ sha1_of m
unfolding sha1_of
ended u m f =
    let e : f.fed.k ≡ length (padded_message m) / 64 = omega (arith, f.fed.size) in
    rw (f.fed.hashed, e)
