-- The cases of taking a message apart, one for each return of the code.
use mathlib.Core.Path.{◌≡◌}
use mathlib.Core.Bool.{Bool, true, false}
use mathlib.Core.List.{[], ◌∷◌}
use Prim.Native.Nat.{ℕ, ◌-◌, ◌≤◌, ◌<◌, min}
use native.Mathlib.Omega.{arith}
use lib.Dec.{eqb}
use borrow.Author.Tests.{le-leb, lt-leb, eq-eqb, ne_eqb}
use lib.ListN.{length, get_or, take, drop, length-drop, drop_of_length-le}
use lib.Seq.{take-nil}
use Rattle.std.specs.Prelude.{Option, Some, None}
use Rattle.buffer.specs.Bytes.{Bytes, same, zeros}
use Rattle.buffer.proofs.Parts.{take_upto}
use Rattle.digits.specs.Number.{be_number}
use Rattle.message.specs.declared.Request.{Request}
use Rattle.message.specs.declared.Request.TheVariants.{Read, Write, Unknown, Ill}
use Rattle.message.specs.Message.{framed, type_of, version_of, exactly, read_of, write_of, request_of}

-- ---- the head

pub framed-short : (m : Bytes) → length m < 4 → false ≡ framed m
unfolding framed
framed-short m h = rw (lt-leb 4 (length m) h)

pub framed-test : (m : Bytes) (n : ℕ) → 4 ≤ length m → n ≡ be_number (take 2 m) → eqb n (length m - 2) ≡ framed m
unfolding framed
framed-test m n h e = rw (e, le-leb 4 (length m) h)

-- ---- used up exactly

module _ (m : Bytes) (end : Option ℕ) (q : Request) where
  pub exactly-bad : end ≡ None → Ill ≡ exactly m end q
  unfolding exactly
  exactly-bad e = rw e

  pub exactly-good : (at : ℕ) → end ≡ Some at → at ≡ length m → q ≡ exactly m end q
  unfolding exactly
  exactly-good at e l = rw (e, eq-eqb at (length m) l)

  pub exactly-left : (at : ℕ) → end ≡ Some at → (at ≡ length m → ⊥) → Ill ≡ exactly m end q
  unfolding exactly
  exactly-left at e l = rw (e, ne_eqb at (length m) l)

-- ---- reads and writes

pub read-ill : (m : Bytes) → (length m ≡ 28 → ⊥) → Ill ≡ read_of m
unfolding read_of
read-ill m h = rw (ne_eqb (length m) 28 h)

module _ (m : Bytes) (h : length m ≡ 28) (b : Bool) (z : b ≡ zeros (take 1 (drop 25 m))) where
  pub read-padded : b ≡ false → Ill ≡ read_of m
  unfolding read_of
  read-padded e = rw (eq-eqb (length m) 28 h, ← z, e)

  pub read-good : b ≡ true → (n : ℕ) → n ≡ be_number (take 2 (drop 26 m)) → Read (get_or m 24 0) n ≡ read_of m
  unfolding read_of
  read-good e n q = rw (eq-eqb (length m) 28 h, ← z, e, q)

pub write-ill : (m : Bytes) → length m < 8 → Ill ≡ write_of m
unfolding write_of
write-ill m h = rw (lt-leb 8 (length m) h)

module _ (m : Bytes) (h : 8 ≤ length m) (b : Bool) (z : b ≡ zeros (take 3 (drop 5 m))) where
  pub write-padded : b ≡ false → Ill ≡ write_of m
  unfolding write_of
  write-padded e = rw (le-leb 8 (length m) h, ← z, e)

  pub write-good : b ≡ true → Write (get_or m 4 0) ≡ write_of m
  unfolding write_of
  write-good e = rw (le-leb 8 (length m) h, ← z, e)

-- ---- a type that no request has

pub unknown : (m : Bytes) → (type_of m ≡ 2 → ⊥) → (type_of m ≡ 4 → ⊥) → (type_of m ≡ 6 → ⊥) → (type_of m ≡ 12 → ⊥) → (type_of m ≡ 14 → ⊥) → (type_of m ≡ 16 → ⊥) → Unknown ≡ request_of m
unfolding request_of
unknown m a b c d e f =
    let t = type_of m in rw (ne_eqb t 2 a, ne_eqb t 4 b, ne_eqb t 6 c, ne_eqb t 12 d, ne_eqb t 14 e, ne_eqb t 16 f)

-- ---- the version

pub version-none : (m : Bytes) → length m < 6 → false ≡ same (version_of m) (48 ∷ 50 ∷ [])
version-none m h =
    let k : length m ≤ 6 = omega arith in
    rw (drop_of_length-le m k, take-nil)

-- the version that a message has room for
pub version-shown : (m : Bytes) (n end : ℕ) → n ≡ be_number (take 2 (drop 4 m)) → end - 6 ≡ min n (length m - 6) → take (end - 6) (drop 6 m) ≡ version_of m
version-shown m n end e h = rw (← e) (take_upto (end - 6) n (drop 6 m) (rw length-drop h))
