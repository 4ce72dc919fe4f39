-- Parts of byte strings.
use mathlib.Core.Path.{◌≡◌, refl, sym, ◌∙◌}
use mathlib.Core.List.{[], ◌∷◌}
use Prim.Native.Nat.{ℕ, zero, suc, ◌+◌, ◌-◌, ◌≤◌, min}
use native.Mathlib.Nat.{sub-zero, zero-sub, suc-sub-suc}
use native.Mathlib.Omega.{arith}
use lib.ListN.{length, take, drop, length-take, length-drop}
use lib.Seq.{take-take, take_all, take-length, take-nil}
use Rattle.buffer.specs.Bytes.{Bytes}

-- a part that lies within the first n bytes
pub part_within : (w o n : ℕ) (s : Bytes) → o + w ≤ n → take w (drop o (take n s)) ≡ take w (drop o s)
part_within w zero n s h = take-take w n s (omega arith)
part_within w (suc o) zero s h = absurd (omega arith)
part_within w (suc o) (suc n) [] h = refl
part_within w (suc o) (suc n) (a ∷ s) h = part_within w o n s (omega arith)

-- a part by its ends
pub part_length : (d : Bytes) (a e : ℕ) → e ≤ length d → length (take (e - a) (drop a d)) ≡ e - a
part_length d a e h = simp (length-take, length-drop) (omega arith)

-- and by its start and its length
pub part_size : (d : Bytes) (a n : ℕ) → a + n ≤ length d → length (take (a + n - a) (drop a d)) ≡ n
part_size d a n h = part_length d a (a + n) h ∙ omega arith

-- what lies from a on, as a part up to the end
pub part_rest : (d : Bytes) (a : ℕ) → take (length d - a) (drop a d) ≡ drop a d
part_rest d a = rw (← length-drop a d) (take-length (drop a d))

-- what lies from a on of the first n bytes
pub drop-take : (a n : ℕ) (s : Bytes) → drop a (take n s) ≡ take (n - a) (drop a s)
drop-take zero n s = rw sub-zero
drop-take (suc a) zero s = rw zero-sub
drop-take (suc a) (suc n) [] = rw take-nil
drop-take (suc a) (suc n) (x ∷ s) = rw suc-sub-suc (drop-take a n s)

-- n bytes, or all if there are fewer
pub take_upto : (m n : ℕ) (s : Bytes) → m ≡ min n (length s) → take m s ≡ take n s
take_upto m n s e = sym (take-take m n s (omega arith)) ∙ take_all m (take n s) (omega (arith, length-take n s))
