-- Writing into a byte string: its length, what stands before and behind, two writes side by side, a part that was lent, one store.
use mathlib.Core.Path.{◌≡◌, sym, ap, ap₂, ◌∙◌}
use mathlib.Core.List.{[], ◌∷◌, ◌++◌, append_assoc, append-nil}
use Prim.Native.Nat.{ℕ, ◌+◌, ◌-◌, ◌≤◌, ◌<◌}
use native.Mathlib.Omega.{arith}
use native.Mathlib.Nat.{zero-add, add-zero}
use native.Mathlib.Numerals.{add-one}
use lib.ListN.{length, take, drop, set, length-append, length-take, length-drop, drop_of_length-le, take-append-drop}
use lib.Seq.{take_at, drop_at, drop-append-le, drop-append-add, drop-drop, set_split, length-take-le}
use Rattle.buffer.specs.Bytes.{Bytes, put}
use Rattle.buffer.proofs.Parts.{part_rest}

module _ (d : Bytes) (at : ℕ) (x : Bytes) (h : at + length x ≤ length d) where
  head-length : length (take at d ++ x) ≡ at + length x
  head-length = simp (length-append, length-take) (omega arith)

  head : put d at x ≡ (take at d ++ x) ++ drop (at + length x) d
  head = sym (append_assoc (take at d) x (drop (at + length x) d))

  pub length-put : length (put d at x) ≡ length d
  length-put = ap length head ∙ simp (length-append, length-drop) (omega (arith, length-take-le at d (omega arith)))

  -- up to the end of what was written, and from there on
  pub take_put : take (at + length x) (put d at x) ≡ take at d ++ x
  take_put = ap (take (at + length x)) head ∙ take_at (take at d ++ x) (drop (at + length x) d) (at + length x) head-length

  pub drop-put : drop (at + length x) (put d at x) ≡ drop (at + length x) d
  drop-put = ap (drop (at + length x)) head ∙ drop_at (take at d ++ x) (drop (at + length x) d) (at + length x) head-length

-- two writes side by side are one
pub put-put : (d : Bytes) (at : ℕ) (x y : Bytes) → at ≤ length d → put (put d at x) (at + length x) y ≡ put d at (x ++ y)
put-put d at x y h =
    let k = at + length x in
    let p = take at d ++ x in
    let q = drop k d in
    let l : length p ≡ k = simp (length-append, length-take) (omega arith) in
    let whole : k + length y ≡ at + length (x ++ y) = simp length-append (omega arith) in
    ap (λ (z : Bytes). put z k y) (sym (append_assoc (take at d) x q))
    ∙ ap₂ (λ (a b : Bytes). a ++ (y ++ b)) (take_at p q k l) (ap (λ (w : ℕ). drop (w + length y) (p ++ q)) (sym l) ∙ drop-append-add p q (length y) ∙ drop-drop (length y) k d)
    ∙ append_assoc (take at d) x (y ++ drop (k + length y) d)
    ∙ ap (λ (z : Bytes). take at d ++ z) (sym (append_assoc x y (drop (k + length y) d)) ∙ ap (λ (w : ℕ). x ++ y ++ drop w d) whole)

-- the same where the second place is only known to be the end of the first
pub put_next : (d : Bytes) (at n : ℕ) (x y : Bytes) → n ≡ at + length x → at + (length x + length y) ≤ length d → put (put d at x) n y ≡ put d at (x ++ y)
put_next d at n x y e h = ap (λ (k : ℕ). put (put d at x) k y) e ∙ put-put d at x y (omega arith)

-- a part from a to e that was lent and came back whole
pub put_mid_lem : (d ys : Bytes) (a e : ℕ) → a ≤ e → length ys ≡ e - a → take a d ++ (ys ++ drop (e - a) (drop a d)) ≡ put d a ys
put_mid_lem d ys a e h l = ap (λ (q : Bytes). take a d ++ (ys ++ q)) (drop-drop (e - a) a d ∙ ap (λ (k : ℕ). drop (a + k) d) (sym l))

-- one store
pub put_one : (d : Bytes) (i v : ℕ) → i < length d → set d i v ≡ put d i (v ∷ [])
put_one d i v h = set_split d i v h ∙ ap (λ (k : ℕ). take i d ++ (v ∷ drop k d)) (sym (add-one i))

-- a write of the whole
pub put_whole : (d x : Bytes) → length x ≡ length d → put d 0 x ≡ x
put_whole d x e = let n : length d ≤ 0 + length x = omega arith in rw (drop_of_length-le d n) (append-nil x)

-- nothing written
pub put-none : (d : Bytes) (at : ℕ) → put d at [] ≡ d
put-none d at = rw add-zero (take-append-drop at d)

-- at the front
pub put_front : (d x : Bytes) → put d 0 x ≡ x ++ drop (length x) d
put_front d x = ap (λ (k : ℕ). x ++ drop k d) (zero-add (length x))

pub put-front-put : (d x y : Bytes) → put (put d 0 x) (length x) y ≡ put d 0 (x ++ y)
put-front-put d x y = ap (λ (k : ℕ). put (put d 0 x) k y) (sym (zero-add (length x))) ∙ put-put d 0 x y (omega arith)

-- a part up to e that was lent and came back with x written to its front
pub put_part : (d ys x : Bytes) (a e : ℕ) → length x ≤ length (take (e - a) (drop a d)) → ys ≡ put (take (e - a) (drop a d)) 0 x
    → take a d ++ (ys ++ drop (e - a) (drop a d)) ≡ put d a x
put_part d ys x a e h q =
    let part = take (e - a) (drop a d) in
    let rest = drop (e - a) (drop a d) in
    let behind : drop (length x) part ++ rest ≡ drop (a + length x) d =
    sym (drop-append-le (length x) part rest h) ∙ ap (drop (length x)) (take-append-drop (e - a) (drop a d)) ∙ drop-drop (length x) a d in
    ap (λ (y : Bytes). take a d ++ (y ++ rest)) (q ∙ put_front part x)
    ∙ ap (λ (y : Bytes). take a d ++ y) (append_assoc x (drop (length x) part) rest ∙ ap (λ (y : Bytes). x ++ y) behind)

-- the same of all that lies from a on, however long x is
pub put-tail : (d ys x : Bytes) (a : ℕ) → ys ≡ put (take (length d - a) (drop a d)) 0 x → take a d ++ (ys ++ drop (length d - a) (drop a d)) ≡ put d a x
put-tail d ys x a q =
    let h : length (drop a d) ≤ length d - a = omega (arith, length-drop a d) in
    let none : drop (length d - a) (drop a d) ≡ [] = drop_of_length-le (drop a d) h in
    rw q (rw (part_rest d a, none, append-nil, zero-add, drop-drop))
