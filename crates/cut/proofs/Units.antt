-- Laws of units laid end to end, and of cutting them off, over every unit.
use mathlib.Core.Path.{◌≡◌, refl, sym, ap, ap₂, ◌∙◌}
use mathlib.Core.Bool.{Bool, true, false, cond}
use mathlib.Core.List.{◌∷◌, ◌++◌, append_assoc, append-nil}
use Prim.Native.Nat.{ℕ, zero, suc, ◌+◌, ◌*◌, ◌≤◌}
use native.Mathlib.Omega.{arith}
use native.Mathlib.Nat.{mul-zero, mul-suc, mul-add, add-zero, zero-add, add-suc, suc-add}
use lib.ListN.{length, take, drop, replicate, length-append, length-drop}
use lib.Seq.{take-add, take-append-le, drop-append-le, take-length, drop_at}
use Rattle.buffer.specs.Bytes.{Bytes, same}
use Rattle.buffer.proofs.Bytes.{same_refl, same_true}
use Rattle.cut.specs.Cut.{zero_byte, repeat, unit_at, kept}

-- ---- units laid end to end

pub length-repeat : (u : Bytes) (k : ℕ) → length (repeat u k) ≡ length u * k
unfolding repeat
length-repeat u zero = sym (mul-zero (length u))
length-repeat u (suc k) = length-append u (repeat u k) ∙ omega (arith, length-repeat u k, mul-suc (length u) k)

pub repeat_add : (u : Bytes) (j k : ℕ) → repeat u (j + k) ≡ repeat u j ++ repeat u k
unfolding repeat
repeat_add u zero k = ap (repeat u) (zero-add k)
repeat_add u (suc j) k = ap (repeat u) (suc-add j k) ∙ ap (λ (x : Bytes). u ++ x) (repeat_add u j k) ∙ sym (append_assoc u (repeat u j) (repeat u k))

pub repeat-one : (u : Bytes) → repeat u 1 ≡ u
unfolding repeat
repeat-one u = append-nil u

pub repeat_snoc : (u : Bytes) (k : ℕ) → repeat u (suc k) ≡ repeat u k ++ u
repeat_snoc u k =
    let e : suc k ≡ k + 1 = omega arith in
    ap (repeat u) e ∙ repeat_add u k 1 ∙ ap (λ (x : Bytes). repeat u k ++ x) (repeat-one u)

-- zero bytes laid end to end
pub repeat-zeros : (k : ℕ) → repeat zero_byte k ≡ replicate k 0
unfolding repeat
repeat-zeros zero = refl
repeat-zeros (suc k) = ap (λ (x : Bytes). 0 ∷ x) (repeat-zeros k)

-- ---- how many units are kept

-- by the test of the last unit
pub kept_more : (u : Bytes) (k : ℕ) (b : Bytes) → same (unit_at u b k) u ≡ true → kept u (suc k) b ≡ kept u k b
unfolding kept
kept_more u k b e = rw e

pub kept-stop : (u : Bytes) (k : ℕ) (b : Bytes) → same (unit_at u b k) u ≡ false → kept u (suc k) b ≡ suc k
unfolding kept
kept-stop u k b e = rw e

-- no more than there are
pub kept_le : (u : Bytes) (k : ℕ) (b : Bytes) → kept u k b ≤ k
unfolding kept
kept_le u zero b = omega arith
kept_le u (suc k) b = go (same (unit_at u b k) u) (kept_le u k b)
  where
    go : (t : Bool) → kept u k b ≤ k → cond t (kept u k b) (suc k) ≤ suc k
    go true h = omega arith
    go false h = omega arith

-- bytes after the first k units don't count
pub kept-front : (u : Bytes) (k : ℕ) (b y : Bytes) → length u * k ≤ length b → kept u k (b ++ y) ≡ kept u k b
unfolding kept
kept-front u zero b y h = refl
kept-front u (suc k) b y h =
    let m : length u * suc k ≡ length u * k + length u = mul-suc (length u) k in
    let e : unit_at u (b ++ y) k ≡ unit_at u b k =
    ap (take (length u)) (drop-append-le (length u * k) b y (omega arith))
    ∙ take-append-le (length u) (drop (length u * k) b) y (omega (arith, length-drop (length u * k) b)) in
    ap₂ (λ (t : Bool) (x : ℕ). cond t x (suc k)) (ap (λ (x : Bytes). same x u) e) (kept-front u k b y (omega arith))

-- units after the first k don't count if all of them are u: what is appended is cut off
pub kept-repeat : (u : Bytes) (k j : ℕ) (b : Bytes) → length b ≡ length u * k → kept u (k + j) (b ++ repeat u j) ≡ kept u k b
unfolding repeat
kept-repeat u k zero b h = rw (add-zero, append-nil)
kept-repeat u k (suc j) b h =
    let y = b ++ repeat u j in
    let n : length y ≡ length u * (k + j) = length-append b (repeat u j) ∙ omega (arith, length-repeat u j, mul-add (length u) k j) in
    let s : b ++ repeat u (suc j) ≡ y ++ u = ap (λ (x : Bytes). b ++ x) (repeat_snoc u j) ∙ sym (append_assoc b (repeat u j) u) in
    let e : unit_at u (y ++ u) (k + j) ≡ u = ap (take (length u)) (drop_at y u (length u * (k + j)) n) ∙ take-length u in
    ap₂ (λ (i : ℕ) (x : Bytes). kept u i x) (add-suc k j) s
    ∙ kept_more u (k + j) (y ++ u) (ap (λ (x : Bytes). same x u) e ∙ same_refl u)
    ∙ kept-front u (k + j) y u (omega (arith, n))
    ∙ kept-repeat u k j b h

-- what is kept of k units, and then units u: as many as are cut off
pub record Rest (u : Bytes) (k : ℕ) (b : Bytes) : Type 0 where
  pub count : ℕ
  pub sum : kept u k b + count ≡ k
  pub split : take (length u * k) b ≡ take (length u * kept u k b) b ++ repeat u count

pub kept-rest : (u : Bytes) (k : ℕ) (b : Bytes) → Rest u k b
unfolding kept repeat
kept-rest u zero b = record { count = 0; sum = refl; split = sym (append-nil (take (length u * zero) b)) }
kept-rest u (suc k) b = go (same (unit_at u b k) u) refl (kept-rest u k b)
  where
    grown : take (length u * suc k) b ≡ take (length u * k) b ++ unit_at u b k
    grown = ap (λ (n : ℕ). take n b) (mul-suc (length u) k) ∙ take-add (length u * k) (length u) b

    go : (t : Bool) → same (unit_at u b k) u ≡ t → Rest u k b → Rest u (suc k) b
    go true q r =
        let e : kept u (suc k) b ≡ kept u k b = kept_more u k b q in
        record {
          count = suc r.count;
          sum = omega (arith, e, r.sum);
          split =
              grown
              ∙ ap₂ ◌++◌ r.split (same_true (unit_at u b k) u q)
              ∙ append_assoc (take (length u * kept u k b) b) (repeat u r.count) u
              ∙ ap₂ (λ (n : ℕ) (x : Bytes). take (length u * n) b ++ x) (sym e) (sym (repeat_snoc u r.count));
        }
    go false q r =
        let e : kept u (suc k) b ≡ suc k = kept-stop u k b q in
        record { count = 0; sum = omega (arith, e); split = ap (λ (n : ℕ). take (length u * n) b) (sym e) ∙ sym (append-nil (take (length u * kept u (suc k) b) b)) }
