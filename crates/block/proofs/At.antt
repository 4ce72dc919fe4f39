-- The log as sectors: every sector has 512 bytes, a blank log has blank ones, and what stands in a sector of a log of three pieces.
use mathlib.Core.Path.{◌≡◌, refl, sym, ap, ◌∙◌}
use mathlib.Core.Bool.{Bool, true, false}
use mathlib.Core.List.{◌∷◌, ◌++◌}
use mathlib.Core.Logic.{◌⊎◌, inl, inr}
use Prim.Native.Nat.{ℕ, zero, suc, ◌+◌, ◌-◌, ◌*◌, ◌≤◌, ◌<◌}
use native.Mathlib.Omega.{arith}
use lib.Dec.{ltb}
use borrow.Author.Tests.{ltb-true, ltb-false, lt-ltb, le-ltb}
use lib.ListN.{length, take, drop, replicate, length-append, length-take, length-drop, length-replicate}
use lib.Seq.{take-append-le, drop-append-le, drop-append-add}
use Rattle.bedrock.proofs.Choices.{cond_ind}
use Rattle.buffer.specs.Bytes.{Bytes, zeros}
use Rattle.buffer.proofs.Bytes.{zeros-replicate}
use Rattle.sector.specs.Sector.{blank}
use Rattle.block.specs.Log.{sectors, at}

-- sector n of a run of bytes
abbrev pub piece : Bytes → ℕ → Bytes
piece l n = take 512 (drop (512 * n) l)

pub piece-front : (a x : Bytes) (f n : ℕ) → length a ≡ 512 * f → n < f → piece (a ++ x) n ≡ piece a n
piece-front a x f n e h =
    ap (take 512) (drop-append-le (512 * n) a x (omega arith))
    ∙ take-append-le 512 (drop (512 * n) a) x (simp length-drop (omega arith))

pub piece_skip : (a x : Bytes) (f n : ℕ) → length a ≡ 512 * f → f ≤ n → piece (a ++ x) n ≡ piece x (n - f)
piece_skip a x f n e h =
    let m : 512 * n ≡ length a + 512 * (n - f) = omega arith in
    ap (take 512) (ap (λ (m : ℕ). drop m (a ++ x)) m ∙ drop-append-add a x (512 * (n - f)))

pub at_piece : (log : Bytes) (n : ℕ) → n < sectors (length log) → at log n ≡ piece log n
unfolding at
at_piece log n h = rw (lt-ltb n (sectors (length log)) h)

pub at-past : (log : Bytes) (n : ℕ) → sectors (length log) ≤ n → at log n ≡ blank
unfolding at
at-past log n h = rw (le-ltb n (sectors (length log)) h)

pub length-blank : length blank ≡ 512
unfolding blank
length-blank = length-replicate {A = ℕ} 512 0

pub blank-is : zeros blank ≡ true
unfolding blank
blank-is = zeros-replicate 512

pub length_at : (log : Bytes) (n : ℕ) → length (at log n) ≡ 512
unfolding at
length_at log n = cond_ind (λ (x : Bytes). length x ≡ 512) (ltb n (sectors (length log))) _ _
    (λ q. let h = ltb-true n (sectors (length log)) q in simp (length-take, length-drop) (omega arith)) (λ _. length-blank)

-- a log all zeros, of any length
abbrev void : ℕ → Bytes
void m = replicate m 0

take-void : (m k : ℕ) → k ≤ m → take k (void m) ≡ void k
take-void m zero h = refl
take-void zero (suc k) h = absurd (omega arith)
take-void (suc m) (suc k) h = ap (λ (x : Bytes). 0 ∷ x) (take-void m k (omega arith))

void_part : (m a k : ℕ) → a + k ≤ m → take k (drop a (void m)) ≡ void k
void_part m zero k h = take-void m k (omega arith)
void_part zero (suc a) k h = absurd (omega arith)
void_part (suc m) (suc a) k h = void_part m a k (omega arith)

blank-piece : (m n : ℕ) → n < sectors (length (void m)) → piece (void m) n ≡ blank
unfolding blank
blank-piece m n h = void_part m (512 * n) 512 (let lm : length (void m) ≡ m = length-replicate m 0 in omega arith)

pub at-void : (m n : ℕ) → at (replicate m 0) n ≡ blank
at-void m n = go (ltb n (sectors (length (void m)))) refl
  where
    go : (b : Bool) → ltb n (sectors (length (void m))) ≡ b → at (void m) n ≡ blank
    go true q = let h = ltb-true n (sectors (length (void m))) q in at_piece (void m) n h ∙ blank-piece m n h
    go false q = at-past (void m) n (ltb-false n (sectors (length (void m))) q)

-- a log of three pieces, the middle one put in for another of its length
pub at_middle : (a b c : Bytes) (f k n : ℕ) → length a ≡ 512 * f → length b ≡ 512 * k → f ≤ n → n < f + k → at (a ++ (b ++ c)) n ≡ piece b (n - f)
at_middle a b c f k n la lb h g = at_piece (a ++ (b ++ c)) n (simp length-append (omega arith)) ∙ piece_skip a (b ++ c) f n la h ∙ piece-front b c k (n - f) lb (omega arith)

pub at_aside : (a b c d : Bytes) (f k n : ℕ) → length a ≡ 512 * f → length b ≡ 512 * k → length c ≡ 512 * k → (n < f) ⊎ (f + k ≤ n) → at (a ++ (b ++ d)) n ≡ at (a ++ (c ++ d)) n
at_aside a b c d f k n la lb lc (inl h) =
    at_piece (a ++ (b ++ d)) n (simp length-append (omega arith)) ∙ piece-front a (b ++ d) f n la h
    ∙ sym (at_piece (a ++ (c ++ d)) n (simp length-append (omega arith)) ∙ piece-front a (c ++ d) f n la h)
at_aside a b c d f k n la lb lc (inr h) = go (ltb n (sectors (length (a ++ (b ++ d))))) refl
  where
    size : length (a ++ (b ++ d)) ≡ length (a ++ (c ++ d))
    size = simp length-append (omega arith)

    go : (t : Bool) → ltb n (sectors (length (a ++ (b ++ d)))) ≡ t → at (a ++ (b ++ d)) n ≡ at (a ++ (c ++ d)) n
    go true q =
        let lt = ltb-true n (sectors (length (a ++ (b ++ d)))) q in
        at_piece (a ++ (b ++ d)) n lt
        ∙ piece_skip a (b ++ d) f n la (omega arith) ∙ piece_skip b d k (n - f) lb (omega arith)
        ∙ sym (piece_skip c d k (n - f) lc (omega arith)) ∙ sym (piece_skip a (c ++ d) f n la (omega arith))
        ∙ sym (at_piece (a ++ (c ++ d)) n (omega (arith, ap sectors size)))
    go false q =
        let ge = ltb-false n (sectors (length (a ++ (b ++ d)))) q in
        at-past (a ++ (b ++ d)) n ge ∙ sym (at-past (a ++ (c ++ d)) n (omega (arith, ap sectors size)))
