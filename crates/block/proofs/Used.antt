-- The used part: it ends with the last sector that is not blank.
use mathlib.Core.Path.{◌≡◌, refl, sym, ap, ◌∙◌}
use mathlib.Core.Logic.{◌≢◌}
use mathlib.Core.Bool.{Bool, true, false, true≢false}
use Prim.Native.Nat.{ℕ, zero, suc, ◌≤◌, ◌<◌}
use native.Mathlib.Nat.{le_antisymm}
use native.Mathlib.Omega.{arith}
use lib.Dec.{ltb, leb}
use borrow.Author.Tests.{ltb-true, ltb-false, leb-true, leb-false}
use lib.ListN.{length, replicate}
use Rattle.bedrock.proofs.Choices.{cond_ind, true_unless}
use Rattle.buffer.specs.Bytes.{Bytes, zeros}
use Rattle.buffer.proofs.Bytes.{zeros_replicated}
use Rattle.sector.specs.Sector.{blank}
use Rattle.block.specs.Log.{sectors, at, used_of, used}
use Rattle.block.proofs.At.{at-past, at-void, blank-is, length_at}

below-used : (log : Bytes) (k n : ℕ) → n < k → zeros (at log n) ≡ false → n < used_of log k
unfolding used_of
below-used log zero n h e = absurd (omega arith)
below-used log (suc k) n h e =
    cond_ind (λ (u : ℕ). n < u) (zeros (at log k)) (used_of log k) (suc k)
    (λ q. let ne : n ≢ k = λ z. true≢false (sym q ∙ ap (λ (m : ℕ). zeros (at log m)) (sym z) ∙ e) in below-used log k n (omega arith) e)
    (λ _. h)

used_bound : (log : Bytes) (k e : ℕ) → ((n : ℕ) → e ≤ n → zeros (at log n) ≡ true) → used_of log k ≤ e
unfolding used_of
used_bound log zero e f = omega arith
used_bound log (suc k) e f =
    cond_ind (λ (u : ℕ). u ≤ e) (zeros (at log k)) (used_of log k) (suc k) (λ _. used_bound log k e f) (λ q. go q (leb e k) refl)
  where
    go : zeros (at log k) ≡ false → (b : Bool) → leb e k ≡ b → suc k ≤ e
    go q true p = absurd (true≢false (sym (f k (leb-true e k p)) ∙ q))
    go q false p = leb-false e k p

used-last : (log : Bytes) (k n : ℕ) → used_of log k ≡ suc n → zeros (at log n) ≡ false
unfolding used_of
used-last log zero n e = absurd (omega arith)
used-last log (suc k) n e =
    cond_ind (λ (u : ℕ). u ≡ suc n → zeros (at log n) ≡ false) (zeros (at log k)) (used_of log k) (suc k)
    (λ _ g. used-last log k n g)
    (λ q g. let m : n ≡ k = omega arith in ap (λ (x : ℕ). zeros (at log x)) m ∙ q)
    e

pub lt_used : (log : Bytes) (n : ℕ) → zeros (at log n) ≡ false → n < used log
unfolding used
lt_used log n e = go (ltb n (sectors (length log))) refl
  where
    go : (b : Bool) → ltb n (sectors (length log)) ≡ b → n < used log
    go true q = below-used log (sectors (length log)) n (ltb-true n (sectors (length log)) q) e
    go false q = absurd (true≢false (sym blank-is ∙ ap zeros (sym (at-past log n (ltb-false n (sectors (length log)) q))) ∙ e))

pub used_le : (log : Bytes) (e : ℕ) → ((n : ℕ) → e ≤ n → zeros (at log n) ≡ true) → used log ≤ e
unfolding used
used_le log e f = used_bound log (sectors (length log)) e f

-- a blank log
pub used-void : (m : ℕ) → used (replicate m 0) ≡ 0
used-void m = le_antisymm (used_le (replicate m 0) 0 (λ n h. ap zeros (at-void m n) ∙ blank-is)) (omega arith)

pub used_le_sectors : (log : Bytes) → used log ≤ sectors (length log)
used_le_sectors log = used_le log (sectors (length log)) (λ n h. ap zeros (at-past log n h) ∙ blank-is)

-- the sector before the end is not blank, and every one from the end on is
pub at-used : (log : Bytes) (n : ℕ) → used log ≡ suc n → zeros (at log n) ≡ false
unfolding used
at-used log n e = used-last log (sectors (length log)) n e

pub blank-past : (log : Bytes) (n : ℕ) → used log ≤ n → zeros (at log n) ≡ true
blank-past log n h = true_unless (zeros (at log n)) (λ q. omega (arith, lt_used log n q))

pub at-beyond : (log : Bytes) (n : ℕ) → used log ≤ n → at log n ≡ blank
unfolding blank
at-beyond log n h = zeros_replicated (at log n) (blank-past log n h) ∙ ap (λ (k : ℕ). replicate k 0) (length_at log n)
