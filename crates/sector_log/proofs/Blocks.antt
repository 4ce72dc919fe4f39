-- The sound blocks of any log: which they are, their order, and how a scan meets them.
use mathlib.Core.Path.{◌≡◌, refl, sym, ap, ◌∙◌}
use mathlib.Core.Bool.{Bool, true, false}
use mathlib.Core.List.{List, [], ◌∷◌, ◌++◌, append-nil, Memᴰ}
use mathlib.Core.Option.{Option, none, some}
use Prim.Native.Nat.{ℕ, zero, suc, ◌+◌, ◌-◌, ◌≤◌, ◌<◌}
use native.Mathlib.Omega.{arith}
use lib.Dec.{ltb}
use borrow.Author.Tests.{ltb-true, ltb-false}
use lib.ListN.{length}
use Rattle.bedrock.specs.Places.{found_from}
use Rattle.bedrock.proofs.Choices.{on_ind}
use Rattle.buffer.specs.Bytes.{Bytes}
use Rattle.bedrock.proofs.Places.{found_in, found_out}
use Rattle.block.specs.Block.{Row, parts}
use Rattle.block.specs.Log.{sectors, used, sound}
use Rattle.block.proofs.Facts.{parts_pos}
use Rattle.block.proofs.Used.{used_le_sectors}
use Rattle.block.proofs.Sound.{sound-reads}
use Rattle.block.proofs.Apart.{none_inside, none-past}
use Rattle.sector_log.specs.LookUp.{blocks}

-- ---- membership

from_out : (log : Bytes) (k n : ℕ) (r : Row) → Memᴰ r (found_from (sound log) k n) → (n ≤ r.first) × (sound log r.first ≡ some r)
from_out log k n r h =
    let p = found_out (sound log) k n r h in
    let here : r.first ≡ p.0 = (sound-reads log p.0 r p.2).1 in
    (omega (arith, p.1), ap (sound log) here ∙ p.2)

pub blocks_in : (log : Bytes) (r : Row) → sound log r.first ≡ some r → Memᴰ r (blocks log)
unfolding blocks
blocks_in log r e =
    let p = sound-reads log r.first r e in
    let pos : 0 < parts r = parts_pos r p.0 in
    found_in (sound log) (sectors (length log)) 0 r.first r (omega arith) (omega (arith, p.2)) e

pub blocks_out : (log : Bytes) (r : Row) → Memᴰ r (blocks log) → sound log r.first ≡ some r
unfolding blocks
blocks_out log r m = (from_out log (sectors (length log)) 0 r m).1

-- ---- order: each block starts at or past the end of the one before it, the first at lo or later

abbrev pub Ascends : ℕ → List Row → Type 0
Ascends lo [] = Unit {0}
Ascends lo (r ∷ rows) = (lo ≤ r.first) × Ascends (r.first + parts r) rows

ascends_from : (lo hi : ℕ) (rows : List Row) → ((r : Row) → Memᴰ r rows → hi ≤ r.first) → Ascends lo rows → Ascends hi rows
ascends_from lo hi [] f a = tt
ascends_from lo hi (r ∷ rows) f a = (f r (Memᴰ.head refl), a.1)

-- a block that starts past the start of another starts past its end
past : (log : Bytes) (n : ℕ) (r s : Row) → sound log n ≡ some r → n < s.first → sound log s.first ≡ some s → n + parts r ≤ s.first
past log n r s e h f = go (ltb s.first (n + parts r)) refl
  where
    go : (b : Bool) → ltb s.first (n + parts r) ≡ b → n + parts r ≤ s.first
    go false q = ltb-false s.first (n + parts r) q
    go true q =
        let k : n + (s.first - n) ≡ s.first = omega arith in
        let z : none ≡ some s = sym (none_inside log n (s.first - n) r e (omega arith) (omega (arith, ltb-true s.first (n + parts r) q))) ∙ ap (sound log) k ∙ f in
        let y : ◌≡◌ {A = ℕ} 0 1 = cc in
        absurd (omega arith)

from_ascend : (log : Bytes) (k n : ℕ) → Ascends n (found_from (sound log) k n)
unfolding found_from
from_ascend log zero n = tt
from_ascend log (suc k) n =
    let rest : List Row = found_from (sound log) k (suc n) in
    on_ind (Ascends n) (sound log n) rest (λ r. r ∷ rest)
    (λ _. ascends_from (suc n) n rest (λ s m. let p = from_out log k (suc n) s m in omega (arith, p.0)) (from_ascend log k (suc n)))
    (λ r e. let here : r.first ≡ n = (sound-reads log n r e).1 in
    (omega arith, rw here (ascends_from (suc n) (n + parts r) rest (λ s m. let p = from_out log k (suc n) s m in past log n r s e p.0 p.1) (from_ascend log k (suc n)))))

pub blocks_ascend : (log : Bytes) → Ascends 0 (blocks log)
unfolding blocks
blocks_ascend log = from_ascend log (sectors (length log)) 0

-- ---- a scan: past a sector where no block starts by one, past a block at once

pub step-none : (log : Bytes) (k n : ℕ) → sound log n ≡ none → found_from (sound log) (suc k) n ≡ found_from (sound log) k (suc n)
unfolding found_from
step-none log k n e = rw e

pub one-some : (log : Bytes) (k n : ℕ) (r : Row) → sound log n ≡ some r → found_from (sound log) (suc k) n ≡ r ∷ found_from (sound log) k (suc n)
unfolding found_from
one-some log k n r e = rw e

-- a run with no block
skip_run : (log : Bytes) (j k n : ℕ) → ((i : ℕ) → i < j → sound log (n + i) ≡ none) → found_from (sound log) (j + k) n ≡ found_from (sound log) k (n + j)
skip_run log zero k n f =
    let a : 0 + k ≡ k = omega arith in
    let b : n ≡ n + 0 = omega arith in
    ap (λ (x : ℕ). found_from (sound log) x n) a ∙ ap (found_from (sound log) k) b
skip_run log (suc j) k n f =
    let a : suc j + k ≡ suc (j + k) = omega arith in
    let b : suc n + j ≡ n + suc j = omega arith in
    let c : n ≡ n + 0 = omega arith in
    ap (λ (x : ℕ). found_from (sound log) x n) a
    ∙ step-none log (j + k) n (ap (sound log) c ∙ f 0 (omega arith))
    ∙ skip_run log j k (suc n) (λ i h. let d : suc n + i ≡ n + suc i = omega arith in ap (sound log) d ∙ f (suc i) (omega arith))
    ∙ ap (found_from (sound log) k) b

pub step-some : (log : Bytes) (k n : ℕ) (r : Row) → sound log n ≡ some r → found_from (sound log) (parts r + k) n ≡ r ∷ found_from (sound log) k (n + parts r)
step-some log k n r e =
    let pos : 0 < parts r = parts_pos r (sound-reads log n r e).0 in
    let a : parts r + k ≡ suc (parts r - 1 + k) = omega arith in
    let b : suc n + (parts r - 1) ≡ n + parts r = omega arith in
    ap (λ (x : ℕ). found_from (sound log) x n) a
    ∙ one-some log (parts r - 1 + k) n r e
    ∙ ap (λ (l : List Row). r ∷ l)
    (skip_run log (parts r - 1) k (suc n) (λ i h. let d : suc n + i ≡ n + suc i = omega arith in ap (sound log) d ∙ none_inside log n (suc i) r e (omega arith) (omega arith))
    ∙ ap (found_from (sound log) k) b)

-- from the end of the used part on there is none
pub blocks-past : (log : Bytes) (k n : ℕ) → used log ≤ n → found_from (sound log) k n ≡ []
unfolding found_from
blocks-past log zero n h = refl
blocks-past log (suc k) n h = step-none log k n (none-past log n h) ∙ blocks-past log k (suc n) (omega arith)

-- the blocks of two runs side by side
pub blocks-append : (log : Bytes) (j k n : ℕ) → found_from (sound log) (j + k) n ≡ found_from (sound log) j n ++ found_from (sound log) k (n + j)
unfolding found_from
blocks-append log zero k n =
    let a : 0 + k ≡ k = omega arith in
    let b : n ≡ n + 0 = omega arith in
    ap (λ (x : ℕ). found_from (sound log) x n) a ∙ ap (found_from (sound log) k) b
blocks-append log (suc j) k n = go (sound log n) refl (blocks-append log j k (suc n))
  where
    a : suc j + k ≡ suc (j + k)
    a = omega arith

    b : suc n + j ≡ n + suc j
    b = omega arith

    go : (o : Option Row) → sound log n ≡ o → found_from (sound log) (j + k) (suc n) ≡ found_from (sound log) j (suc n) ++ found_from (sound log) k (suc n + j)
        → found_from (sound log) (suc j + k) n ≡ found_from (sound log) (suc j) n ++ found_from (sound log) k (n + suc j)
    go none q f =
        ap (λ (x : ℕ). found_from (sound log) x n) a ∙ step-none log (j + k) n q ∙ f ∙ ap (λ (x : ℕ). found_from (sound log) j (suc n) ++ found_from (sound log) k x) b
        ∙ ap (λ (l : List Row). l ++ found_from (sound log) k (n + suc j)) (sym (step-none log j n q))
    go (some r) q f =
        ap (λ (x : ℕ). found_from (sound log) x n) a ∙ one-some log (j + k) n r q ∙ ap (λ (l : List Row). r ∷ l) (f ∙ ap (λ (x : ℕ). found_from (sound log) j (suc n) ++ found_from (sound log) k x) b)
        ∙ ap (λ (l : List Row). l ++ found_from (sound log) k (n + suc j)) (sym (one-some log j n r q))

-- a scan of the used part meets them all
pub blocks-used : (log : Bytes) → found_from (sound log) (used log) 0 ≡ blocks log
unfolding blocks
blocks-used log =
    let e : used log + (sectors (length log) - used log) ≡ sectors (length log) = omega (arith, used_le_sectors log) in
    sym (ap (λ (x : ℕ). found_from (sound log) x 0) (sym e)
    ∙ blocks-append log (used log) (sectors (length log) - used log) 0
    ∙ ap (λ (l : List Row). found_from (sound log) (used log) 0 ++ l) (blocks-past log (sectors (length log) - used log) (0 + used log) (omega arith))
    ∙ append-nil (found_from (sound log) (used log) 0))
