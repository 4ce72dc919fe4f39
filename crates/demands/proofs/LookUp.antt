-- The log's words and the ledger's for the same things: the blocks, the first of a type and score, what is uncovered.
use mathlib.Core.Path.{◌≡◌, refl, sym, ap, ap₂}
use mathlib.Core.Bool.{Bool, true, false, cond, not, ◌&&◌, ◌||◌}
use mathlib.Core.List.{List, [], ◌∷◌}
use mathlib.Core.Option.{Option, some}
use Prim.Native.Nat.{ℕ, zero, suc}
use native.Mathlib.Omega.{arith}
use lib.Dec.{eqb}
use borrow.Author.Tests.{ne_eqb}
use Rattle.bedrock.specs.Places.{within}
use Rattle.buffer.specs.Bytes.{Bytes, same}
use Rattle.refusal.specs.declared.Refusal.{Refusal}
use Rattle.refusal.specs.declared.Refusal.TheVariants.{NotHeld}
use Rattle.block.specs.Block.{Row, parts}
use Rattle.block.specs.Log.{used}
use Rattle.sector_log.specs.LookUp as look
use Rattle.sector_log.specs.Parts.{Lent, one_log}
use Rattle.sector_log.proofs.Blocks.{blocks-used}
use Rattle.ledger.specs.Ledger.{blocks}
use Rattle.demands.specs.Ledger.{covered_by, any_uncovered, first_uncovered, absent, first_row}
use Rattle.demands.specs.Instance.{archive}

pub blocks-same : (L : Lent) → look.blocks (one_log L) ≡ blocks archive L
unfolding blocks
blocks-same L = sym (blocks-used (one_log L))

pub first-same : (t : ℕ) (s : Bytes) (rows : List Row) → look.first_of t s rows ≡ first_row t s rows
unfolding look.first_of first_row
first-same t s [] = refl
first-same t s (r ∷ rows) = ap (λ (o : Option Row). cond (eqb r.kind t && same r.score s) (some r) o) (first-same t s rows)

pub in_same : (rows : List Row) (n : ℕ) → look.in_block rows n ≡ covered_by rows n
unfolding look.in_block covered_by
in_same [] n = refl
in_same (r ∷ rows) n = ap (λ (b : Bool). within r.first (parts r) n || b) (in_same rows n)

pub outside-none : (rows : List Row) (k : ℕ) → eqb (look.outside rows k) 0 ≡ not (any_uncovered rows k)
unfolding look.outside any_uncovered
outside-none rows zero = refl
outside-none rows (suc k) = go (look.in_block rows k) (covered_by rows k) (in_same rows k) (outside-none rows k)
  where
    go : (a b : Bool) → a ≡ b → eqb (look.outside rows k) 0 ≡ not (any_uncovered rows k)
        → eqb (cond a (look.outside rows k) (suc (look.outside rows k))) 0 ≡ not (not b || any_uncovered rows k)
    go true true e h = h
    go false false e h = ne_eqb (suc (look.outside rows k)) 0 (λ z. omega arith)
    go true false e h = cc
    go false true e h = cc

pub outside-first : (rows : List Row) (k n : ℕ) → look.first_outside rows k n ≡ first_uncovered rows k n
unfolding look.first_outside first_uncovered
outside-first rows zero n = refl
outside-first rows (suc k) n = ap₂ (λ (b : Bool) (i : ℕ). cond b i n) (in_same rows n) (outside-first rows k (suc n))

-- why a block is not found
pub absence-same : (log : Bytes) → look.absence log ≡ absent (look.blocks log) (used log)
unfolding look.absence look.doubtful look.first_doubtful
absence-same log =
    rw (outside-none (look.blocks log) (used log), outside-first (look.blocks log) (used log) 0) (turned (any_uncovered (look.blocks log) (used log)) NotHeld _)
  where
    turned : (b : Bool) (x y : Refusal) → cond (not b) x y ≡ cond b y x
    turned true x y = refl
    turned false x y = refl
