-- The number of sound blocks, by a scan from the front: so many start before sector n.
use mathlib.Core.Path.{◌≡◌, ap, ◌∙◌}
use mathlib.Core.List.{List, [], ◌∷◌, ◌++◌, append-nil}
use mathlib.Core.Option.{none, some}
use Prim.Native.Nat.{ℕ, ◌+◌}
use native.Mathlib.Omega.{arith}
use lib.ListN.{length, length-append}
use Rattle.bedrock.specs.Places.{found_from}
use Rattle.buffer.specs.Bytes.{Bytes}
use Rattle.block.specs.Block.{Row, parts}
use Rattle.block.specs.Log.{used, sound}
use Rattle.sector_log.specs.LookUp.{blocks}
use Rattle.sector_log.proofs.Blocks.{step-none, step-some, blocks-append, blocks-used}

-- the blocks that start before the sector after n, and before the end of a block at n
before-none : (log : Bytes) (n : ℕ) → sound log n ≡ none → found_from (sound log) (n + 1) 0 ≡ found_from (sound log) n 0
unfolding found_from
before-none log n e =
    let z : 0 + n ≡ n = omega arith in
    blocks-append log n 1 0
    ∙ ap (λ (l : List Row). found_from (sound log) n 0 ++ l) (step-none log 0 (0 + n) (ap (sound log) z ∙ e))
    ∙ append-nil (found_from (sound log) n 0)

before-some : (log : Bytes) (n : ℕ) (r : Row) → sound log n ≡ some r → found_from (sound log) (n + parts r) 0 ≡ found_from (sound log) n 0 ++ (r ∷ [])
unfolding found_from
before-some log n r e =
    let z : 0 + n ≡ n = omega arith in
    let k : parts r ≡ parts r + 0 = omega arith in
    blocks-append log n (parts r) 0
    ∙ ap (λ (l : List Row). found_from (sound log) n 0 ++ l) (ap (λ (x : ℕ). found_from (sound log) x (0 + n)) k ∙ step-some log 0 (0 + n) r (ap (sound log) z ∙ e))

pub records_none : (log : Bytes) (n : ℕ) → sound log n ≡ none → length (found_from (sound log) (n + 1) 0) ≡ length (found_from (sound log) n 0)
records_none log n e = ap length (before-none log n e)

pub records_some : (log : Bytes) (n : ℕ) (r : Row) → sound log n ≡ some r → length (found_from (sound log) (n + parts r) 0) ≡ length (found_from (sound log) n 0) + 1
records_some log n r e = ap length (before-some log n r e) ∙ length-append (found_from (sound log) n 0) (r ∷ [])

pub records_used : (log : Bytes) → length (found_from (sound log) (used log) 0) ≡ length (blocks log)
records_used log = ap length (blocks-used log)
