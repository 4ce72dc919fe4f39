-- The least depth of a file.
use Rattle.std.specs.Prelude.{Some, None, Option as Optional, ◌≡◌, Bool, cond, ◌&&◌, ℕ, zero, suc, ◌*◌, ◌/◌, ◌^◌, ◌≤◌, ◌<◌, leb}
use Rattle.std.proofs.Math.Option.{Option, none, some}
use Rattle.bedrock.specs.Choice.{on}
use Rattle.kind.specs.Kind.{longest}

-- the first of k depths from d on at which n bytes fit
unfoldable pub depth_from : ℕ → ℕ → ℕ → ℕ → ℕ → Option ℕ
depth_from zero d n dsize p = none
depth_from (suc k) d n dsize p = cond (leb n (dsize * p ^ d)) (some d) (depth_from k (suc d) n dsize p)

-- "at the least depth": of 0 to 7, the first d such that the slice has at most dsize times p to the d bytes
abbrev pub least_depth : ℕ → ℕ → ℕ → Option ℕ
least_depth n dsize p = depth_from 8 0 n dsize p

-- "dsize not 1 to 57,344, psize not 40 to 57,344": the contrary
unfoldable pub sizes_allowed : ℕ → ℕ → Bool
sizes_allowed dsize psize = (leb 1 dsize && leb dsize longest) && (leb 40 psize && leb psize longest)

-- the depth of a file of n bytes, none where 16 refuses it
unfoldable pub depth_of : ℕ → ℕ → ℕ → Option ℕ
depth_of n dsize psize = cond (sizes_allowed dsize psize) (least_depth n dsize (psize / 20)) none

-- the same, as what is answered
abbrev pub chosen : Option ℕ → Optional ℕ
chosen o = on o None (λ d. Some d)

-- it holds the bytes, and no smaller depth does; where there is none, no depth up to 7 does
abbrev pub LeastDepth : Type 0
LeastDepth = (n dsize p : ℕ)
    → ((d : ℕ) → least_depth n dsize p ≡ some d → (d ≤ 7) × (n ≤ dsize * p ^ d) × ((k : ℕ) → k < d → dsize * p ^ k < n))
    × (least_depth n dsize p ≡ none → (k : ℕ) → k ≤ 7 → dsize * p ^ k < n)
