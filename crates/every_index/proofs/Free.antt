-- An index in which every place is free: clearing its buckets changes nothing.
use mathlib.Core.Path.{◌≡◌, sym, ap, ◌∙◌}
use mathlib.Core.Bool.{true}
use mathlib.Core.List.{◌++◌}
use Prim.Native.Nat.{ℕ, ◌+◌, ◌*◌, ◌/◌, ◌%◌, ◌≤◌, ◌<◌}
use native.Mathlib.Omega.{arith}
use lib.ListN.{length, get_or, take, drop, replicate, take-append-drop}
use lib.Seq.{length-take-le, get_or-take, get_or-drop}
use Rattle.buffer.specs.Bytes.{Bytes}
use Rattle.buffer.proofs.Bytes.{zeros_get_d, zeros-all, zeros_replicated}
use Rattle.index.specs.Index.{places, place_at, free, left_over, cleared}

module _ (index : Bytes) (all : (q : ℕ) → q < 256 * places (length index) → free index q ≡ true) where
  -- the bytes of the buckets
  abbrev most : ℕ
  most = 6400 * places (length index)

  fits : most ≤ length index
  fits = omega arith

  each_zero : (i : ℕ) → i < most → get_or index i 0 ≡ 0
  unfolding place_at
  each_zero i h =
      let q = i / 25 in
      let e : 25 * q + i % 25 ≡ i = omega arith in
      sym (get_or-take 25 (drop (25 * q) index) (i % 25) 0 (omega arith) ∙ get_or-drop (25 * q) index (i % 25) 0 ∙ ap (λ (j : ℕ). get_or index j 0) e)
      ∙ zeros_get_d (place_at index q) (i % 25) (all q (omega arith))

  front-zero : take most index ≡ replicate most 0
  front-zero =
      let l = length-take-le most index fits in
      zeros_replicated (take most index) (zeros-all (take most index) (λ i h. get_or-take most index i 0 (omega (arith, l, h)) ∙ each_zero i (omega (arith, l, h))))
      ∙ ap (λ (n : ℕ). replicate n 0) l

  pub free-cleared : cleared index ≡ index
  unfolding cleared
  free-cleared = ap (λ (x : Bytes). x ++ left_over index) (sym front-zero) ∙ take-append-drop most index
